-- Where the items of interned lists stand, for a test of sameness that tells equal items.
use Rattle.std.proofs.Common.{◌≡◌, ℕ, ◌+◌, ◌<◌, ◌≤◌, zero, suc, Bool, true, false, cond, not, List, [], ◌∷◌, ◌++◌, length, nat_lt, Some, refl, sym, ap, subst, arith}
use Rattle.std.specs.Prelude.{slice_get}
use Rattle.std.specs.List.{AllByRecursion}
use Rattle.std.proofs.lemmas.Bool.Decides.{nat_tests}
use Rattle.osb_recipe.specs.Interning.{place_in, interned}

-- ---- places in longer lists

pub slice_get-more : {X : Type 0} (xs ys : List X) (i : ℕ) (x : X) → slice_get xs i ≡ Some x → slice_get (xs ++ ys) i ≡ Some x
slice_get-more [] ys i x e = absurd (cc)
slice_get-more (y ∷ xs) ys zero x e = e
slice_get-more (y ∷ xs) ys (suc i) x e = slice_get-more xs ys i x e

pub slice_get-pushed : {X : Type 0} (xs : List X) (x : X) → slice_get (xs ++ x ∷ []) (length xs) ≡ Some x
slice_get-pushed [] x = refl
slice_get-pushed (y ∷ xs) x = slice_get-pushed xs x

pub AllByRecursion-pushed : {X : Type 0} (P : X → Type 0) (xs : List X) (x : X) → AllByRecursion P xs → P x → AllByRecursion P (xs ++ x ∷ [])
AllByRecursion-pushed P [] x all p = (p, tt)
AllByRecursion-pushed P (y ∷ xs) x all p = (all.0, AllByRecursion-pushed P xs x all.1 p)

-- ---- the place of an item

-- the test tells equal items where they have a property
abbrev pub Tells : {X : Type 0} → (X → X → Bool) → (X → Type 0) → Type 0
Tells {X} same P = (x y : X) → P x → P y → same x y ≡ true → x ≡ y

place_step : {X : Type 0} (b : Bool) (n : ℕ) (item x : X) (xs : List X) → (b ≡ true → item ≡ x) → (n < length xs → slice_get xs n ≡ Some item) → cond (not b) (1 + n) 0 < length (x ∷ xs) → slice_get (x ∷ xs) (cond (not b) (1 + n) 0) ≡ Some item
place_step true n item x xs equal rest within = ap Some (sym (equal refl))
place_step false n item x xs equal rest within =
    let P : ℕ → Type 0 = λ k. slice_get (x ∷ xs) k ≡ Some item in
    let next : suc n ≡ 1 + n = omega arith in
    subst P next (rest (omega arith))

-- where an equal item is held, it stands at its place
pub place_in-held : {X : Type 0} (same : X → X → Bool) (P : X → Type 0) → Tells same P → (items : List X) (item : X) → AllByRecursion P items → P item → place_in same items item < length items → slice_get items (place_in same items item) ≡ Some item
place_in-held same P tells [] item all p within = absurd (omega arith)
place_in-held same P tells (x ∷ items) item all p within =
    place_step (same item x) (place_in same items item) item x items (tells item x p all.0) (place_in-held same P tells items item all.1 p) within

within_step : (b : Bool) (n m : ℕ) → n ≤ m → cond (not b) (1 + n) 0 ≤ suc m
within_step true n m h = omega arith
within_step false n m h = omega arith

pub place_in-within : {X : Type 0} (same : X → X → Bool) (items : List X) (item : X) → place_in same items item ≤ length items
place_in-within same [] item = omega arith
place_in-within same (x ∷ items) item = within_step (same item x) (place_in same items item) (length items) (place_in-within same items item)

-- ---- interned lists

-- all that was there stands where it stood
pub record IsLonger {X : Type 0} (items longer : List X) : Type 0 where
  pub more : List X
  pub added : longer ≡ items ++ more

append-nil : {X : Type 0} (xs : List X) → xs ≡ xs ++ []
append-nil [] = refl
append-nil (x ∷ xs) = ap (λ ys. x ∷ ys) (append-nil xs)

longer_step : {X : Type 0} (b : Bool) (items : List X) (item : X) → IsLonger items (cond b items (items ++ item ∷ []))
longer_step true items item = record { more = []; added = append-nil items }
longer_step false items item = record { more = item ∷ []; added = refl }

pub interned-longer : {X : Type 0} (same : X → X → Bool) (items : List X) (item : X) → IsLonger items (interned same items item)
interned-longer same items item = longer_step (nat_lt (place_in same items item) (length items)) items item

item_step : {X : Type 0} (b : Bool) (n : ℕ) (items : List X) (item : X) → n ≤ length items → b ≡ nat_lt n (length items) → (n < length items → slice_get items n ≡ Some item) → slice_get (cond b items (items ++ item ∷ [])) n ≡ Some item
item_step true n items item within test held = held (grind (arith, nat_tests))
item_step false n items item within test held =
    let P : ℕ → Type 0 = λ k. slice_get (items ++ item ∷ []) k ≡ Some item in
    let last : length items ≡ n = grind (arith, nat_tests) in
    subst P last (slice_get-pushed items item)

-- the item stands at its place
pub interned-place : {X : Type 0} (same : X → X → Bool) (P : X → Type 0) → Tells same P → (items : List X) (item : X) → AllByRecursion P items → P item → slice_get (interned same items item) (place_in same items item) ≡ Some item
interned-place same P tells items item all p =
    item_step (nat_lt (place_in same items item) (length items)) (place_in same items item) items item (place_in-within same items item) refl (place_in-held same P tells items item all p)

all_step : {X : Type 0} (P : X → Type 0) (b : Bool) (items : List X) (item : X) → AllByRecursion P items → P item → AllByRecursion P (cond b items (items ++ item ∷ []))
all_step P true items item all p = all
all_step P false items item all p = AllByRecursion-pushed P items item all p

pub interned-all : {X : Type 0} (same : X → X → Bool) (P : X → Type 0) (items : List X) (item : X) → AllByRecursion P items → P item → AllByRecursion P (interned same items item)
interned-all same P items item all p = all_step P (nat_lt (place_in same items item) (length items)) items item all p
