-- Where several items stand in a list in which they are interned.
use Rattle.std.proofs.Common.{◌≡◌, ℕ, ◌+◌, ◌<◌, zero, suc, Bool, true, false, cond, not, List, [], ◌∷◌, ◌++◌, length, nat_lt, Some, refl, sym, ap, ◌∙◌, subst, arith, append_assoc}
use Rattle.std.specs.Prelude.{slice_get}
use Rattle.std.specs.List.{AllByRecursion}
use Rattle.std.proofs.lemmas.Bool.Decides.{nat_tests}
use Rattle.std.proofs.lemmas.List.{append-nil}
use Rattle.osb_recipe.specs.Interning.{place_in, interned, interned_all}
use Rattle.osb_recipe.proofs.Interning.{IsLonger, interned-longer, place_in-held, slice_get-pushed}

-- an item is in a list where one is the same
abbrev pub Holds : {X : Type 0} → (X → X → Bool) → List X → X → Type 0
Holds same items item = place_in same items item < length items

first_step : (b : Bool) (n m : ℕ) → b ≡ true → cond (not b) (1 + n) 0 < suc m
first_step true n m e = omega arith
first_step false n m e = absurd (cc)

later_step : (b : Bool) (n m : ℕ) → n < m → cond (not b) (1 + n) 0 < suc m
later_step true n m h = omega arith
later_step false n m h = omega arith

any : {X : Type 0} (items : List X) → AllByRecursion (λ item. Unit {0}) items
any [] = tt
any (item ∷ items) = (tt, any items)

-- it stands at its place
pub stands : {X : Type 0} (same : X → X → Bool) → ((x y : X) → same x y ≡ true → x ≡ y) → (items : List X) (item : X) → Holds same items item → slice_get items (place_in same items item) ≡ Some item
stands same exact items item held = place_in-held same (λ x. Unit {0}) (λ x y first second e. exact x y e) items item (any items) tt held

-- what stands at a place is in the list
pub holds_at : {X : Type 0} (same : X → X → Bool) → ((x : X) → same x x ≡ true) → (items : List X) (item : X) (i : ℕ) → slice_get items i ≡ Some item → Holds same items item
holds_at same self [] item i e = absurd (cc)
holds_at {X} same self (x ∷ items) item zero e =
    let is : item ≡ x = cc in
    let Same : X → Type 0 = λ y. same item y ≡ true in
    first_step (same item x) (place_in same items item) (length items) (subst Same is (self item))
holds_at same self (x ∷ items) item (suc i) e = later_step (same item x) (place_in same items item) (length items) (holds_at same self items item i e)

more_step : (b : Bool) (n m few many : ℕ) → (n < m → few < many) → cond (not b) (1 + n) 0 < suc m → cond (not b) (1 + few) 0 < suc many
more_step true n m few many next h = omega arith
more_step false n m few many next h =
    let within : few < many = next (omega arith) in
    omega arith

holds_more : {X : Type 0} (same : X → X → Bool) (items more : List X) (item : X) → Holds same items item → Holds same (items ++ more) item
holds_more same [] more item h = absurd (omega arith)
holds_more same (x ∷ items) more item h = more_step (same item x) (place_in same items item) (length items) (place_in same (items ++ more) item) (length (items ++ more)) (holds_more same items more item) h

pub holds_longer : {X : Type 0} (same : X → X → Bool) (items longer : List X) (item : X) → IsLonger items longer → Holds same items item → Holds same longer item
holds_longer {X} same items longer item is h =
    let In : List X → Type 0 = λ xs. Holds same xs item in
    subst In (sym is.added) (holds_more same items is.more item h)

interned_step : {X : Type 0} (same : X → X → Bool) → ((x : X) → same x x ≡ true) → (b : Bool) (items : List X) (item : X) → b ≡ nat_lt (place_in same items item) (length items) → Holds same (cond b items (items ++ item ∷ [])) item
interned_step same self true items item test = grind (arith, nat_tests)
interned_step same self false items item test = holds_at same self (items ++ item ∷ []) item (length items) (slice_get-pushed items item)

interned_holds : {X : Type 0} (same : X → X → Bool) → ((x : X) → same x x ≡ true) → (items : List X) (item : X) → Holds same (interned same items item) item
interned_holds same self items item = interned_step same self (nat_lt (place_in same items item) (length items)) items item refl

-- ---- several items

pub longer_twice : {X : Type 0} (items longer longest : List X) → IsLonger items longer → IsLonger longer longest → IsLonger items longest
longer_twice items longer longest first second =
    record { more = first.more ++ second.more; added = second.added ∙ ap (λ xs. xs ++ second.more) first.added ∙ append_assoc items first.more second.more }

pub interned_all-longer : {X : Type 0} (same : X → X → Bool) (items more : List X) → IsLonger items (interned_all same items more)
interned_all-longer same items [] = record { more = []; added = sym (append-nil items) }
interned_all-longer same items (item ∷ more) =
    longer_twice items (interned same items item) (interned_all same (interned same items item) more) (interned-longer same items item) (interned_all-longer same (interned same items item) more)

-- each of them is in the list
pub interned_all-holds : {X : Type 0} (same : X → X → Bool) → ((x : X) → same x x ≡ true) → (items more : List X) → AllByRecursion (Holds same (interned_all same items more)) more
interned_all-holds same self items [] = tt
interned_all-holds same self items (item ∷ more) =
    let next = interned same items item in
    (holds_longer same next (interned_all same next more) item (interned_all-longer same next more) (interned_holds same self items item), interned_all-holds same self next more)
