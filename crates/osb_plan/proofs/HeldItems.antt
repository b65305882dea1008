-- What interning holds: each interned item has a place, and items that are there keep theirs.
use Rattle.std.proofs.Common.{◌≡◌, ℕ, ◌+◌, ◌<◌, zero, suc, Bool, true, false, cond, not, List, [], ◌∷◌, ◌++◌, length, nat_lt, Some, refl, sym, ap, ◌∙◌, subst, arith, append_assoc, append-nil}
use Rattle.std.specs.Prelude.{slice_get}
use Rattle.std.specs.List.{AllByRecursion}
use Rattle.std.proofs.lemmas.Bool.{false≢true}
use Rattle.std.proofs.lemmas.Bool.Decides.{nat_tests}
use Rattle.osb_recipe.specs.Interning.{place_in, interned, interned_all}
use Rattle.osb_recipe.proofs.Interning.{IsLonger, interned-longer, slice_get-more, slice_get-pushed, place_in-held}

-- ---- longer lists

pub IsLonger-itself : {X : Type 0} (items : List X) → IsLonger items items
IsLonger-itself items = record { more = []; added = sym (append-nil items) }

pub IsLonger-later : {X : Type 0} (first middle last : List X) → IsLonger first middle → IsLonger middle last → IsLonger first last
IsLonger-later {X} first middle last early late =
    record { more = early.more ++ late.more; added = late.added ∙ ap (λ (front : List X). front ++ late.more) early.added ∙ append_assoc first early.more late.more }

pub slice_get-longer : {X : Type 0} (items longer : List X) (place : ℕ) (item : X) → IsLonger items longer → slice_get items place ≡ Some item → slice_get longer place ≡ Some item
slice_get-longer {X} items longer place item long at =
    ap (λ (held : List X). slice_get held place) long.added ∙ slice_get-more items long.more place item at

pub interned_all-longer : {X : Type 0} (same : X → X → Bool) (items more : List X) → IsLonger items (interned_all same items more)
interned_all-longer same items [] = IsLonger-itself items
interned_all-longer same items (item ∷ more) =
    IsLonger-later items (interned same items item) (interned_all same (interned same items item) more) (interned-longer same items item) (interned_all-longer same (interned same items item) more)

-- ---- an item is held where its place is one of the list

abbrev pub IsHeld : {X : Type 0} → (X → X → Bool) → List X → X → Type 0
IsHeld same items item = place_in same items item < length items

held_step : (b : Bool) (few many long longer : ℕ) → (few < long → many < longer) → cond (not b) (1 + few) 0 < suc long → cond (not b) (1 + many) 0 < suc longer
held_step true few many long longer rest within = omega arith
held_step false few many long longer rest within =
    let there : few < long = omega arith in
    let later = rest there in
    omega arith

held_more : {X : Type 0} (same : X → X → Bool) (items others : List X) (item : X) → IsHeld same items item → IsHeld same (items ++ others) item
held_more same [] others item held = absurd (omega arith)
held_more same (x ∷ items) others item held =
    held_step (same item x) (place_in same items item) (place_in same (items ++ others) item) (length items) (length (items ++ others)) (held_more same items others item) held

pub IsHeld-longer : {X : Type 0} (same : X → X → Bool) (items longer : List X) (item : X) → IsLonger items longer → IsHeld same items item → IsHeld same longer item
IsHeld-longer {X} same items longer item long held =
    subst (λ (list : List X). IsHeld same list item) (sym long.added) (held_more same items long.more item held)

at_first : (b : Bool) (place long : ℕ) → b ≡ true → cond (not b) (1 + place) 0 < suc long
at_first true place long e = omega arith
at_first false place long e = absurd (false≢true e)

behind_first : (b : Bool) (place long : ℕ) → place < long → cond (not b) (1 + place) 0 < suc long
behind_first true place long h = omega arith
behind_first false place long h = omega arith

-- what stands in a list is held
pub IsHeld-at : {X : Type 0} (same : X → X → Bool) (items : List X) (place : ℕ) (item : X) → same item item ≡ true → slice_get items place ≡ Some item → IsHeld same items item
IsHeld-at same [] place item self at = absurd (cc)
IsHeld-at same (x ∷ items) zero item self at =
    let is : item ≡ x = cc in
    at_first (same item x) (place_in same items item) (length items) (sym (ap (same item) is) ∙ self)
IsHeld-at same (x ∷ items) (suc place) item self at = behind_first (same item x) (place_in same items item) (length items) (IsHeld-at same items place item self at)

held_after : {X : Type 0} (same : X → X → Bool) (b : Bool) (items : List X) (item : X) → same item item ≡ true → b ≡ nat_lt (place_in same items item) (length items) → IsHeld same (cond b items (items ++ item ∷ [])) item
held_after same true items item self test = grind (arith, nat_tests)
held_after same false items item self test = IsHeld-at same (items ++ item ∷ []) (length items) item self (slice_get-pushed items item)

pub interned-holds : {X : Type 0} (same : X → X → Bool) (items : List X) (item : X) → same item item ≡ true → IsHeld same (interned same items item) item
interned-holds same items item self = held_after same (nat_lt (place_in same items item) (length items)) items item self refl

pub interned_all-holds : {X : Type 0} (same : X → X → Bool) → ((x : X) → same x x ≡ true) → (items more : List X) → AllByRecursion (IsHeld same (interned_all same items more)) more
interned_all-holds same self items [] = tt
interned_all-holds same self items (item ∷ more) = (
  IsHeld-longer same (interned same items item) (interned_all same (interned same items item) more) item (interned_all-longer same (interned same items item) more) (interned-holds same items item (self item)),
  interned_all-holds same self (interned same items item) more,
)

all_hold : {X : Type 0} (items : List X) → AllByRecursion (λ (item : X). Unit {0}) items
all_hold [] = tt
all_hold (item ∷ items) = (tt, all_hold items)

-- for a test that tells equal items, what is held stands at its place
pub IsHeld-stands : {X : Type 0} (same : X → X → Bool) → ((x y : X) → same x y ≡ true → x ≡ y) → (items : List X) (item : X) → IsHeld same items item → slice_get items (place_in same items item) ≡ Some item
IsHeld-stands {X} same exact items item held = place_in-held same (λ (x : X). Unit {0}) (λ x y first second e. exact x y e) items item (all_hold items) tt held
