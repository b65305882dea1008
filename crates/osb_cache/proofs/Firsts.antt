-- The first element that passes a test: its place, and the list without it or with it changed.
use Rattle.std.proofs.Common.{◌≡◌, ℕ, zero, suc, ◌+◌, ◌≤◌, Bool, true, false, not, ◌||◌, cond, nat_lt, List, [], ◌∷◌, length, get_or, set, find, position, Option, Some, None, refl, sym, ap, subst, ◌∙◌, arith}
use Rattle.std.specs.List.{remove, list_any, position_or_len}
use Rattle.std.proofs.lemmas.Bool.{false≢true, ltb-false, cond-true, cond-false}
use Rattle.std.proofs.lemmas.Option.{none-some}
use Rattle.std.proofs.lemmas.List.Quantifiers.{position-Some}
use Rattle.osb_cache.specs.Edits.{remove_first, update_first, IsFirst}

pub first-at : {X : Type 0} → (p : X → Bool) (xs : List X) (i : ℕ) → position p xs ≡ Some i → IsFirst p xs i
first-at p [] i e = absurd (none-some i e)
first-at p (x ∷ xs) i e =
    record {
      within = (position-Some p (x ∷ xs) i x e).0;
      here = λ d. (position-Some p (x ∷ xs) i d e).1;
      before = λ k d h. (position-Some p (x ∷ xs) i d e).2 k h;
    }

first-tail : {X : Type 0} → (p : X → Bool) (x : X) (xs : List X) (i : ℕ) → IsFirst p (x ∷ xs) (suc i) → IsFirst p xs i
first-tail p x xs i f =
    record { within = omega (arith, f.within); here = λ d. f.here d; before = λ k d h. f.before (suc k) d (omega arith) }

pub removed_at : {X : Type 0} → (p : X → Bool) (xs : List X) (i : ℕ) → IsFirst p xs i → remove xs i ≡ remove_first p xs
removed_at p [] i f = absurd (omega (arith, f.within))
removed_at p (x ∷ xs) zero f = sym (cond-true (p x) xs (x ∷ remove_first p xs) (f.here x))
removed_at {X} p (x ∷ xs) (suc i) f =
    ap (λ (rest : List X). x ∷ rest) (removed_at p xs i (first-tail p x xs i f)) ∙ sym (cond-false (p x) xs (x ∷ remove_first p xs) (f.before 0 x (omega arith)))

pub updated_at : {X : Type 0} → (p : X → Bool) (change : X → X) (xs : List X) (i : ℕ) (y d : X) → IsFirst p xs i → y ≡ change (get_or xs i d) → set xs i y ≡ update_first p change xs
updated_at p change [] i y d f e = absurd (omega (arith, f.within))
updated_at {X} p change (x ∷ xs) zero y d f e =
    ap (λ (z : X). z ∷ xs) e ∙ sym (cond-true (p x) (change x ∷ xs) (x ∷ update_first p change xs) (f.here x))
updated_at {X} p change (x ∷ xs) (suc i) y d f e =
    ap (λ (rest : List X). x ∷ rest) (updated_at p change xs i y d (first-tail p x xs i f) e) ∙ sym (cond-false (p x) (change x ∷ xs) (x ∷ update_first p change xs) (f.before 0 x (omega arith)))

pub found_at : {X : Type 0} → (p : X → Bool) (xs : List X) (i : ℕ) (d : X) → IsFirst p xs i → find p xs ≡ Some (get_or xs i d)
found_at p [] i d f = absurd (omega (arith, f.within))
found_at p (x ∷ xs) zero d f = cond-true (p x) (Some x) (find p xs) (f.here x)
found_at p (x ∷ xs) (suc i) d f = cond-false (p x) (Some x) (find p xs) (f.before 0 x (omega arith)) ∙ found_at p xs i d (first-tail p x xs i f)

none_step : {X : Type 0} → (b : Bool) (x : X) (n m : ℕ) (o : Option X) → (n ≤ m → o ≡ None) → suc n ≤ cond (not b) (1 + m) 0 → cond b (Some x) o ≡ None
none_step true x n m o ih h = absurd (omega (arith, h))
none_step false x n m o ih h = ih (omega (arith, h))

none_past : {X : Type 0} → (p : X → Bool) (xs : List X) → length xs ≤ position_or_len p xs → find p xs ≡ None
none_past p [] h = refl
none_past p (x ∷ xs) h = none_step (p x) x (length xs) (position_or_len p xs) (find p xs) (none_past p xs) h

past_step : (b : Bool) (i n : ℕ) → cond b (Some i) None ≡ None → b ≡ false
past_step true i n e = cc
past_step false i n e = refl

pub none_found : {X : Type 0} → (p : X → Bool) (xs : List X) → position p xs ≡ None → find p xs ≡ None
none_found p xs e =
    none_past p xs (ltb-false (position_or_len p xs) (length xs) (past_step (nat_lt (position_or_len p xs) (length xs)) (position_or_len p xs) 0 e))

any_step : {X : Type 0} → (b t : Bool) (x : X) (o : Option X) → (t ≡ true → (y : X) × (o ≡ Some y)) → (b || t) ≡ true → (y : X) × (cond b (Some x) o ≡ Some y)
any_step true t x o ih e = (x, refl)
any_step false t x o ih e = ih e

-- where some element passes, one is found
pub found_any : {X : Type 0} → (p : X → Bool) (xs : List X) → list_any p xs ≡ true → (y : X) × (find p xs ≡ Some y)
found_any p [] e = absurd (false≢true e)
found_any p (x ∷ xs) e = any_step (p x) (list_any p xs) x (find p xs) (found_any p xs) e

pub any_not_none : {X : Type 0} → (p : X → Bool) (xs : List X) → list_any p xs ≡ true → find p xs ≡ None → ⊥
any_not_none p xs e n = let f = found_any p xs e in none-some f.0 (sym n ∙ f.1)

same_any_step : {X : Type 0} → (b t : Bool) (x y : X) (o : Option X) → (o ≡ Some y → t ≡ true) → cond b (Some x) o ≡ Some y → (b || t) ≡ true
same_any_step true t x y o ih e = refl
same_any_step false t x y o ih e = ih e

pub any_found : {X : Type 0} → (p : X → Bool) (xs : List X) (y : X) → find p xs ≡ Some y → list_any p xs ≡ true
any_found p [] y e = absurd (none-some y e)
any_found p (x ∷ xs) y e = same_any_step (p x) (list_any p xs) x y (find p xs) (any_found p xs y) e

passes_step : {X : Type 0} → (p : X → Bool) (b : Bool) (x y : X) (o : Option X) → p x ≡ b → (o ≡ Some y → p y ≡ true) → cond b (Some x) o ≡ Some y → p y ≡ true
passes_step {X} p true x y o here ih e =
    let same : x ≡ y = cc in
    subst (λ (z : X). p z ≡ true) same here
passes_step p false x y o here ih e = ih e

pub found_passes : {X : Type 0} → (p : X → Bool) (xs : List X) (y : X) → find p xs ≡ Some y → p y ≡ true
found_passes p [] y e = absurd (none-some y e)
found_passes p (x ∷ xs) y e = passes_step p (p x) x y (find p xs) refl (found_passes p xs y) e

pub remove-set : {X : Type 0} → (xs : List X) (i : ℕ) (y : X) → remove (set xs i y) i ≡ remove xs i
remove-set [] i y = refl
remove-set (x ∷ xs) zero y = refl
remove-set {X} (x ∷ xs) (suc i) y = ap (λ (rest : List X). x ∷ rest) (remove-set xs i y)

-- where some element passes, the first that does has a place
pub some_place : {X : Type 0} → (p : X → Bool) (xs : List X) → list_any p xs ≡ true → position p xs ≡ None → ⊥
some_place p xs e n = any_not_none p xs e (none_found p xs n)
