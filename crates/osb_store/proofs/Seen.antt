-- What tells whether an item is there, when one more is.
use Rattle.std.proofs.Common.{◌≡◌, ℕ, ◌==◌, ◌||◌, Bool, true, false, cond, List, [], ◌∷◌, ◌++◌, refl, sym, ap, ◌∙◌}
use Rattle.std.specs.List.{list_any}
use Rattle.std.specs.Cmp.Lexicographic.{pointwise, slice_cmp, texts_ties, bytes_decides}
use Rattle.std.specs.Ordering.{nat_cmp, is_eq}
use Rattle.osb_store.specs.Places.{same_text}

pub same_bool : (a b : Bool) → (a ≡ true → b ≡ true) → (b ≡ true → a ≡ true) → a ≡ b
same_bool true b f g = sym (f refl)
same_bool false true f g = g refl
same_bool false false f g = refl

-- the order of two texts tells whether they are one
pub same_order : (held text : List ℕ) → is_eq (slice_cmp nat_cmp held text) ≡ same_text text held
same_order held text =
    sym (texts_ties held text)
    ∙ same_bool (pointwise ◌==◌ held text) (pointwise ◌==◌ text held) (λ e. (bytes_decides text held).1 (sym ((bytes_decides held text).0 e))) (λ e. (bytes_decides held text).1 (sym ((bytes_decides text held).0 e)))

any_more : {X : Type 0} (test : X → Bool) (xs : List X) (x : X) → list_any test (xs ++ x ∷ []) ≡ cond (test x) true (list_any test xs)
any_more test [] x = last (test x)
  where
    last : (b : Bool) → (b || false) ≡ cond b true false
    last true = refl
    last false = refl
any_more test (y ∷ xs) x = ap (λ b. test y || b) (any_more test xs x) ∙ swapped (test y) (test x) (list_any test xs)
  where
    swapped : (a b c : Bool) → (a || cond b true c) ≡ cond b true (a || c)
    swapped true true c = refl
    swapped true false c = refl
    swapped false b c = refl

pub held_more : {X : Type 0} (test : X → Bool) (xs more : List X) (x : X) (same was now : Bool) → was ≡ list_any test xs → now ≡ cond same true was → same ≡ test x → more ≡ xs ++ x ∷ [] → now ≡ list_any test more
held_more test xs more x same was now held put is made =
    put ∙ (λ i. cond (is i) true (held i)) ∙ sym (ap (list_any test) made ∙ any_more test xs x)
