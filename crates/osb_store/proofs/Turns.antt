-- The turns of a loop that reads one item after another.
use Rattle.std.proofs.Common.{◌≡◌, ℕ, suc, ◌+◌, ◌-◌, ◌<◌, Bool, List, [], ◌∷◌, ◌++◌, Some, Result, length, sym, ap, ◌∙◌, length-append, arith}
use Rattle.osb_store.specs.Reading.{At}
use Rattle.osb_store.specs.Lists.{checked_at, then_from, items_at}

module _ {X : Type 0} (read : At X) (test : List X → X → Bool) where
  -- the list with one more item, and what is to come
  pub turned : (count i place : ℕ) (before seen made : List X) (rest : List ℕ) (whole : Result (List X × List ℕ) ℕ) (x : X × List ℕ) → seen ≡ before → made ≡ before ++ x.0 ∷ [] → length before ≡ i → i < count → items_at read test (count - i) (place + i) before rest ≡ whole
      → checked_at read test seen rest ≡ Some x → (length made ≡ i + 1) × (items_at read test (count - (i + 1)) (place + (i + 1)) made x.1 ≡ whole)
  turned count i place before seen made rest whole x same is long below so next =
      let sizes = ap length is in
      let left : suc (count - (i + 1)) ≡ count - i = omega arith in
      let at : place + (i + 1) ≡ suc (place + i) = omega arith in
      let here : checked_at read test before rest ≡ Some x = ap (λ (xs : List X). checked_at read test xs rest) (sym same) ∙ next in (
        omega (arith, sizes, length-append before (x.0 ∷ [])),
        ap (λ (xs : List X). items_at read test (count - (i + 1)) (place + (i + 1)) xs x.1) is
            ∙ ap (λ (k : ℕ). items_at read test (count - (i + 1)) k (before ++ x.0 ∷ []) x.1) at
            ∙ ap (λ piece. then_from (place + i) piece (λ y. items_at read test (count - (i + 1)) (suc (place + i)) (before ++ y.0 ∷ []) y.1)) (sym here)
            ∙ ap (λ (k : ℕ). items_at read test k (place + i) before rest) left ∙ so,
      )
