-- Parts read one after another, as a loop does.
use Rattle.std.proofs.Common.{◌≡◌, ℕ, suc, ◌-◌, ◌+◌, ◌≤◌, ◌<◌, List, Option, Some, None, refl, sym, ap, ◌∙◌, arith}
use Rattle.osb_pyread.specs.declared.faults.Stop.{Stop}
use Rattle.osb_pyread.specs.declared.faults.Stop.TheVariants.{Memory, Broken}
use Rattle.osb_pyread.specs.Steps.{Fails, behind, until}

module _ {S X : Type 0} (close : List ℕ) (next : List ℕ → Option (X × List ℕ)) (add : S → X → S) where
  pub until_more : (n : ℕ) (s : S) (bytes : List ℕ) (x : X) (after : List ℕ) → behind close bytes ≡ None → next bytes ≡ Some (x, after)
      → until close next add (suc n) s bytes ≡ until close next add n (add s x) after
  unfolding until
  until_more n s bytes x after more h = rw (more, h) refl

  pub until_closed : (n : ℕ) (s : S) (bytes after : List ℕ) → behind close bytes ≡ Some after → until close next add (suc n) s bytes ≡ Some (s, after)
  unfolding until
  until_closed n s bytes after ends = rw ends refl

  until_broken : (n : ℕ) (s : S) (bytes : List ℕ) → behind close bytes ≡ None → next bytes ≡ None → until close next add (suc n) s bytes ≡ None
  unfolding until
  until_broken n s bytes more h = rw (more, h) refl

  one_less : (count i : ℕ) → i < count → count - i ≡ suc (count - (i + 1))
  one_less count i h = omega arith

  module _ (count i : ℕ) (s : S) (bytes : List ℕ) (total : Option (S × List ℕ)) (so_far : until close next add (count - i) s bytes ≡ total) where
    pub goes_on : (x : X) (after : List ℕ) → i < count → None ≡ behind close bytes → next bytes ≡ Some (x, after) → until close next add (count - (i + 1)) (add s x) after ≡ total
    goes_on x after lt more h =
        sym (ap (λ n. until close next add n s bytes) (one_less count i lt) ∙ until_more (count - (i + 1)) s bytes x after (sym more) h) ∙ so_far

    pub is_closed : (after : List ℕ) → i < count → Some after ≡ behind close bytes → total ≡ Some (s, after)
    is_closed after lt ends =
        sym so_far ∙ ap (λ n. until close next add n s bytes) (one_less count i lt) ∙ until_closed (count - (i + 1)) s bytes after (sym ends)

    pub breaks : (e : Stop) → i < count → None ≡ behind close bytes → Fails e (next bytes) → Fails e total
    breaks Memory lt more h = tt
    breaks Broken lt more h =
        sym so_far ∙ ap (λ n. until close next add n s bytes) (one_less count i lt) ∙ until_broken (count - (i + 1)) s bytes (sym more) h

    pub is_over : count ≤ i → total ≡ None
    unfolding until
    is_over le =
        let none : count - i ≡ 0 = omega arith in
        sym so_far ∙ ap (λ n. until close next add n s bytes) none
