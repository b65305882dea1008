-- A loop that reads values one after another, behind those that it has read.
use Rattle.std.proofs.Common.{◌≡◌, ℕ, suc, ◌+◌, ◌-◌, ◌<◌, List, [], ◌∷◌, ◌++◌, Option, Some, None, Err, refl, sym, ap, ◌∙◌, append_assoc, arith}
use Rattle.std.specs.Option.{option_map, option_and_then}
use Rattle.osb_store.specs.Reading.{At, times_at}
use Rattle.osb_store.specs.Steps.{Gives}
use Rattle.osb_store.specs.declared.steps.Stop.{Stop}
use Rattle.osb_store.specs.declared.steps.Stop.TheVariants.{Broken, Memory}

-- values behind others
abbrev pub with_front : {X : Type 0} → List X → Option (List X × List ℕ) → Option (List X × List ℕ)
with_front front read = option_map (λ xs. (front ++ xs.0, xs.1)) read

module _ {X : Type 0} where
  more_in_front : (front : List X) (x : X) (read : Option (List X × List ℕ)) → with_front front (option_map (λ xs. (x ∷ xs.0, xs.1)) read) ≡ with_front (front ++ x ∷ []) read
  more_in_front front x None = refl
  more_in_front front x (Some xs) = λ i. Some (sym (append_assoc front (x ∷ []) xs.0) i, xs.1)

  module _ (read : At X) where
    module _ (n i : ℕ) (front : List X) (rest : List ℕ) (whole : Option (List X × List ℕ)) (so_far : with_front front (times_at read (n - i) rest) ≡ whole) where
      later : i < n → n - i ≡ suc (n - (i + 1))
      later h = omega arith

      pub times_go_on : (x : X) (after : List ℕ) → i < n → read rest ≡ Some (x, after) → with_front (front ++ x ∷ []) (times_at read (n - (i + 1)) after) ≡ whole
      times_go_on x after h e =
          sym (more_in_front front x (times_at read (n - (i + 1)) after))
          ∙ ap (λ (o : Option (X × List ℕ)). with_front front (option_and_then (λ y. option_map (λ ys. (y.0 ∷ ys.0, ys.1)) (times_at read (n - (i + 1)) y.1)) o)) (sym e)
          ∙ ap (λ (m : ℕ). with_front front (times_at read m rest)) (sym (later h)) ∙ so_far

      times_break : i < n → read rest ≡ None → whole ≡ None
      times_break h e =
          sym so_far ∙ ap (λ (m : ℕ). with_front front (times_at read m rest)) (later h)
          ∙ ap (λ (o : Option (X × List ℕ)). with_front front (option_and_then (λ y. option_map (λ ys. (y.0 ∷ ys.0, ys.1)) (times_at read (n - (i + 1)) y.1)) o)) e

      pub times_stop : {V W : Type 0} (seen : V → X × List ℕ) (all : W → List X × List ℕ) (stop : Stop) → i < n → Gives seen (Err stop) (read rest) → Gives all (Err stop) whole
      times_stop seen all Broken h e = times_break h e
      times_stop seen all Memory h e = tt
