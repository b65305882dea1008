-- The entries that a cache opens with.
use Rattle.std.proofs.Common.{◌≡◌, ℕ, ◌+◌, List, [], ◌∷◌, ◌++◌, length, refl, ap, arith}
use Rattle.osb_cache.specs.declared.answers.Stored.{Stored}
use Rattle.osb_cache.specs.Caches.{Line, opening_line, opening_lines}

pub opening_lines-push : {C : Type 0} → (weight : C → ℕ) (first used : ℕ) (entries : List (Stored C)) (stored : Stored C) → used ≡ first + length entries → opening_lines weight first (entries ++ stored ∷ []) ≡ opening_lines weight first entries ++ opening_line weight used stored ∷ []
opening_lines-push {C} weight first used [] stored e =
    let same : first ≡ used = omega (arith, e) in
    ap (λ (n : ℕ). opening_line weight n stored ∷ []) same
opening_lines-push {C} weight first used (x ∷ entries) stored e =
    ap (λ (rest : List (Line C)). opening_line weight first x ∷ rest) (opening_lines-push weight (first + 1) used entries stored (omega (arith, e)))

pub length-opening_lines : {C : Type 0} → (weight : C → ℕ) (first : ℕ) (entries : List (Stored C)) → length (opening_lines weight first entries) ≡ length entries
length-opening_lines weight first [] = refl
length-opening_lines weight first (x ∷ entries) = omega (arith, length-opening_lines weight (first + 1) entries)
