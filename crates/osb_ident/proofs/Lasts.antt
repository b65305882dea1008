-- The last of a list.
use Rattle.std.proofs.Common.{◌≡◌, ◌-◌, List, [], ◌∷◌, length, Some, None, refl, ap, ◌∙◌, arith}
use Rattle.std.specs.List.{slice_get, last_or}

slice_get-length : {X : Type 0} (x : X) (xs : List X) → slice_get (x ∷ xs) (length xs) ≡ last_or (Some x) xs
slice_get-length x [] = refl
slice_get-length x (y ∷ ys) = slice_get-length y ys

pub slice_get-last : {X : Type 0} (xs : List X) → slice_get xs (length xs - 1) ≡ last_or None xs
slice_get-last [] = refl
slice_get-last (x ∷ xs) =
    let e : length (x ∷ xs) - 1 ≡ length xs = omega arith in
    ap (slice_get (x ∷ xs)) e ∙ slice_get-length x xs
