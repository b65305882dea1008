-- The items of a list, one place after another.
use Rattle.std.proofs.Common.{◌≡◌, ℕ, ◌+◌, ◌<◌, zero, suc, refl, List, [], ◌∷◌, ◌++◌, length, map, min, take, get_or, Some, option_map, ap, ◌∙◌, arith}
use Rattle.std.specs.Prelude.{zip}
use Rattle.std.specs.List.{slice_get}
use Rattle.std.specs.Map.{keys_of}
use Rattle.std.proofs.lemmas.List.{take_more}
use Rattle.std.proofs.lemmas.Map.Entries.{length-keys_of}
use Rattle.std.proofs.lemmas.Option.{none-some, same_Some, slice_get-map, slice_get_read, slice_get_within, get_or_from_slice_get}

pub take_more_at : {X : Type 0} (xs : List X) (i : ℕ) (x : X) → slice_get xs i ≡ Some x → take (i + 1) xs ≡ take i xs ++ x ∷ []
take_more_at {X} xs i x found =
    take_more xs i x (slice_get_within xs i x found) ∙ ap (λ (y : X). take i xs ++ y ∷ []) (get_or_from_slice_get xs i x x found)

-- of items that are made of others
pub take_more_of : {X Y : Type 0} (f : X → Y) (xs : List X) (i : ℕ) (x : X) → slice_get xs i ≡ Some x
    → take (i + 1) (map f xs) ≡ take i (map f xs) ++ f x ∷ []
take_more_of f xs i x found = take_more_at (map f xs) i (f x) (slice_get-map f xs i ∙ ap (option_map f) found)

-- what is read at a place of a slice is there in the list that the slice shows
pub slice_get_shown : {X : Type 0} (shown xs : List X) (i : ℕ) (x : X) → shown ≡ xs → i < length shown → x ≡ get_or shown i x → slice_get xs i ≡ Some x
slice_get_shown shown xs i x same within is = rw (← same) (slice_get_read shown (length shown) i x refl within is)

-- ---- two lists in step

length-zip : {K X : Type 0} (ks : List K) (xs : List X) → length (zip ks xs) ≡ min (length ks) (length xs)
length-zip [] xs = omega arith
length-zip (k ∷ ks) [] = omega arith
length-zip (k ∷ ks) (x ∷ xs) = let more = length-zip ks xs in omega (arith, more)

-- where the first are a map's keys
pub length-zip-keys : {K V X : Type 0} (entries : List (K × V)) (xs : List X) → length (zip (keys_of entries) xs) ≡ min (length entries) (length xs)
length-zip-keys entries xs = omega (arith, length-zip (keys_of entries) xs, length-keys_of entries)

pub slice_get-zip : {K X : Type 0} (ks : List K) (xs : List X) (i : ℕ) (k : K) (x : X) → slice_get ks i ≡ Some k → slice_get xs i ≡ Some x
    → slice_get (zip ks xs) i ≡ Some (k, x)
slice_get-zip [] xs i k x f s = absurd (none-some k f)
slice_get-zip (l ∷ ks) [] i k x f s = absurd (none-some x s)
slice_get-zip (l ∷ ks) (y ∷ xs) zero k x f s =
    let first : l ≡ k = same_Some l k f in
    let second : y ≡ x = same_Some y x s in
    rw (first, second) refl
slice_get-zip (l ∷ ks) (y ∷ xs) (suc i) k x f s = slice_get-zip ks xs i k x f s
