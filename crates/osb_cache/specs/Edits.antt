-- Changes of the first element that passes a test.
use Rattle.std.specs.Prelude.{◌≡◌, ℕ, ◌<◌, Bool, true, false, if◌then◌else◌, List, [], ◌∷◌, length}
use Rattle.std.specs.List.{slice_index_or}

abbrev pub remove_first : {X : Type 0} → (X → Bool) → List X → List X
remove_first test [] = []
remove_first test (x ∷ xs) = if test x then xs else x ∷ remove_first test xs

abbrev pub update_first : {X : Type 0} → (X → Bool) → (X → X) → List X → List X
update_first test change [] = []
update_first test change (x ∷ xs) = if test x then change x ∷ xs else x ∷ update_first test change xs

-- the first element that passes the test stands at this place
pub record IsFirst {X : Type 0} (test : X → Bool) (xs : List X) (place : ℕ) : Type 0 where
  pub within : place < length xs
  pub here : (d : X) → test (slice_index_or xs place d) ≡ true
  pub before : (k : ℕ) (d : X) → k < place → test (slice_index_or xs k d) ≡ false
