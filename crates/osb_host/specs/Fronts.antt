-- The front of a file, as it is read piece after piece.
use Rattle.std.specs.Prelude.{◌≡◌, ℕ, ◌<◌, List, ◌++◌, length, Option}
use Rattle.std.specs.Io.KnownBytes.{Consumes, IsAtEnd}

-- what was read stands after what was there
abbrev pub HasAppended : (before now : List ℕ) (left_before left_now : Option (List ℕ)) → Type 0
HasAppended before now left_before left_now = (piece : List ℕ) × (now ≡ before ++ piece) × Consumes left_before left_now piece

-- nothing more is to be read: the file is at its end, or the front as long as it may be
abbrev pub IsWhole : List ℕ → Option (List ℕ) → Type 0
IsWhole front left = (length front < 16777217) → IsAtEnd left
