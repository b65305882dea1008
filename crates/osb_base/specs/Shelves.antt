-- What a shelf holds: files by name.
use Rattle.std.specs.Prelude.{◌≡◌, ℕ, ◌==◌, ◌≤◌, List, length, take, Option, option_map, Result, IfOk, IfSome}
use Rattle.std.specs.List.{IsDistinct}
use Rattle.std.specs.Cmp.Lexicographic.{pointwise}
use Rattle.std.specs.Map.{keys_of, lookup}
use Rattle.osb_base.specs.Calls.{Calls}

-- files by name, with their bytes
abbrev pub Files : Type 0
Files = List (List ℕ × List ℕ)

abbrev pub AreFiles : Files → Type 0
AreFiles files = IsDistinct (pointwise ◌==◌) (keys_of files)

-- the bytes under a name
abbrev pub file_of : Files → List ℕ → Option (List ℕ)
file_of files name = lookup (pointwise ◌==◌ name) files

-- what a shelf gives of a file: it stops one byte past 16,777,216, and so shows that there are more
unfoldable pub cut : List ℕ → List ℕ
cut bytes = take 16777217 bytes

-- a read gave what is under the name
abbrev pub IsRead : {E : Type 0} → Files → List ℕ → Result (Option (List ℕ)) E → Type 0
IsRead files name result = IfOk result (λ found. found ≡ option_map cut (file_of files name))

-- no file is given longer than a shelf gives it
abbrev pub IsCut : {E : Type 0} → Result (Option (List ℕ)) E → Type 0
IsCut result = IfOk result (λ found. IfSome found (λ bytes. length bytes ≤ 16777217))

-- a shelf in memory
pub record ShelfState : Type 0 where
  pub held : Files
  pub calls : Calls
