-- The pieces of a store's bytes: numbers, and bytes with their length before them.
use Rattle.std.specs.Prelude.{ℕ, List, ◌++◌, length}
use Rattle.std.specs.Int.{bytes_high_first}

-- a number in eight bytes, the highest first
unfoldable pub number : ℕ → List ℕ
number n = bytes_high_first 8 n

-- in four bytes
unfoldable pub small_number : ℕ → List ℕ
small_number n = bytes_high_first 4 n

-- bytes behind their length
abbrev pub field : List ℕ → List ℕ
field bytes = number (length bytes) ++ bytes
