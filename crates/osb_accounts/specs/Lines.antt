-- Account files as data: lines of fields, as passwd(5), group(5) and shadow(5) have them.
use Rattle.std.specs.Prelude.{ℕ, zero, suc, ◌+◌, ◌==◌, Bool, true, false, ◌&&◌, List, [], ◌∷◌, ◌++◌, length, map, flat_map, unwrap_or, Option, Some, None, if◌then◌else◌}
use Rattle.std.specs.Option.{option_map}
use Rattle.std.specs.List.{list_any, slice_get, slice_set, join_with_byte}
use Rattle.std.specs.Cmp.Lexicographic.{pointwise}
use Rattle.osb_tree.specs.Accounts.{lines_of, fields_of, value_of, is_account_number, field_count}
use Rattle.osb_tree.specs.declared.accounts.AccountFile.{AccountFile}
use Rattle.osb_tree.specs.declared.accounts.AccountFile.TheVariants.{Passwd, Group, Shadow}

-- a line, by its fields; an empty line has none
abbrev pub Fields : Type 0
Fields = List (List ℕ)

abbrev pub FileLines : Type 0
FileLines = List Fields

-- ---- a file's text

-- what divides fields is a colon
abbrev pub line_text : Fields → List ℕ
line_text line = join_with_byte 58 line

-- every line ends in a line feed
abbrev pub file_text : FileLines → List ℕ
file_text lines = flat_map (λ line. line_text line ++ 10 ∷ []) lines

abbrev pub line_of : List ℕ → Fields
line_of [] = []
line_of (byte ∷ text) = fields_of (byte ∷ text)

-- after the last line feed there is no line where nothing stands
abbrev pub ended : List (List ℕ) → List (List ℕ)
ended [] = []
ended ([] ∷ []) = []
ended ((byte ∷ text) ∷ []) = (byte ∷ text) ∷ []
ended (text ∷ next ∷ texts) = text ∷ ended (next ∷ texts)

-- the lines of a text
abbrev pub lines_in : List ℕ → FileLines
lines_in bytes = map line_of (ended (lines_of bytes))

-- ---- a line's fields

-- by its place, from 0; empty where the line has no such field
abbrev pub field : ℕ → Fields → List ℕ
field place line = unwrap_or (slice_get line place) []

-- the line of an account, which has its name as the first field
abbrev pub is_line_of : List ℕ → Fields → Bool
is_line_of name [] = false
is_line_of name (first ∷ fields) = pointwise ◌==◌ first name

-- the fields that have to be numbers: of passwd the user's and the group's, of group the group's
abbrev pub has_numbers : AccountFile → Fields → Bool
has_numbers Passwd line = is_account_number (field 2 line) && is_account_number (field 3 line)
has_numbers Group line = is_account_number (field 2 line)
has_numbers Shadow line = true

-- which lines the file may have: empty ones, and those of its fields, where some have to be numbers
abbrev pub is_well_formed : AccountFile → Fields → Bool
is_well_formed file [] = true
is_well_formed file (first ∷ fields) = length (first ∷ fields) == field_count file && has_numbers file (first ∷ fields)

-- the first line that the file may not have, where lines count from a first number
abbrev pub bad_line_from : AccountFile → ℕ → FileLines → Option ℕ
bad_line_from file number [] = None
bad_line_from file number (line ∷ lines) = if is_well_formed file line then bad_line_from file (number + 1) lines else Some number

-- its number, from 1
abbrev pub bad_line : AccountFile → FileLines → Option ℕ
bad_line file lines = bad_line_from file 1 lines

-- the place of the first line of a name, from 0
abbrev pub place_of : List ℕ → FileLines → Option ℕ
place_of name [] = None
place_of name (line ∷ lines) = if is_line_of name line then Some 0 else option_map (λ place. place + 1) (place_of name lines)

abbrev pub line_at : ℕ → FileLines → Fields
line_at place lines = unwrap_or (slice_get lines place) []

-- the lines with another text in one field of one line
abbrev pub with_field : ℕ → ℕ → List ℕ → FileLines → FileLines
with_field place number text lines = slice_set lines place (slice_set (line_at place lines) number text)

-- ---- numbers of accounts

-- the number that a field says; 0 where it says none
abbrev pub number_at : ℕ → Fields → ℕ
number_at place line = if is_account_number (field place line) then value_of (field place line) else 0

-- users and groups have their numbers in the third field
abbrev pub has_number : ℕ → Fields → Bool
has_number number line = is_account_number (field 2 line) && value_of (field 2 line) == number

abbrev pub is_taken : ℕ → FileLines → Bool
is_taken number lines = list_any (has_number number) lines

-- the first of some numbers in a row that does not pass
abbrev pub first_free : (ℕ → Bool) → ℕ → ℕ → Option ℕ
first_free taken first zero = None
first_free taken first (suc count) = if taken first then first_free taken (first + 1) count else Some first

-- the least number from 1000 to 60000 that no line has
unfoldable pub least_free : FileLines → Option ℕ
least_free lines = first_free (λ number. is_taken number lines) 1000 59001
