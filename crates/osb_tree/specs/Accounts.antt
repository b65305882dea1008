-- Account files: lines of fields, as passwd(5), group(5) and shadow(5) have them.
use Rattle.std.specs.Prelude.{ℕ, ◌+◌, ◌==◌, Bool, true, not, ◌&&◌, ◌||◌, List, [], ◌∷◌, length, codes, nat_le, unwrap_or, Option, Some, None, if◌then◌else◌}
use Rattle.std.specs.List.{list_all, slice_split, slice_get}
use Rattle.std.specs.Char.{is_ascii_digit}
use Rattle.std.specs.Str.Parse.{digits_value}
use Rattle.std.specs.Cmp.Lexicographic.{pointwise}
use Rattle.osb_tree.specs.Paths.{Names}
use Rattle.osb_tree.specs.declared.accounts.AccountFile.{AccountFile}
use Rattle.osb_tree.specs.declared.accounts.AccountFile.TheVariants.{Passwd, Group, Shadow}

-- where a tree has it
abbrev pub account_path : AccountFile → Names
account_path Passwd = codes "etc" ∷ codes "passwd" ∷ []
account_path Group = codes "etc" ∷ codes "group" ∷ []
account_path Shadow = codes "etc" ∷ codes "shadow" ∷ []

-- what stands between line feeds
abbrev pub lines_of : List ℕ → List (List ℕ)
lines_of bytes = slice_split (λ b. b == 10) bytes

-- what stands between colons
abbrev pub fields_of : List ℕ → List (List ℕ)
fields_of line = slice_split (λ b. b == 58) line

-- a field by its place, from 0; empty where the line has no such field
abbrev pub field_at : ℕ → List ℕ → List ℕ
field_at place line = unwrap_or (slice_get (fields_of line) place) []

-- the value of decimal digits
abbrev pub value_of : List ℕ → ℕ
value_of digits = digits_value 10 digits

-- 1 to 10 digits, up to the greatest owner
abbrev pub is_account_number : List ℕ → Bool
is_account_number field = nat_le 1 (length field) && nat_le (length field) 10 && list_all is_ascii_digit field && nat_le (value_of field) 4294967294

abbrev pub field_count : AccountFile → ℕ
field_count Passwd = 7
field_count Group = 4
field_count Shadow = 9

-- the fields that have to be numbers: of passwd the user's and the group's, of group the group's
abbrev pub has_numbers : AccountFile → List ℕ → Bool
has_numbers Passwd line = is_account_number (field_at 2 line) && is_account_number (field_at 3 line)
has_numbers Group line = is_account_number (field_at 2 line)
has_numbers Shadow line = true

-- an empty line, or one of the file's form
abbrev pub is_account_line : AccountFile → List ℕ → Bool
is_account_line file line = length line == 0 || (length (fields_of line) == field_count file && has_numbers file line)

-- the first of some lines that has not the form, where lines count from a first number
abbrev pub bad_line_from : AccountFile → ℕ → List (List ℕ) → Option ℕ
bad_line_from file number [] = None
bad_line_from file number (line ∷ lines) = if is_account_line file line then bad_line_from file (number + 1) lines else Some number

-- the number of the first line, from 1, that has not the form
abbrev pub bad_line : AccountFile → List ℕ → Option ℕ
bad_line file bytes = bad_line_from file 1 (lines_of bytes)

-- a line of an account has its name as the first field
abbrev pub is_line_of : List ℕ → List ℕ → Bool
is_line_of name line = not (length line == 0) && pointwise ◌==◌ (field_at 0 line) name

abbrev pub number_in : List ℕ → List (List ℕ) → Option ℕ
number_in name [] = None
number_in name (line ∷ lines) = if is_line_of name line then Some (value_of (field_at 2 line)) else number_in name lines

-- the number of the first account of a name
abbrev pub number_of : List ℕ → List ℕ → Option ℕ
number_of name bytes = number_in name (lines_of bytes)
