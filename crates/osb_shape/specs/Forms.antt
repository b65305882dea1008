-- Forms of texts that a manifest is made of.
use Rattle.std.specs.Prelude.{ℕ, ◌==◌, ◌&&◌, ◌||◌, Bool, List, length, slice_index, nat_le}
use Rattle.std.specs.List.{list_all}

abbrev pub is_letter_or_digit : ℕ → Bool
is_letter_or_digit c = nat_le 97 c && nat_le c 122 || nat_le 65 c && nat_le c 90 || nat_le 48 c && nat_le c 57

-- a letter, a digit or `_`
abbrev pub starts_name : ℕ → Bool
starts_name c = is_letter_or_digit c || c == 95

-- the same, and `.` and `-`
abbrev pub continues_name : ℕ → Bool
continues_name c = starts_name c || c == 46 || c == 45

-- the form of a pipeline's name: 1 to 128 characters
abbrev pub is_pipeline_name : List ℕ → Bool
is_pipeline_name text = nat_le 1 (length text) && nat_le (length text) 128 && starts_name (slice_index text 0) && list_all continues_name text
