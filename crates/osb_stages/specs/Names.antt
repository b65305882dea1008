-- What users and groups may be called.
use Rattle.std.specs.Prelude.{ℕ, ◌==◌, Bool, false, ◌&&◌, ◌||◌, List, [], ◌∷◌, length, nat_le}
use Rattle.std.specs.List.{list_all}
use Rattle.std.specs.Char.{is_ascii_alphanumeric}

-- `A-Z a-z 0-9 _`
abbrev pub is_word_byte : ℕ → Bool
is_word_byte byte = is_ascii_alphanumeric byte || byte == 95

-- these, `.` and `-`
abbrev pub is_name_byte : ℕ → Bool
is_name_byte byte = is_word_byte byte || byte == 46 || byte == 45

-- 1 to 32 bytes
abbrev pub is_account_name : List ℕ → Bool
is_account_name [] = false
is_account_name (first ∷ rest) = is_word_byte first && nat_le (length rest) 31 && list_all is_name_byte rest
