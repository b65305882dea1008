-- Names of time zones.
use Rattle.std.specs.Prelude.{ℕ, ◌==◌, Bool, ◌||◌, List}
use Rattle.std.specs.Char.{is_ascii_alphanumeric}
use Rattle.osb_system.specs.Settings.{is_setting}

-- `A-Z a-z 0-9 _ + - /`
abbrev pub is_zone_byte : ℕ → Bool
is_zone_byte byte = is_ascii_alphanumeric byte || byte == 95 || byte == 43 || byte == 45 || byte == 47

abbrev pub is_zone : List ℕ → Bool
is_zone zone = is_setting 128 is_zone_byte zone
