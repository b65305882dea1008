-- For private clauses: a text between quotes, at the front of bytes, with its escapes resolved.
use Rattle.std.specs.Prelude.{ℕ, ◌+◌, ◌*◌, ◌%◌, ◌==◌, Bool, ◌&&◌, List, [], ◌∷◌, ◌++◌, length, nat_lt, nat_le, Option, Some, None, if◌then◌else◌}
use Rattle.std.specs.Char.{digit_value, encode_utf8}
use Rattle.std.proofs.Math.Utf8.{scalar}
use Rattle.osb_pyread.specs.Steps.{◌>>=◌, behind, until}

abbrev pub hex_digit_at : List ℕ → Option (ℕ × List ℕ)
hex_digit_at [] = None
hex_digit_at (c ∷ rest) = if nat_lt (digit_value c) 16 then Some (digit_value c, rest) else None

-- four hex digits
unfoldable pub unit_at : List ℕ → Option (ℕ × List ℕ)
unit_at bytes = do
  a ← hex_digit_at bytes
  b ← hex_digit_at a.1
  c ← hex_digit_at b.1
  d ← hex_digit_at c.1
  Some (((a.0 * 16 + b.0) * 16 + c.0) * 16 + d.0, d.1)

abbrev pub is_high : ℕ → Bool
is_high unit = nat_le 55296 unit && nat_lt unit 56320

-- the character that two surrogates write
abbrev pub combined : ℕ → ℕ → ℕ
combined high low = 65536 + high % 1024 * 1024 + low % 1024

abbrev pub char_of : ℕ → Option ℕ
char_of code = if scalar code then Some code else None

-- the second of two surrogates, behind the first
abbrev pub second_at : ℕ × List ℕ → Option (ℕ × List ℕ)
second_at high = do
  rest ← behind (92 ∷ 117 ∷ []) high.1
  low ← unit_at rest
  c ← char_of (combined high.0 low.0)
  Some (c, low.1)

-- behind `\u`: a unit, or two that are surrogates
unfoldable pub units_at : List ℕ → Option (ℕ × List ℕ)
units_at bytes = unit_at bytes >>= λ unit. if is_high unit.0 then second_at unit else (char_of unit.0 >>= λ c. Some (c, unit.1))

-- what a letter behind a backslash stands for
abbrev pub named : ℕ → ℕ
named c =
    if c == 110 then 10
    else if c == 114 then 13
    else if c == 116 then 9
    else if c == 98 then 8
    else if c == 102 then 12
    else c

-- behind a backslash
abbrev pub escape_at : List ℕ → Option (ℕ × List ℕ)
escape_at [] = None
escape_at (c ∷ rest) = if c == 117 then units_at rest else Some (named c, rest)

unfoldable pub char_at : List ℕ → Option (ℕ × List ℕ)
char_at [] = None
char_at (c ∷ rest) = if c == 92 then escape_at rest else Some (c, rest)

-- up to n characters behind a text, and the quote behind them
abbrev pub text_at : ℕ → List ℕ → List ℕ → Option (List ℕ × List ℕ)
text_at = until (34 ∷ []) char_at (λ text c. text ++ encode_utf8 c)

unfoldable pub quoted_at : List ℕ → Option (List ℕ × List ℕ)
quoted_at bytes = behind (34 ∷ []) bytes >>= λ rest. text_at (length rest) [] rest
