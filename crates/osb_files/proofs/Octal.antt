-- The value of octal digits.
use Rattle.std.proofs.Common.{◌≡◌, ℕ, ◌≤◌, List, [], ◌∷◌, length, take, true, leb, lit<, arith}
use Rattle.std.specs.List.{list_all}
use Rattle.std.specs.Str.Parse.{digits_value, AllDigits}
use Rattle.std.proofs.Math.Nat.{pow-le-pow_right}
use Rattle.std.proofs.lemmas.Bool.{and_parts, leb-true}
use Rattle.std.proofs.lemmas.Int.Digits.{digits_value-lt}
use Rattle.std.proofs.lemmas.Str.{digit_value_digit}
use Rattle.std.proofs.lemmas.Str.Parse.{digits_value-take-le}
use Rattle.osb_files.specs.Chmod.{is_octal_digit}

in_range : (c : ℕ) → is_octal_digit c ≡ true → (48 ≤ c) × (c ≤ 55)
in_range c h = let parts = and_parts (leb 48 c) (leb c 55) h in (leb-true 48 c parts.0, leb-true c 55 parts.1)

all_digits : (digits : List ℕ) → list_all is_octal_digit digits ≡ true → AllDigits 8 digits
all_digits [] h = tt
all_digits (c ∷ digits) h =
    let parts = and_parts (is_octal_digit c) (list_all is_octal_digit digits) h in
    let range = in_range c parts.0 in
    (omega (arith, digit_value_digit c (range.0, omega (arith, range.1)), range.1), all_digits digits parts.1)

-- four digits write 12 bits
pub digits_value-small : (digits : List ℕ) → list_all is_octal_digit digits ≡ true → length digits ≤ 4 → digits_value 8 digits ≤ 4095
digits_value-small digits h few = omega (arith, digits_value-lt 8 digits (all_digits digits h), pow-le-pow_right {n = 8} (lit< tt) few)

pub digits_value-front : (digits : List ℕ) (i : ℕ) → list_all is_octal_digit digits ≡ true → length digits ≤ 4 → digits_value 8 (take i digits) ≤ 4095
digits_value-front digits i h few = omega (arith, digits_value-take-le 8 digits i (omega arith), digits_value-small digits h few)
