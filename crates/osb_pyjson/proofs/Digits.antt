-- Where a number's digits end: decimal numbers before what begins with no digit, and four hex digits, are told apart.
use Rattle.std.proofs.Common.{◌≡◌, ℕ, ◌<◌, ◌/◌, ◌%◌, ◌^◌, Bool, true, false, true≢false, ◌&&◌, List, [], ◌∷◌, ◌++◌, length, refl, sym, ap, ap₂, ◌∙◌, arith}
use Rattle.std.specs.Prelude.{nat_le}
use Rattle.std.specs.Char.{digit_value, digit_char}
use Rattle.std.specs.Fmt.{decimal}
use Rattle.std.specs.Str.Parse.{AllDigits}
use Rattle.std.proofs.lemmas.Bool.Decides.{nat_tests}
use Rattle.std.proofs.lemmas.Fmt.{decimal_is_IsNumeral, decimal_injective}
use Rattle.std.proofs.lemmas.Str.{digit_value-digit_char}
use Rattle.osb_pyjson.specs.PyText.{hex4}

abbrev pub is_digit : ℕ → Bool
is_digit c = nat_le 48 c && nat_le c 57

abbrev pub begins_with_digit : List ℕ → Bool
begins_with_digit [] = false
begins_with_digit (c ∷ text) = is_digit c

pub is_digit-digit_value : (c : ℕ) → digit_value c < 10 → is_digit c ≡ true
is_digit-digit_value c h = grind (arith, nat_tests)

pub digits_end : (s t x y : List ℕ) → AllDigits 10 s → AllDigits 10 t → begins_with_digit x ≡ false → begins_with_digit y ≡ false → s ++ x ≡ t ++ y → (s ≡ t) × (x ≡ y)
digits_end [] [] x y hs ht nx ny e = (refl, e)
digits_end [] (d ∷ t) x y hs ht nx ny e = absurd (true≢false (sym (is_digit-digit_value d ht.0) ∙ ap begins_with_digit (sym e) ∙ nx))
digits_end (c ∷ s) [] x y hs ht nx ny e = absurd (true≢false (sym (is_digit-digit_value c hs.0) ∙ ap begins_with_digit e ∙ ny))
digits_end (c ∷ s) (d ∷ t) x y hs ht nx ny e =
    let first : c ≡ d = cc in
    let rest : s ++ x ≡ t ++ y = cc in
    let later = digits_end s t x y hs.1 ht.1 nx ny rest in
    (ap₂ (λ a b. a ∷ b) first later.0, later.1)

pub decimals_tell : (m n : ℕ) (x y : List ℕ) → m < 2 ^ 64 → n < 2 ^ 64 → begins_with_digit x ≡ false → begins_with_digit y ≡ false → decimal m ++ x ≡ decimal n ++ y → (m ≡ n) × (x ≡ y)
decimals_tell m n x y hm hn nx ny e =
    let told = digits_end (decimal m) (decimal n) x y (decimal_is_IsNumeral m hm).0.1 (decimal_is_IsNumeral n hn).0.1 nx ny e in
    (decimal_injective m n hm hn told.0, told.1)

digits_begin : (s x : List ℕ) → 0 < length s → AllDigits 10 s → (c : ℕ) × (text : List ℕ) × (s ++ x ≡ c ∷ text) × (is_digit c ≡ true)
digits_begin [] x h all = absurd (omega arith)
digits_begin (c ∷ s) x h all = (c, s ++ x, refl, is_digit-digit_value c all.0)

pub decimal_begins : (n : ℕ) (x : List ℕ) → n < 2 ^ 64 → (c : ℕ) × (text : List ℕ) × (decimal n ++ x ≡ c ∷ text) × (is_digit c ≡ true)
decimal_begins n x h = digits_begin (decimal n) x (decimal_is_IsNumeral n h).0.0 (decimal_is_IsNumeral n h).0.1

-- ---- hex digits

pub digit_char_injective : (a b : ℕ) → a < 36 → b < 36 → digit_char a ≡ digit_char b → a ≡ b
digit_char_injective a b ha hb e = sym (digit_value-digit_char a ha) ∙ ap digit_value e ∙ digit_value-digit_char b hb

from_hex : (a b : ℕ) → a < 65536 → b < 65536 → a / 4096 % 16 ≡ b / 4096 % 16 → a / 256 % 16 ≡ b / 256 % 16 → a / 16 % 16 ≡ b / 16 % 16 → a % 16 ≡ b % 16 → a ≡ b
from_hex a b ha hb e3 e2 e1 e0 = omega arith

pub hex4_tells : (a b : ℕ) (x y : List ℕ) → a < 65536 → b < 65536 → hex4 a ++ x ≡ hex4 b ++ y → (a ≡ b) × (x ≡ y)
hex4_tells a b x y ha hb e =
    let d3 : digit_char (a / 4096 % 16) ≡ digit_char (b / 4096 % 16) = cc in
    let d2 : digit_char (a / 256 % 16) ≡ digit_char (b / 256 % 16) = cc in
    let d1 : digit_char (a / 16 % 16) ≡ digit_char (b / 16 % 16) = cc in
    let d0 : digit_char (a % 16) ≡ digit_char (b % 16) = cc in
    let rest : x ≡ y = cc in (
      from_hex a b ha hb
          (digit_char_injective (a / 4096 % 16) (b / 4096 % 16) (omega arith) (omega arith) d3)
          (digit_char_injective (a / 256 % 16) (b / 256 % 16) (omega arith) (omega arith) d2)
          (digit_char_injective (a / 16 % 16) (b / 16 % 16) (omega arith) (omega arith) d1)
          (digit_char_injective (a % 16) (b % 16) (omega arith) (omega arith) d0),
      rest,
    )
