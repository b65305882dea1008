-- A text is read from its spelling between quotes.
use Rattle.std.proofs.Common.{◌≡◌, ◌⊎◌, inl, inr, ℕ, zero, suc, ◌<◌, ◌≤◌, ◌+◌, ◌-◌, ◌*◌, ◌/◌, ◌%◌, Bool, true, false, ◌&&◌, cond, eqb, ltb, List, [], ◌∷◌, ◌++◌, length, Some, None, refl, sym, ap, ◌∙◌, append_assoc, arith}
use Rattle.std.proofs.lemmas.Bool.Decides.{nat_tests, Decides-eqb}
use Rattle.std.proofs.lemmas.List.{append-nil}
use Rattle.std.proofs.lemmas.Str.{IsUtf8-from_is_utf8, encodes-chars, scalars-chars, digit_value-digit_char}
use Rattle.std.proofs.Math.Utf8.{scalar, scalars, scalar_cases, encodes}
use Rattle.std.specs.List.{flat_map}
use Rattle.std.specs.Prelude.{nat_le, nat_lt}
use Rattle.std.specs.Char.{digit_value, digit_char, encode_utf8}
use Rattle.std.specs.Char.Escape.{encode_utf16}
use Rattle.std.specs.Str.{chars, is_utf8}
use Rattle.osb_pyjson.specs.PyText.{hex4, unit_escape, py_char, py_quoted}
use Rattle.osb_pyread.specs.Steps.{behind}
use Rattle.osb_pyread.specs.Quotes.{hex_digit_at, unit_at, is_high, combined, units_at, named, char_at, text_at, quoted_at}
use Rattle.osb_pyread.proofs.Loops.{until_more, until_closed}

choose : (P : List ℕ → Type 0) (b : Bool) (s t : List ℕ) → (b ≡ true → P s) → (b ≡ false → P t) → P (cond b s t)
choose P true s t f g = f refl
choose P false s t f g = g refl

-- ---- units

hex_digit_again : (c d : ℕ) (rest : List ℕ) → digit_value c ≡ d → d < 16 → hex_digit_at (c ∷ rest) ≡ Some (d, rest)
hex_digit_again c d rest e small =
    let fits : nat_lt d 16 ≡ true = grind (arith, nat_tests) in
    rw (e, fits) refl

four_digits : (w x y z a b c d : ℕ) (rest : List ℕ) → hex_digit_at (w ∷ x ∷ y ∷ z ∷ rest) ≡ Some (a, x ∷ y ∷ z ∷ rest) → hex_digit_at (x ∷ y ∷ z ∷ rest) ≡ Some (b, y ∷ z ∷ rest)
    → hex_digit_at (y ∷ z ∷ rest) ≡ Some (c, z ∷ rest) → hex_digit_at (z ∷ rest) ≡ Some (d, rest) → unit_at (w ∷ x ∷ y ∷ z ∷ rest) ≡ Some (((a * 16 + b) * 16 + c) * 16 + d, rest)
unfolding unit_at
four_digits w x y z a b c d rest ha hb hc hd = rw (ha, hb, hc, hd) refl

whole_unit : (u : ℕ) → u < 65536 → ((u / 4096 % 16 * 16 + u / 256 % 16) * 16 + u / 16 % 16) * 16 + u % 16 ≡ u
whole_unit u small = omega arith

unit_again : (u : ℕ) (rest : List ℕ) → u < 65536 → unit_at (hex4 u ++ rest) ≡ Some (u, rest)
unit_again u rest small =
    let digit = λ (d : ℕ) (more : List ℕ) (lt : d < 16). hex_digit_again (digit_char d) d more (digit_value-digit_char d (omega arith)) lt in
    four_digits (digit_char (u / 4096 % 16)) (digit_char (u / 256 % 16)) (digit_char (u / 16 % 16)) (digit_char (u % 16)) (u / 4096 % 16) (u / 256 % 16) (u / 16 % 16) (u % 16) rest
    (digit (u / 4096 % 16) _ (omega arith)) (digit (u / 256 % 16) _ (omega arith)) (digit (u / 16 % 16) _ (omega arith)) (digit (u % 16) _ (omega arith))
    ∙ ap (λ k. Some (k, rest)) (whole_unit u small)

one_unit : (bytes rest : List ℕ) (u : ℕ) → unit_at bytes ≡ Some (u, rest) → is_high u ≡ false → scalar u ≡ true → units_at bytes ≡ Some (u, rest)
unfolding units_at
one_unit bytes rest u h low s = rw (h, low, s) refl

two_units : (bytes mid after rest : List ℕ) (u v c : ℕ) → unit_at bytes ≡ Some (u, mid) → is_high u ≡ true → behind (92 ∷ 117 ∷ []) mid ≡ Some after → unit_at after ≡ Some (v, rest)
    → combined u v ≡ c → scalar c ≡ true → units_at bytes ≡ Some (c, rest)
unfolding units_at
two_units bytes mid after rest u v c h high b g e s = rw (h, high, b, g, e, s) refl

low_is_no_high : (c : ℕ) → c < 65536 → (c < 55296) ⊎ ((57344 ≤ c) × (c < 1114112)) → is_high c ≡ false
low_is_no_high c small (inl low) = grind (arith, nat_tests)
low_is_no_high c small (inr high) = grind (arith, nat_tests)

high_scalar : (c : ℕ) → 65536 ≤ c → (c < 55296) ⊎ ((57344 ≤ c) × (c < 1114112)) → c < 1114112
high_scalar c h (inl low) = absurd (omega arith)
high_scalar c h (inr high) = high.1

first_is_high : (u : ℕ) → 55296 ≤ u → u < 56320 → is_high u ≡ true
first_is_high u from to = grind (arith, nat_tests)

escaped : (bytes rest : List ℕ) (c : ℕ) → units_at bytes ≡ Some (c, rest) → char_at (92 ∷ 117 ∷ bytes) ≡ Some (c, rest)
unfolding char_at
escaped bytes rest c h = h

second_unit : (bytes : List ℕ) → behind (92 ∷ 117 ∷ []) (92 ∷ 117 ∷ bytes) ≡ Some bytes
unfolding behind
second_unit bytes = refl

joined : (c : ℕ) → 65536 ≤ c → c < 1114112 → combined (0xD800 + (c - 0x1_0000) / 0x400) (0xDC00 + (c - 0x1_0000) % 0x400) ≡ c
joined c above below = omega arith

units_again : (c : ℕ) (rest : List ℕ) → scalar c ≡ true → char_at (flat_map unit_escape (encode_utf16 c) ++ rest) ≡ Some (c, rest)
units_again c rest s =
    choose (λ us. char_at (flat_map unit_escape us ++ rest) ≡ Some (c, rest)) (ltb c 65536) (c ∷ []) ((0xD800 + (c - 0x1_0000) / 0x400) ∷ (0xDC00 + (c - 0x1_0000) % 0x400) ∷ [])
    (λ low. let small : c < 65536 = grind (arith, nat_tests) in
    escaped (hex4 c ++ rest) rest c (one_unit (hex4 c ++ rest) rest c (unit_again c rest small) (low_is_no_high c small (scalar_cases c s)) s))
    (λ high. let above : 65536 ≤ c = grind (arith, nat_tests) in
    let below : c < 1114112 = high_scalar c above (scalar_cases c s) in
    let u = 0xD800 + (c - 0x1_0000) / 0x400 in
    let v = 0xDC00 + (c - 0x1_0000) % 0x400 in
    escaped (hex4 u ++ (92 ∷ 117 ∷ (hex4 v ++ rest))) rest c
    (two_units (hex4 u ++ (92 ∷ 117 ∷ (hex4 v ++ rest))) (92 ∷ 117 ∷ (hex4 v ++ rest)) (hex4 v ++ rest) rest u v c (unit_again u _ (omega arith)) (first_is_high u (omega arith) (omega arith)) (second_unit (hex4 v ++ rest)) (unit_again v rest (omega arith)) (joined c above below) s))

-- ---- characters

short : (e c : ℕ) (rest : List ℕ) → eqb e 117 ≡ false → c ≡ named e → char_at (92 ∷ e ∷ rest) ≡ Some (c, rest)
unfolding char_at
short e c rest other is = rw other (ap (λ k. Some (k, rest)) (sym is))

plain : (c : ℕ) (rest : List ℕ) → eqb c 92 ≡ false → char_at (c ∷ rest) ≡ Some (c, rest)
unfolding char_at
plain c rest other = rw other refl

-- what holds of each spelling of a character
by_spelling : (P : List ℕ → Type 0) (c : ℕ) → ((e : ℕ) → eqb e 117 ≡ false → c ≡ named e → P (92 ∷ e ∷ [])) → (eqb c 34 ≡ false → eqb c 92 ≡ false → P (c ∷ [])) → P (flat_map unit_escape (encode_utf16 c)) → P (py_char c)
by_spelling P c brief itself long =
    choose P (eqb c 34) _ _ (λ e. brief 34 refl ((Decides-eqb c 34).0 e))
    (λ n34. choose P (eqb c 92) _ _ (λ e. brief 92 refl ((Decides-eqb c 92).0 e))
    (λ n92. choose P (eqb c 10) _ _ (λ e. brief 110 refl ((Decides-eqb c 10).0 e))
    (λ n10. choose P (eqb c 13) _ _ (λ e. brief 114 refl ((Decides-eqb c 13).0 e))
    (λ n13. choose P (eqb c 9) _ _ (λ e. brief 116 refl ((Decides-eqb c 9).0 e))
    (λ n9. choose P (eqb c 8) _ _ (λ e. brief 98 refl ((Decides-eqb c 8).0 e))
    (λ n8. choose P (eqb c 12) _ _ (λ e. brief 102 refl ((Decides-eqb c 12).0 e))
    (λ n12. choose P (nat_le 32 c && nat_le c 126) _ _ (λ e. itself n34 n92)
    (λ no. long))))))))

char_again : (c : ℕ) (rest : List ℕ) → scalar c ≡ true → char_at (py_char c ++ rest) ≡ Some (c, rest)
char_again c rest s =
    by_spelling (λ text. char_at (text ++ rest) ≡ Some (c, rest)) c (λ e other is. short e c rest other is) (λ n34 n92. plain c rest n92) (units_again c rest s)

no_quote : (b : ℕ) (bytes : List ℕ) → eqb b 34 ≡ false → behind (34 ∷ []) (b ∷ bytes) ≡ None
unfolding behind
no_quote b bytes other = rw other refl

not_quote : (c : ℕ) (rest : List ℕ) → behind (34 ∷ []) (py_char c ++ rest) ≡ None
not_quote c rest =
    by_spelling (λ text. behind (34 ∷ []) (text ++ rest) ≡ None) c (λ e other is. no_quote 92 (e ∷ rest) refl) (λ n34 n92. no_quote c rest n34)
    (choose (λ us. behind (34 ∷ []) (flat_map unit_escape us ++ rest) ≡ None) (ltb c 65536) _ _ (λ low. no_quote 92 _ refl) (λ high. no_quote 92 _ refl))

takes_some : (c : ℕ) (rest : List ℕ) → length rest < length (py_char c ++ rest)
takes_some c rest =
    by_spelling (λ text. length rest < length (text ++ rest)) c (λ e other is. omega arith) (λ n34 n92. omega arith)
    (choose (λ us. length rest < length (flat_map unit_escape us ++ rest)) (ltb c 65536) _ _ (λ low. omega arith) (λ high. omega arith))

-- ---- texts

spelled_before : (c : ℕ) (cs rest : List ℕ) → flat_map py_char (c ∷ cs) ++ (34 ∷ rest) ≡ py_char c ++ (flat_map py_char cs ++ (34 ∷ rest))
spelled_before c cs rest = append_assoc (py_char c) (flat_map py_char cs) (34 ∷ rest)

closing : (rest : List ℕ) → behind (34 ∷ []) (34 ∷ rest) ≡ Some rest
unfolding behind
closing rest = refl

both : (a b : Bool) → (a && b) ≡ true → (a ≡ true) × (b ≡ true)
both true b h = (refl, h)
both false b h = absurd cc

text_again : (cs : List ℕ) (n : ℕ) (before rest : List ℕ) → scalars cs ≡ true → length (flat_map py_char cs ++ (34 ∷ rest)) ≤ n
    → text_at n before (flat_map py_char cs ++ (34 ∷ rest)) ≡ Some (before ++ encodes cs, rest)
text_again [] zero before rest s room = absurd (omega arith)
text_again [] (suc n) before rest s room =
    until_closed (34 ∷ []) char_at (λ text c. text ++ encode_utf8 c) n before (34 ∷ rest) rest (closing rest) ∙ ap (λ text. Some (text, rest)) (sym (append-nil before))
text_again (c ∷ cs) zero before rest s room =
    let more : List ℕ = flat_map py_char cs ++ (34 ∷ rest) in
    absurd (omega (arith, ap length (spelled_before c cs rest), takes_some c more))
text_again (c ∷ cs) (suc n) before rest s room =
    let more : List ℕ = flat_map py_char cs ++ (34 ∷ rest) in
    let all = both (scalar c) (scalars cs) s in
    ap (text_at (suc n) before) (spelled_before c cs rest)
    ∙ until_more (34 ∷ []) char_at (λ text d. text ++ encode_utf8 d) n before (py_char c ++ more) c more (not_quote c more) (char_again c more all.0)
    ∙ text_again cs n (before ++ encode_utf8 c) rest all.1 (omega (arith, ap length (spelled_before c cs rest), takes_some c more))
    ∙ ap (λ text. Some (text, rest)) (append_assoc before (encode_utf8 c) (encodes cs))

from_quote : (bytes : List ℕ) → quoted_at (34 ∷ bytes) ≡ text_at (length bytes) [] bytes
unfolding quoted_at behind
from_quote bytes = refl

pub quoted_again : (text rest : List ℕ) → is_utf8 text ≡ true → quoted_at (py_quoted text ++ rest) ≡ Some (text, rest)
quoted_again text rest valid =
    let u = IsUtf8-from_is_utf8 text valid in
    let inside : List ℕ = flat_map py_char (chars text) in
    ap (λ bytes. quoted_at (34 ∷ bytes)) (append_assoc inside (34 ∷ []) rest)
    ∙ from_quote (inside ++ (34 ∷ rest))
    ∙ text_again (chars text) (length (inside ++ (34 ∷ rest))) [] rest (scalars-chars text u) (omega arith)
    ∙ ap (λ s. Some (s, rest)) (encodes-chars text u)
