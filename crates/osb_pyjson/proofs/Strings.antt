-- A quoted text tells its text, and where it ends.
use Rattle.std.proofs.Common.{◌≡◌, ◌≢◌, ◌⊎◌, inl, inr, ℕ, ◌<◌, ◌≤◌, ◌+◌, ◌-◌, ◌*◌, ◌/◌, ◌%◌, Bool, true, false, true≢false, ◌&&◌, cond, eqb, ltb, List, [], ◌∷◌, ◌++◌, refl, sym, ap, ap₂, ◌∙◌, subst, append_assoc, arith}
use Rattle.std.proofs.lemmas.Bool.Decides.{nat_tests, Decides-eqb}
use Rattle.std.proofs.lemmas.Str.{IsUtf8-from_is_utf8, encodes-chars, scalars-chars}
use Rattle.std.proofs.Math.Utf8.{scalar, scalars, scalar_cases, encodes}
use Rattle.std.specs.List.{flat_map}
use Rattle.std.specs.Prelude.{nat_le}
use Rattle.std.specs.Str.{chars, is_utf8}
use Rattle.std.specs.Char.Escape.{encode_utf16}
use Rattle.osb_pyjson.specs.PyText.{hex4, unit_escape, py_char, py_quoted}
use Rattle.osb_pyjson.proofs.Digits.{hex4_tells}

-- the character of an escape of two characters
abbrev named : ℕ → ℕ
named e = cond (eqb e 110) 10 (cond (eqb e 114) 13 (cond (eqb e 116) 9 (cond (eqb e 98) 8 (cond (eqb e 102) 12 e))))

-- text begins with an escape of the character c, or c itself, and goes on with rest
data Begins (text : List ℕ) (c : ℕ) (rest : List ℕ) : Type 0 where
  plain : text ≡ c ∷ rest → c ≢ 34 → c ≢ 92 → Begins text c rest
  short : (e : ℕ) → text ≡ 92 ∷ e ∷ rest → e ≢ 117 → c ≡ named e → Begins text c rest
  one : text ≡ 92 ∷ 117 ∷ (hex4 c ++ rest) → (c < 55296) ⊎ ((57344 ≤ c) × (c < 65536)) → Begins text c rest
  two : (u v : ℕ) → text ≡ 92 ∷ 117 ∷ (hex4 u ++ (92 ∷ 117 ∷ (hex4 v ++ rest))) → (55296 ≤ u) × (u < 56320) → (56320 ≤ v) × (v < 57344) → c ≡ 65536 + (u - 55296) * 1024 + (v - 56320) → Begins text c rest

choose : (P : List ℕ → Type 0) (b : Bool) (s t : List ℕ) → (b ≡ true → P s) → (b ≡ false → P t) → P (cond b s t)
choose P true s t f g = f refl
choose P false s t f g = g refl

low_scalar_unit : (c : ℕ) → c < 65536 → (c < 55296) ⊎ ((57344 ≤ c) × (c < 1114112)) → (c < 55296) ⊎ ((57344 ≤ c) × (c < 65536))
low_scalar_unit c h (inl low) = inl low
low_scalar_unit c h (inr high) = inr (high.0, h)

high_scalar : (c : ℕ) → 65536 ≤ c → (c < 55296) ⊎ ((57344 ≤ c) × (c < 1114112)) → c < 1114112
high_scalar c h (inl low) = absurd (omega arith)
high_scalar c h (inr high) = high.1

Begins-units : (c : ℕ) (rest : List ℕ) → scalar c ≡ true → Begins (flat_map unit_escape (encode_utf16 c) ++ rest) c rest
Begins-units c rest s =
    choose (λ us. Begins (flat_map unit_escape us ++ rest) c rest) (ltb c 65536) (c ∷ []) ((0xD800 + (c - 0x1_0000) / 0x400) ∷ (0xDC00 + (c - 0x1_0000) % 0x400) ∷ [])
    (λ low. one refl (low_scalar_unit c (grind (arith, nat_tests)) (scalar_cases c s)))
    (λ high. let above : 65536 ≤ c = grind (arith, nat_tests) in
    let below : c < 1114112 = high_scalar c above (scalar_cases c s) in
    two (0xD800 + (c - 0x1_0000) / 0x400) (0xDC00 + (c - 0x1_0000) % 0x400) refl (omega arith, omega arith) (omega arith, omega arith) (omega arith))

Begins-py_char : (c : ℕ) (rest : List ℕ) → scalar c ≡ true → Begins (py_char c ++ rest) c rest
Begins-py_char c rest s =
    let P : List ℕ → Type 0 = λ text. Begins (text ++ rest) c rest in
    choose P (eqb c 34) _ _ (λ e. short 34 refl (omega arith) ((Decides-eqb c 34).0 e))
    (λ n34. choose P (eqb c 92) _ _ (λ e. short 92 refl (omega arith) ((Decides-eqb c 92).0 e))
    (λ n92. choose P (eqb c 10) _ _ (λ e. short 110 refl (omega arith) ((Decides-eqb c 10).0 e))
    (λ n10. choose P (eqb c 13) _ _ (λ e. short 114 refl (omega arith) ((Decides-eqb c 13).0 e))
    (λ n13. choose P (eqb c 9) _ _ (λ e. short 116 refl (omega arith) ((Decides-eqb c 9).0 e))
    (λ n9. choose P (eqb c 8) _ _ (λ e. short 98 refl (omega arith) ((Decides-eqb c 8).0 e))
    (λ n8. choose P (eqb c 12) _ _ (λ e. short 102 refl (omega arith) ((Decides-eqb c 12).0 e))
    (λ n12. choose P (nat_le 32 c && nat_le c 126) _ _ (λ e. plain refl (λ q. absurd (true≢false (sym ((Decides-eqb c 34).1 q) ∙ n34))) (λ q. absurd (true≢false (sym ((Decides-eqb c 92).1 q) ∙ n92))))
    (λ no. Begins-units c rest s))))))))

Begins-tells : (text : List ℕ) (c d : ℕ) (x y : List ℕ) → Begins text c x → Begins text d y → (c ≡ d) × (x ≡ y)
Begins-tells text c d x y (plain e q b) (plain e' q' b') = (cc, cc)
Begins-tells text c d x y (plain e q b) (short i e' n m) = absurd (b cc)
Begins-tells text c d x y (plain e q b) (one e' r) = absurd (b cc)
Begins-tells text c d x y (plain e q b) (two u v e' hu hv is) = absurd (b cc)
Begins-tells text c d x y (short i e n m) (plain e' q' b') = absurd (b' cc)
Begins-tells text c d x y (short i e n m) (short j e' n' m') = (cc, cc)
Begins-tells text c d x y (short i e n m) (one e' r) = absurd (n cc)
Begins-tells text c d x y (short i e n m) (two u v e' hu hv is) = absurd (n cc)
Begins-tells text c d x y (one e r) (plain e' q' b') = absurd (b' cc)
Begins-tells text c d x y (one e r) (short j e' n' m') = absurd (n' cc)
Begins-tells text c d x y (one e r) (one e' r') =
    let same : hex4 c ++ x ≡ hex4 d ++ y = cc in
    hex4_tells c d x y (omega arith) (omega arith) same
Begins-tells text c d x y (one e r) (two u v e' hu hv is) =
    let same : hex4 c ++ x ≡ hex4 u ++ (92 ∷ 117 ∷ (hex4 v ++ y)) = cc in
    let unit = (hex4_tells c u x (92 ∷ 117 ∷ (hex4 v ++ y)) (omega arith) (omega arith) same).0 in
    absurd (omega arith)
Begins-tells text c d x y (two u v e hu hv is) (plain e' q' b') = absurd (b' cc)
Begins-tells text c d x y (two u v e hu hv is) (short j e' n' m') = absurd (n' cc)
Begins-tells text c d x y (two u v e hu hv is) (one e' r') =
    let same : hex4 u ++ (92 ∷ 117 ∷ (hex4 v ++ x)) ≡ hex4 d ++ y = cc in
    let unit = (hex4_tells u d (92 ∷ 117 ∷ (hex4 v ++ x)) y (omega arith) (omega arith) same).0 in
    absurd (omega arith)
Begins-tells text c d x y (two u v e hu hv is) (two w z e' hw hz is') =
    let same : hex4 u ++ (92 ∷ 117 ∷ (hex4 v ++ x)) ≡ hex4 w ++ (92 ∷ 117 ∷ (hex4 z ++ y)) = cc in
    let high = hex4_tells u w (92 ∷ 117 ∷ (hex4 v ++ x)) (92 ∷ 117 ∷ (hex4 z ++ y)) (omega arith) (omega arith) same in
    let after_high : hex4 v ++ x ≡ hex4 z ++ y = cc in
    let low = hex4_tells v z x y (omega arith) (omega arith) after_high in
    (omega arith, low.1)

pub py_chars_tell : (c d : ℕ) (x y : List ℕ) → scalar c ≡ true → scalar d ≡ true → py_char c ++ x ≡ py_char d ++ y → (c ≡ d) × (x ≡ y)
py_chars_tell c d x y hc hd e =
    let P : List ℕ → Type 0 = λ text. Begins text d y in
    Begins-tells (py_char c ++ x) c d x y (Begins-py_char c x hc) (subst P (sym e) (Begins-py_char d y hd))

heads : (a b : ℕ) (s t : List ℕ) → a ∷ s ≡ b ∷ t → a ≡ b
heads a b s t e = cc

quote_no_backslash : (s t : List ℕ) → 34 ∷ s ≡ 92 ∷ t → ⊥
quote_no_backslash s t e = cc

no_quote : (text : List ℕ) (c : ℕ) (rest x : List ℕ) → Begins text c rest → 34 ∷ x ≡ text → ⊥
no_quote text c rest x (plain e q b) h = q (sym (heads 34 c x rest (h ∙ e)))
no_quote text c rest x (short i e n m) h = quote_no_backslash _ _ (h ∙ e)
no_quote text c rest x (one e r) h = quote_no_backslash _ _ (h ∙ e)
no_quote text c rest x (two u v e hu hv is) h = quote_no_backslash _ _ (h ∙ e)

pub py_char_no_quote : (c : ℕ) (rest x : List ℕ) → scalar c ≡ true → 34 ∷ x ≡ py_char c ++ rest → ⊥
py_char_no_quote c rest x s h = no_quote (py_char c ++ rest) c rest x (Begins-py_char c rest s) h

both : (a b : Bool) → (a && b) ≡ true → (a ≡ true) × (b ≡ true)
both true b h = (refl, h)
both false b h = cc

py_texts_tell : (cs ds x y : List ℕ) → scalars cs ≡ true → scalars ds ≡ true → flat_map py_char cs ++ (34 ∷ x) ≡ flat_map py_char ds ++ (34 ∷ y) → (cs ≡ ds) × (x ≡ y)
py_texts_tell [] [] x y hc hd e = (refl, cc)
py_texts_tell [] (d ∷ ds) x y hc hd e =
    absurd (py_char_no_quote d (flat_map py_char ds ++ (34 ∷ y)) x (both (scalar d) (scalars ds) hd).0 (e ∙ append_assoc (py_char d) (flat_map py_char ds) (34 ∷ y)))
py_texts_tell (c ∷ cs) [] x y hc hd e =
    absurd (py_char_no_quote c (flat_map py_char cs ++ (34 ∷ x)) y (both (scalar c) (scalars cs) hc).0 (sym e ∙ append_assoc (py_char c) (flat_map py_char cs) (34 ∷ x)))
py_texts_tell (c ∷ cs) (d ∷ ds) x y hc hd e =
    let kc = both (scalar c) (scalars cs) hc in
    let kd = both (scalar d) (scalars ds) hd in
    let first = py_chars_tell c d (flat_map py_char cs ++ (34 ∷ x)) (flat_map py_char ds ++ (34 ∷ y)) kc.0 kd.0 (sym (append_assoc (py_char c) (flat_map py_char cs) (34 ∷ x)) ∙ e ∙ append_assoc (py_char d) (flat_map py_char ds) (34 ∷ y)) in
    let later = py_texts_tell cs ds x y kc.1 kd.1 first.1 in
    (ap₂ (λ a b. a ∷ b) first.0 later.0, later.1)

-- two quoted texts with anything after them
pub quoted_tells : (s t x y : List ℕ) → is_utf8 s ≡ true → is_utf8 t ≡ true → py_quoted s ++ x ≡ py_quoted t ++ y → (s ≡ t) × (x ≡ y)
quoted_tells s t x y hs ht e =
    let us = IsUtf8-from_is_utf8 s hs in
    let ut = IsUtf8-from_is_utf8 t ht in
    let inside : (flat_map py_char (chars s) ++ 34 ∷ []) ++ x ≡ (flat_map py_char (chars t) ++ 34 ∷ []) ++ y = cc in
    let told = py_texts_tell (chars s) (chars t) x y (scalars-chars s us) (scalars-chars t ut) (sym (append_assoc (flat_map py_char (chars s)) (34 ∷ []) x) ∙ inside ∙ append_assoc (flat_map py_char (chars t)) (34 ∷ []) y) in
    (sym (encodes-chars s us) ∙ ap encodes told.0 ∙ encodes-chars t ut, told.1)
