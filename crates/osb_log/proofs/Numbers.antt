-- The number that a text begins with, and what is behind it.
use Rattle.std.proofs.Common.{◌≡◌, ℕ, ◌+◌, ◌<◌, ◌^◌, Bool, true, false, cond, List, [], ◌∷◌, ◌++◌, length, take, drop, decimal, refl, sym, ap, ◌∙◌, append_assoc, take_at, drop_at, arith}
use Rattle.std.specs.Char.{digit_value, is_digit}
use Rattle.std.specs.List.{prefix_len}
use Rattle.std.specs.Str.Parse.{AllDigits, digits_value}
use Rattle.std.proofs.lemmas.Bool.Decides.{nat_tests}
use Rattle.std.proofs.lemmas.Fmt.{decimal_is_IsNumeral}

abbrev pub IsNoDigit : ℕ → Type 0
IsNoDigit c = is_digit c 10 ≡ false

-- how many digits a text begins with
abbrev digits_in : List ℕ → ℕ
digits_in text = prefix_len (λ c. is_digit c 10) text

pub number : List ℕ → ℕ
number text = digits_value 10 (take (digits_in text) text)

pub behind : List ℕ → List ℕ
behind text = drop (digits_in text) text

is_digit-digit_value : (c : ℕ) → digit_value c < 10 → is_digit c 10 ≡ true
is_digit-digit_value c h = grind (arith, nat_tests)

digits_in-append : (s : List ℕ) (c : ℕ) (x : List ℕ) → AllDigits 10 s → IsNoDigit c → digits_in (s ++ c ∷ x) ≡ length s
digits_in-append [] c x all apart = ap (λ (b : Bool). cond b (1 + digits_in x) 0) apart
digits_in-append (d ∷ s) c x all apart =
    ap (λ (b : Bool). cond b (1 + digits_in (s ++ c ∷ x)) 0) (is_digit-digit_value d all.0) ∙ omega (arith, digits_in-append s c x all.1 apart)

digits_in-decimal : (n c : ℕ) (x : List ℕ) → n < 2 ^ 64 → IsNoDigit c → digits_in (decimal n ++ c ∷ x) ≡ length (decimal n)
digits_in-decimal n c x small apart = digits_in-append (decimal n) c x (decimal_is_IsNumeral n small).0.1 apart

pub number_first : (n c : ℕ) (x : List ℕ) → n < 2 ^ 64 → IsNoDigit c → number (decimal n ++ c ∷ x) ≡ n
unfolding number
number_first n c x small apart =
    ap (λ (k : ℕ). digits_value 10 (take k (decimal n ++ c ∷ x))) (digits_in-decimal n c x small apart)
    ∙ ap (digits_value 10) (take_at (decimal n) (c ∷ x) (length (decimal n)) refl)
    ∙ (decimal_is_IsNumeral n small).1

pub behind_first : (n c : ℕ) (x : List ℕ) → n < 2 ^ 64 → IsNoDigit c → behind (decimal n ++ c ∷ x) ≡ c ∷ x
unfolding behind
behind_first n c x small apart =
    ap (λ (k : ℕ). drop k (decimal n ++ c ∷ x)) (digits_in-decimal n c x small apart) ∙ drop_at (decimal n) (c ∷ x) (length (decimal n)) refl

-- the same where the text is written in two parts
pub parts_told : (n c : ℕ) (s x : List ℕ) → n < 2 ^ 64 → IsNoDigit c
    → (number ((decimal n ++ c ∷ s) ++ x) ≡ n) × (behind ((decimal n ++ c ∷ s) ++ x) ≡ c ∷ (s ++ x))
parts_told n c s x small apart =
    let same = append_assoc (decimal n) (c ∷ s) x in
    (ap number same ∙ number_first n c (s ++ x) small apart, ap behind same ∙ behind_first n c (s ++ x) small apart)

pub numbers_tell : (m n c d : ℕ) (x y : List ℕ) → m < 2 ^ 64 → n < 2 ^ 64 → IsNoDigit c → IsNoDigit d → decimal m ++ c ∷ x ≡ decimal n ++ d ∷ y → (m ≡ n) × (x ≡ y)
numbers_tell m n c d x y small_m small_n apart_c apart_d same =
    let told : c ∷ x ≡ d ∷ y = sym (behind_first m c x small_m apart_c) ∙ ap behind same ∙ behind_first n d y small_n apart_d in
    (sym (number_first m c x small_m apart_c) ∙ ap number same ∙ number_first n d y small_n apart_d, ap (drop 1) told)
