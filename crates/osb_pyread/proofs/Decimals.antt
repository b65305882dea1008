-- A number is read from its decimal text.
use Rattle.std.proofs.Common.{◌≡◌, ℕ, suc, ◌+◌, ◌-◌, ◌*◌, ◌^◌, ◌<◌, ◌≤◌, Bool, true, false, true≢false, ◌&&◌, ◌||◌, cond, eqb, pos, negsuc, List, [], ◌∷◌, ◌++◌, Option, Some, None, refl, sym, ap, ◌∙◌, arith}
use Rattle.std.specs.Prelude.{nat_lt, nat_le}
use Rattle.std.specs.Char.{digit_value}
use Rattle.std.specs.Fmt.{decimal}
use Rattle.std.specs.Str.Parse.{AllDigits, digits_value_after}
use Rattle.std.proofs.lemmas.Bool.Decides.{nat_tests, Decides-eqb}
use Rattle.std.proofs.lemmas.Fmt.{decimal_is_IsNumeral}
use Rattle.serde_json.specs.Data.{Num, unsigned, negative, float}
use Rattle.osb_pyjson.specs.PyText.{py_number}
use Rattle.osb_pyjson.proofs.Digits.{begins_with_digit, is_digit-digit_value, decimal_begins}
use Rattle.osb_pyread.specs.Numerals.{is_digit, with_digit, digits_at, below_zero, number_at}

digit_is : (c : ℕ) → is_digit c ≡ true → digit_value c ≡ c - 48
digit_is c h = grind (arith, nat_tests)

with_digit_is : (n c : ℕ) → is_digit c ≡ true → n * 10 + digit_value c < 2 ^ 64 → with_digit n c ≡ Some (n * 10 + digit_value c)
with_digit_is n c h small =
    let e = digit_is c h in
    let fits : nat_lt (n * 10 + (c - 48)) (2 ^ 64) ≡ true = grind (arith, nat_tests) in
    rw (fits, e) refl

one_digit : (n c m : ℕ) (rest : List ℕ) → is_digit c ≡ true → with_digit n c ≡ Some m → digits_at n (c ∷ rest) ≡ digits_at m rest
unfolding digits_at
one_digit n c m rest h e = rw (h, e) refl

no_digit : (n : ℕ) (rest : List ℕ) → begins_with_digit rest ≡ false → digits_at n rest ≡ Some (n, rest)
unfolding digits_at
no_digit n [] h = refl
no_digit n (c ∷ rest) h = rw h refl

le-value_after : (n : ℕ) (s : List ℕ) → n ≤ digits_value_after 10 n s
le-value_after n [] = omega arith
le-value_after n (c ∷ s) = omega (arith, le-value_after (n * 10 + digit_value c) s)

digits_again : (s : List ℕ) (n : ℕ) (rest : List ℕ) → AllDigits 10 s → begins_with_digit rest ≡ false → digits_value_after 10 n s < 2 ^ 64 → digits_at n (s ++ rest) ≡ Some (digits_value_after 10 n s, rest)
digits_again [] n rest all ends small = no_digit n rest ends
digits_again (c ∷ s) n rest all ends small =
    let h = is_digit-digit_value c all.0 in
    let m = n * 10 + digit_value c in
    let fits : m < 2 ^ 64 = omega (arith, le-value_after m s) in
    one_digit n c m (s ++ rest) h (with_digit_is n c h fits) ∙ digits_again s m rest all.1 ends small

decimal_again : (n : ℕ) (rest : List ℕ) → n < 2 ^ 64 → begins_with_digit rest ≡ false → digits_at 0 (decimal n ++ rest) ≡ Some (n, rest)
decimal_again n rest small ends =
    let d = decimal_is_IsNumeral n small in
    digits_again (decimal n) 0 rest d.0.1 ends (omega (arith, d.1)) ∙ ap (λ k. Some (k, rest)) d.1

-- ---- with a sign

-- a test that one number passes and another fails tells them apart
pub apart : (test : ℕ → Bool) (c k : ℕ) → test c ≡ true → test k ≡ false → eqb c k ≡ false
apart test c k passes fails = by (eqb c k) refl
  where
    by : (b : Bool) → eqb c k ≡ b → b ≡ false
    by true e = absurd (true≢false (sym passes ∙ ap test ((Decides-eqb c k).0 e) ∙ fails))
    by false e = refl

pub some_same : {A : Type 0} (x y : A) → Some x ≡ Some y → x ≡ y
some_same x y e = cc

pub when : {A : Type 0} (b : Bool) (x : Option A) (y : A) → cond b x None ≡ Some y → (b ≡ true) × (x ≡ Some y)
when true x y e = (refl, e)
when false x y e = absurd cc

positive : (c n : ℕ) (text rest : List ℕ) → is_digit c ≡ true → digits_at 0 (c ∷ text) ≡ Some (n, rest) → number_at (c ∷ text) ≡ Some (unsigned n, rest)
unfolding number_at
positive c n text rest digit h =
    let no_sign : eqb c 45 ≡ false = apart is_digit c 45 digit refl in
    rw (no_sign, digit, h) refl

below_zero_is : (k n : ℕ) → k ≡ n + 1 → n < 2 ^ 63 → below_zero k ≡ Some (negative (negsuc n))
below_zero_is k n is small =
    let some : nat_lt 0 k && nat_le k (2 ^ 63) ≡ true = grind (arith, nat_tests) in
    let less : k - 1 ≡ n = omega arith in
    rw (some, less) refl

below : (k : ℕ) (n : Num) (text rest : List ℕ) → digits_at 0 text ≡ Some (k, rest) → below_zero k ≡ Some n → number_at (45 ∷ text) ≡ Some (n, rest)
unfolding number_at
below k n text rest h e = rw (h, e) refl

is_less : (m n : ℕ) → nat_lt m n ≡ true → m < n
is_less m n e = grind (arith, nat_tests)

-- what a number's text begins with
abbrev pub is_numeric : ℕ → Bool
is_numeric c = is_digit c || eqb c 45

digit_is_numeric : (c : ℕ) → is_digit c ≡ true → is_numeric c ≡ true
digit_is_numeric c h = rw h refl

pub record Front (n : Num) (bytes rest : List ℕ) : Type 0 where
  pub first : ℕ
  pub text : List ℕ
  pub bytes_are : bytes ≡ first ∷ text
  pub numeric : is_numeric first ≡ true
  pub read : number_at (first ∷ text) ≡ Some (n, rest)

pub number_front : (n : Num) (t rest : List ℕ) → py_number n ≡ Some t → begins_with_digit rest ≡ false → Front n (t ++ rest) rest
number_front (unsigned n) t rest e ends =
    let w = when (nat_lt n (2 ^ 64)) (Some (decimal n)) t e in
    let small = is_less n (2 ^ 64) w.0 in
    let b = decimal_begins n rest small in
    let read : digits_at 0 (b.0 ∷ b.1) ≡ Some (n, rest) = ap (digits_at 0) (sym b.2) ∙ decimal_again n rest small ends in
    record {
      first = b.0;
      text = b.1;
      bytes_are = ap (λ s. s ++ rest) (sym (some_same _ t w.1)) ∙ b.2;
      numeric = digit_is_numeric b.0 b.3;
      read = positive b.0 n b.1 rest b.3 read;
    }
number_front (negative (negsuc n)) t rest e ends =
    let w = when (nat_lt n (2 ^ 63)) (Some (45 ∷ decimal (suc n))) t e in
    let small = is_less n (2 ^ 63) w.0 in
    record {
      first = 45;
      text = decimal (suc n) ++ rest;
      bytes_are = ap (λ s. s ++ rest) (sym (some_same _ t w.1));
      numeric = refl;
      read = below (suc n) (negative (negsuc n)) (decimal (suc n) ++ rest) rest (decimal_again (suc n) rest (omega arith) ends) (below_zero_is (suc n) n (omega arith) small);
    }
number_front (negative (pos n)) t rest e ends = absurd cc
number_front (float f) t rest e ends = absurd cc
