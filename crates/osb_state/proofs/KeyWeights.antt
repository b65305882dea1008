-- Numbers that differ weigh together no more than all that pass a test which they pass.
use Rattle.std.proofs.Common.{◌≡◌, ◌==◌, ℕ, zero, suc, ◌+◌, ◌<◌, ◌≤◌, Bool, true, false, not, ◌&&◌, ◌||◌, cond, List, [], ◌∷◌, All, sum_by, count_by, inl, inr, refl, sym, ap, ◌∙◌, arith}
use Rattle.std.specs.List.{list_any, range_with_len}
use Rattle.std.proofs.lemmas.Bool.{false≢true, and_from, or_left, or_right, eq-eqb, eqb-true}
use Rattle.std.proofs.lemmas.Bool.Decides.{eqb_tells}
use Rattle.std.proofs.lemmas.List.Elements.{All-nil, All-cons, All-head, All-tail}
use Rattle.std.proofs.lemmas.List.Sums.{sum_by-cons, sum_by-le-sum_by}

abbrev pub weight_if : (ℕ → Bool) → (ℕ → ℕ) → ℕ → ℕ
weight_if test weight number = cond (test number) (weight number) 0

-- the numbers that pass, without this one
abbrev but : (ℕ → Bool) → ℕ → ℕ → Bool
but test one number = test number && not (number == one)

-- ---- a number of a list weighs what it is more with it than without it

less_step : (b c : Bool) (n : ℕ) → cond (b && c) n 0 ≤ cond b n 0
less_step true true n = omega arith
less_step true false n = omega arith
less_step false c n = omega arith

less_without : (test : ℕ → Bool) (weight : ℕ → ℕ) (one : ℕ) (all : List ℕ) → sum_by (weight_if (but test one) weight) all ≤ sum_by (weight_if test weight) all
less_without test weight one all = sum_by-le-sum_by (weight_if (but test one) weight) (weight_if test weight) all (λ number. less_step (test number) (not (number == one)) (weight number))

without_step : (weight : ℕ → ℕ) (b c : Bool) (number one m n : ℕ) → (number == one) ≡ c → (c ≡ true → b ≡ true) → (c ≡ true → m ≤ n) → (c ≡ false → m + weight one ≤ n) → cond (b && not c) (weight number) 0 + m + weight one ≤ cond b (weight number) 0 + n
without_step weight true true number one m n same passes less ih =
    let equal : weight number ≡ weight one = ap weight (eqb-true number one same) in
    omega (arith, equal, less refl)
without_step weight false true number one m n same passes less ih = absurd (false≢true (passes refl))
without_step weight true false number one m n same passes less ih = omega (arith, ih refl)
without_step weight false false number one m n same passes less ih = omega (arith, ih refl)

passes_as : (test : ℕ → Bool) (number one : ℕ) → test one ≡ true → (number == one) ≡ true → test number ≡ true
passes_as test number one passes same = ap test (eqb-true number one same) ∙ passes

later : (b c : Bool) → b ≡ false → (b || c) ≡ true → c ≡ true
later true c apart there = absurd (false≢true (sym apart))
later false c apart there = there

weighs_without : (test : ℕ → Bool) (weight : ℕ → ℕ) (one : ℕ) (all : List ℕ) → test one ≡ true → list_any (λ number. number == one) all ≡ true → sum_by (weight_if (but test one) weight) all + weight one ≤ sum_by (weight_if test weight) all
weighs_without test weight one [] passes there = absurd (false≢true there)
weighs_without test weight one (number ∷ all) passes there =
    let step = without_step weight (test number) (number == one) number one (sum_by (weight_if (but test one) weight) all) (sum_by (weight_if test weight) all) refl
    (passes_as test number one passes) (λ _. less_without test weight one all)
    (λ apart. weighs_without test weight one all passes (later (number == one) (list_any (λ (n : ℕ). n == one) all) apart there)) in
    omega (arith, step, sum_by-cons (weight_if (but test one) weight) number all, sum_by-cons (weight_if test weight) number all)

-- ---- numbers that differ

one_if : Bool → ℕ
one_if b = cond b 1 0

none_step : (b : Bool) (n : ℕ) → cond b 1 0 + n ≡ 0 → (b ≡ false) × (n ≡ 0)
none_step true n e = absurd (omega (arith, e))
none_step false n e = (refl, omega (arith, e))

passes_but : (test : ℕ → Bool) (one : ℕ) (numbers : List ℕ) → count_by (λ number. number == one) numbers ≡ 0 → All (λ number. test number ≡ true) numbers → All (λ number. but test one number ≡ true) numbers
passes_but test one [] none all = All-nil (λ (number : ℕ). but test one number ≡ true)
passes_but test one (number ∷ numbers) none all =
    let P : ℕ → Type 0 = λ n. test n ≡ true in
    let is : ℕ → ℕ = λ n. cond (n == one) 1 0 in
    let parts = none_step (number == one) (count_by (λ (n : ℕ). n == one) numbers) (sym (sum_by-cons is number numbers) ∙ none) in
    All-cons (λ (n : ℕ). but test one n ≡ true) number numbers
    (and_from (test number) (not (number == one)) (All-head P number numbers all) (ap not parts.0))
    (passes_but test one numbers parts.1 (All-tail P number numbers all))

count_first : (number : ℕ) (numbers : List ℕ) → count_by (λ n. n == number) (number ∷ numbers) ≡ 1 + count_by (λ n. n == number) numbers
unfolding one_if
count_first number numbers =
    let is : ℕ → ℕ = λ n. cond (n == number) 1 0 in
    omega (arith, sum_by-cons is number numbers, ap one_if (eq-eqb number number refl))

count_fewer : (number other : ℕ) (numbers : List ℕ) → count_by (λ n. n == other) numbers ≤ count_by (λ n. n == other) (number ∷ numbers)
count_fewer number other numbers =
    let is : ℕ → ℕ = λ n. cond (n == other) 1 0 in
    omega (arith, sum_by-cons is number numbers)

pub distinct_weigh : (weight : ℕ → ℕ) (all numbers : List ℕ) (test : ℕ → Bool) → ((one : ℕ) → count_by (λ number. number == one) numbers ≤ 1) → All (λ number. test number ≡ true) numbers → All (λ number. list_any (λ n. n == number) all ≡ true) numbers
    → sum_by weight numbers ≤ sum_by (weight_if test weight) all
distinct_weigh weight all [] test apart passes within = omega arith
distinct_weigh weight all (number ∷ numbers) test apart passes within =
    let P : ℕ → Type 0 = λ n. test n ≡ true in
    let In : ℕ → Type 0 = λ n. list_any (λ m. m == n) all ≡ true in
    let none : count_by (λ (n : ℕ). n == number) numbers ≡ 0 = omega (arith, apart number, count_first number numbers) in
    let rest = distinct_weigh weight all numbers (but test number) (λ one. omega (arith, apart one, count_fewer number one numbers)) (passes_but test number numbers none (All-tail P number numbers passes)) (All-tail In number numbers within) in
    omega (arith, rest, sum_by-cons weight number numbers, weighs_without test weight number all (All-head P number numbers passes) (All-head In number numbers within))

-- ---- the numbers of a range

pub range_has : (low count number : ℕ) → low ≤ number → number < low + count → list_any (λ n. n == number) (range_with_len low count) ≡ true
range_has low zero number above below = absurd (omega arith)
range_has low (suc count) number above below = elim (eqb_tells low number) [
  | inl same ↦ or_left (low == number) (list_any (λ (n : ℕ). n == number) (range_with_len (low + 1) count)) same.0
  | inr apart ↦
      let next : low + 1 ≤ number = (let ne = apart.1 in omega arith) in
      or_right (low == number) (list_any (λ (n : ℕ). n == number) (range_with_len (low + 1) count)) (range_has (low + 1) count number next (omega arith))
]
