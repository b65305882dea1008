-- Digests stand in the order of their texts.
use Rattle.std.proofs.Common.{◌≡◌, ℕ, ◌/◌, ◌%◌, ◌<◌, ◌||◌, Bool, true, nat_lt, nat_le, List, [], ◌∷◌, ◌++◌, slice_index, Some, Ordering, Less, Equal, Greater, inl, inr, refl, sym, ap, ◌∙◌, arith, codes}
use Rattle.std.specs.Ordering.{nat_cmp, ordering_then}
use Rattle.std.specs.Cmp.Lexicographic.{slice_cmp}
use Rattle.std.specs.List.{AllByRecursion}
use Rattle.std.proofs.lemmas.Bool.{cases_lt}
use Rattle.std.proofs.lemmas.Bool.Decides.{nat_tests}
use Rattle.std.proofs.lemmas.List.Elements.{recursion_from_All}
use Rattle.hex.specs.Hex.{encode_lower, encode_with, lower_digits}
use Rattle.osb_base.specs.Digests.{digest_text, digest_of}
use Rattle.osb_base.proofs.DigestTexts.{all_below, all_below-at, digest_of-some}

less_from : (a b : ℕ) → a < b → nat_cmp a b ≡ Less
less_from a b h = grind (arith, nat_tests)

more_from : (a b : ℕ) → b < a → nat_cmp a b ≡ Greater
more_from a b h = grind (arith, nat_tests)

same_from : (a b : ℕ) → a ≡ b → nat_cmp a b ≡ Equal
same_from a b h = grind (arith, nat_tests)

-- ---- the sixteen digits rise

abbrev rises : ℕ → ℕ → Bool
rises v w = nat_le w v || nat_lt (slice_index lower_digits v) (slice_index lower_digits w)

abbrev all_rise : ℕ → Bool
all_rise v = all_below (rises v) 16

rises-apart : (v w a b : ℕ) → v < w → (nat_le w v || nat_lt a b) ≡ true → a < b
rises-apart v w a b lt h = grind (arith, nat_tests)

digits_rise : (v w : ℕ) → v < w → w < 16 → slice_index lower_digits v < slice_index lower_digits w
digits_rise v w lt within =
    rises-apart v w _ _ lt (all_below-at (rises v) 16 w (all_below-at all_rise 16 v refl (omega arith)) within)

-- ---- bytes

module _ (a b : ℕ) (rest : Ordering) where
  abbrev by_digits : Ordering
  by_digits = ordering_then (nat_cmp (slice_index lower_digits (a / 16)) (slice_index lower_digits (b / 16))) (ordering_then (nat_cmp (slice_index lower_digits (a % 16)) (slice_index lower_digits (b % 16))) rest)

  high_more : b / 16 < a / 16 → a < 256 → by_digits ≡ Greater
  high_more h fits = rw (more_from (slice_index lower_digits (a / 16)) (slice_index lower_digits (b / 16)) (digits_rise (b / 16) (a / 16) h (omega arith))) refl

  low_more : a / 16 ≡ b / 16 → b % 16 < a % 16 → by_digits ≡ Greater
  low_more same h =
      rw (same_from (slice_index lower_digits (a / 16)) (slice_index lower_digits (b / 16)) (ap (slice_index lower_digits) same), more_from (slice_index lower_digits (a % 16)) (slice_index lower_digits (b % 16)) (digits_rise (b % 16) (a % 16) h (omega arith))) refl

  more_by_digits : b < a → a < 256 → by_digits ≡ Greater
  more_by_digits h fits = elim (cases_lt (b / 16) (a / 16)) [
    | inl high ↦ high_more high fits
    | inr low ↦ low_more (omega arith) (omega arith)
  ]

  same_by_digits : a ≡ b → by_digits ≡ rest
  same_by_digits e =
      rw (same_from (slice_index lower_digits (a / 16)) (slice_index lower_digits (b / 16)) (ap (λ n. slice_index lower_digits (n / 16)) e), same_from (slice_index lower_digits (a % 16)) (slice_index lower_digits (b % 16)) (ap (λ n. slice_index lower_digits (n % 16)) e)) refl

bytes_rise : (xs ys : List ℕ) → AllByRecursion (λ byte. byte < 256) xs → slice_cmp nat_cmp (encode_lower xs) (encode_lower ys) ≡ Less → slice_cmp nat_cmp xs ys ≡ Less
unfolding encode_with
bytes_rise [] [] fit h = h
bytes_rise [] (y ∷ ys) fit h = refl
bytes_rise (x ∷ xs) [] fit h = cc
bytes_rise (x ∷ xs) (y ∷ ys) fit h = elim (cases_lt x y) [
  | inl less ↦ rw (less_from x y less) refl
  | inr other ↦ elim (cases_lt y x) [
    | inl more ↦ cc (more_by_digits x y (slice_cmp nat_cmp (encode_lower xs) (encode_lower ys)) more fit.0)
    | inr same ↦
        let is : x ≡ y = omega arith in
        let rest = bytes_rise xs ys fit.1 (sym (same_by_digits x y (slice_cmp nat_cmp (encode_lower xs) (encode_lower ys)) is) ∙ h) in
        rw (same_from x y is) rest
  ]
]

after_front : (front xs ys : List ℕ) → slice_cmp nat_cmp (front ++ xs) (front ++ ys) ≡ slice_cmp nat_cmp xs ys
after_front [] xs ys = refl
after_front (c ∷ front) xs ys = rw (same_from c c refl) (after_front front xs ys)

-- where a digest's text stands before another's, so does the digest
pub digests_rise : (first second a b : List ℕ) → digest_of first ≡ Some a → digest_of second ≡ Some b → slice_cmp nat_cmp first second ≡ Less → slice_cmp nat_cmp a b ≡ Less
digests_rise first second a b e f h =
    let one = digest_of-some first a e in
    let two = digest_of-some second b f in
    let texts : slice_cmp nat_cmp (digest_text a) (digest_text b) ≡ Less = rw (one.1, two.1) at h in
    bytes_rise a b (recursion_from_All (λ byte. byte < 256) a one.0.bytes) (sym (after_front (codes "sha256:") (encode_lower a) (encode_lower b)) ∙ texts)
