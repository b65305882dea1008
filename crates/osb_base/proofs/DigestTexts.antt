-- A digest has one text, and no other text gives it.
use Rattle.std.proofs.Common.{◌≡◌, ℕ, zero, suc, ◌+◌, ◌*◌, ◌/◌, ◌%◌, ◌<◌, ◌==◌, ◌&&◌, Bool, true, false, nat_lt, List, [], ◌∷◌, ◌++◌, length, drop, slice_index, Option, Some, None, Ok, Err, ok_or, unwrap_or, if◌then◌else◌, eq-eqb, inl, inr, refl, sym, ap, ◌∙◌, arith}
use Rattle.std.specs.Prelude.{codes}
use Rattle.std.specs.List.{AllByRecursion, starts_with}
use Rattle.std.proofs.lemmas.Bool.{and_parts, cases_lt, eqb-true, ltb-true}
use Rattle.std.proofs.lemmas.List.Elements.{All-from_recursion, All-from_get_or, recursion_from_All}
use Rattle.std.proofs.lemmas.Bool.Decides.{Decides-eqb}
use Rattle.std.proofs.lemmas.Slice.Eq.{starts_is}
use Rattle.hex.specs.Hex.{IsBytes, decode_sized, encode_lower, encode_with, lower_digits}
use Rattle.std.proofs.lemmas.List.{get_or_past}
use Rattle.hex.proofs.HexLemmas.{length-encode_with, decode_of-ok, decode_sized-encode_lower, decode_sized-ok, decode_sized-twice}
use Rattle.osb_base.specs.Digests.{IsDigest, digest_text, digit_value, with_byte, spelled, digest_of, digest_read}
use Rattle.osb_base.specs.declared.digests.DigestFault.TheVariants.{BadForm}

-- ---- tests of each number below a bound, which compute

abbrev pub all_below : (ℕ → Bool) → ℕ → Bool
all_below test zero = true
all_below test (suc n) = test n && all_below test n

pub all_below-at : (test : ℕ → Bool) (n k : ℕ) → all_below test n ≡ true → k < n → test k ≡ true
all_below-at test zero k h lt = absurd (omega arith)
all_below-at test (suc n) k h lt =
    let parts = and_parts (test n) (all_below test n) h in
    elim (cases_lt k n) [
      | inl below ↦ all_below-at test n k parts.1 below
      | inr top ↦
          let e : k ≡ n = omega arith in
          rw e parts.0
    ]

-- ---- digits

-- the digit of a value reads as that value
abbrev reads_back : ℕ → Bool
reads_back v = unwrap_or (digit_value (slice_index lower_digits v)) 99 == v

some_from_unwrap : (o : Option ℕ) (v : ℕ) → v < 16 → unwrap_or o 99 ≡ v → o ≡ Some v
some_from_unwrap (Some w) v lt e = ap Some e
some_from_unwrap None v lt e = absurd (omega arith)

digit_value-lower_digits : (v : ℕ) → v < 16 → digit_value (slice_index lower_digits v) ≡ Some v
digit_value-lower_digits v lt =
    some_from_unwrap (digit_value (slice_index lower_digits v)) v lt
    (eqb-true (unwrap_or (digit_value (slice_index lower_digits v)) 99) v (all_below-at reads_back 16 v refl lt))

-- the value of a digit has that digit
abbrev has_digit : ℕ → Option ℕ → Bool
has_digit c None = true
has_digit c (Some v) = nat_lt v 16 && (slice_index lower_digits v == c)

abbrev writes_back : ℕ → Bool
writes_back c = has_digit c (digit_value c)

digit_value-past : (c v : ℕ) → 102 < c → digit_value c ≡ Some v → c < 103
digit_value-past c v past h = grind (arith)

digit_value-some : (c v : ℕ) → digit_value c ≡ Some v → (v < 16) × (slice_index lower_digits v ≡ c)
digit_value-some c v h =
    elim (cases_lt c 103) [
      | inl below ↦
          let test : has_digit c (Some v) ≡ true = ap (has_digit c) (sym h) ∙ all_below-at writes_back 103 c refl below in
          let parts = and_parts (nat_lt v 16) (slice_index lower_digits v == c) test in
          (ltb-true v 16 parts.0, eqb-true (slice_index lower_digits v) c parts.1)
      | inr past ↦ absurd (let low = digit_value-past c v (omega arith) h in omega arith)
    ]

-- ---- bytes

with_byte-some : (high low : Option ℕ) (rest : Option (List ℕ)) (bytes : List ℕ) → with_byte high low rest ≡ Some bytes
    → (h : ℕ) × (l : ℕ) × (bs : List ℕ) × (high ≡ Some h) × (low ≡ Some l) × (rest ≡ Some bs) × (bytes ≡ (h * 16 + l) ∷ bs)
with_byte-some (Some h) (Some l) (Some bs) bytes e = (h, l, bs, refl, refl, refl, cc)
with_byte-some None low rest bytes e = cc e
with_byte-some (Some h) None rest bytes e = cc e
with_byte-some (Some h) (Some l) None bytes e = cc e

abbrev AreBytes : List ℕ → Type 0
AreBytes bytes = AllByRecursion (λ byte. byte < 256) bytes

pub spelled-some : (digits bytes : List ℕ) → spelled digits ≡ Some bytes → (digits ≡ encode_lower bytes) × AreBytes bytes
unfolding spelled encode_with
spelled-some [] bytes e = let same : [] ≡ bytes = cc in rw (← same) (refl, tt)
spelled-some (digit ∷ []) bytes e = cc e
spelled-some (high ∷ low ∷ digits) bytes e =
    let parts = with_byte-some (digit_value high) (digit_value low) (spelled digits) bytes e in
    let h = parts.0 in
    let l = parts.1 in
    let first = digit_value-some high h parts.3 in
    let second = digit_value-some low l parts.4 in
    let rest = spelled-some digits parts.2 parts.5 in
    let upper : (h * 16 + l) / 16 ≡ h = omega arith in
    let lower : (h * 16 + l) % 16 ≡ l = omega arith in
    rw (parts.6, upper, lower, first.1, second.1, ← rest.0) (refl, (omega arith, rest.1))

pub spelled-encode_lower : (bytes : List ℕ) → AreBytes bytes → spelled (encode_lower bytes) ≡ Some bytes
unfolding spelled encode_with
spelled-encode_lower [] h = refl
spelled-encode_lower (byte ∷ bytes) h =
    let fits : byte < 256 = h.0 in
    let high = digit_value-lower_digits (byte / 16) (omega arith) in
    let low = digit_value-lower_digits (byte % 16) (omega arith) in
    let rest = spelled-encode_lower bytes h.1 in
    let whole : byte / 16 * 16 + byte % 16 ≡ byte = omega arith in
    rw (high, low, rest, whole) refl

-- ---- digests

IsDigest-from : (bytes : List ℕ) → length bytes ≡ 32 → AreBytes bytes → IsDigest bytes
IsDigest-from bytes len h = record { length = len; bytes = All-from_recursion (λ byte. byte < 256) bytes h }

guard-some : (test : Bool) (o : Option (List ℕ)) (bytes : List ℕ) → (if test then o else None) ≡ Some bytes → (test ≡ true) × (o ≡ Some bytes)
guard-some true o bytes e = (refl, e)
guard-some false o bytes e = cc e

guard-holds : (first second : Bool) (o : Option (List ℕ)) (bytes : List ℕ) → first ≡ true → second ≡ true → o ≡ Some bytes
    → (if first && second then o else None) ≡ Some bytes
guard-holds first second o bytes f s e = rw (f, s, e) refl

pub digest_of-some : (text bytes : List ℕ) → digest_of text ≡ Some bytes → IsDigest bytes × (text ≡ digest_text bytes)
unfolding digest_of
digest_of-some text bytes e =
    let parts = guard-some (starts_with ◌==◌ text (codes "sha256:") && length text == 71) (spelled (drop 7 text)) bytes e in
    let tests = and_parts (starts_with ◌==◌ text (codes "sha256:")) (length text == 71) parts.0 in
    let split : text ≡ codes "sha256:" ++ drop 7 text = (starts_is Decides-eqb text (codes "sha256:") _ refl).0 tests.0 in
    let size : length text ≡ 71 = eqb-true (length text) 71 tests.1 in
    let bytes_are = spelled-some (drop 7 text) bytes parts.1 in
    let whole : text ≡ digest_text bytes = split ∙ ap (λ (digits : List ℕ). codes "sha256:" ++ digits) bytes_are.0 in
    let digits = length-encode_with lower_digits bytes in
    let long : length text ≡ length (digest_text bytes) = ap length whole in
    (IsDigest-from bytes (omega arith) bytes_are.1, whole)

pub digest_of-digest_text : (bytes : List ℕ) → IsDigest bytes → digest_of (digest_text bytes) ≡ Some bytes
unfolding digest_of
digest_of-digest_text bytes h =
    let len = length-encode_with lower_digits bytes in
    let size : length (digest_text bytes) ≡ 71 = omega (arith, len, h.length) in
    let sized : (length (digest_text bytes) == 71) ≡ true = eq-eqb (length (digest_text bytes)) 71 size in
    let starts : starts_with ◌==◌ (digest_text bytes) (codes "sha256:") ≡ true = (starts_is Decides-eqb (digest_text bytes) (codes "sha256:") _ refl).1 (encode_lower bytes) refl in
    guard-holds (starts_with ◌==◌ (digest_text bytes) (codes "sha256:")) (length (digest_text bytes) == 71) _ bytes starts sized
    (spelled-encode_lower bytes (recursion_from_All (λ byte. byte < 256) bytes h.bytes))

-- ---- reading

read_as : (o : Option (List ℕ)) → ((bytes : List ℕ) → o ≡ Some bytes → ⊥) → Err BadForm ≡ ok_or o BadForm
read_as None h = refl
read_as (Some bytes) h = absurd (h bytes refl)

-- a text that no digest has
pub digest_read-other : (text : List ℕ) → ((bytes : List ℕ) → IsDigest bytes → text ≡ digest_text bytes → ⊥) → Err BadForm ≡ digest_read text
digest_read-other text h =
    read_as (digest_of text) (λ bytes e. let parts = digest_of-some text bytes e in h bytes parts.0 parts.1)

-- the text of a digest
pub digest_read-digest_text : (text bytes : List ℕ) → IsDigest bytes → text ≡ digest_text bytes → Ok bytes ≡ digest_read text
digest_read-digest_text text bytes h e =
    let read : digest_of text ≡ Some bytes = rw e (digest_of-digest_text bytes h) in
    rw read refl

-- ---- the digits, as they are decoded in code

as_bytes : (bytes : List ℕ) → IsDigest bytes → IsBytes bytes
as_bytes bytes h i =
    elim (cases_lt i (length bytes)) [
      | inl within ↦ h.bytes i 0 within
      | inr past ↦ let e : slice_index bytes i ≡ 0 = get_or_past bytes i 0 past in omega (arith, e)
    ]

-- digits of a digest decode to it
pub decode_sized-digest : (digits bytes : List ℕ) → IsDigest bytes → digits ≡ encode_lower bytes → decode_sized digits 32 ≡ Ok bytes
decode_sized-digest digits bytes h e = rw e (decode_sized-encode_lower bytes 32 h.length (as_bytes bytes h))

-- what decodes is 32 bytes
pub IsDigest-decode_sized : (digits bytes : List ℕ) → decode_sized digits 32 ≡ Ok bytes → IsDigest bytes
IsDigest-decode_sized digits bytes h =
    let len = decode_sized-ok digits 32 bytes h in
    let read = decode_of-ok digits bytes (sym (decode_sized-twice digits 32 len) ∙ h) in
    record { length = omega (arith, len, read.2); bytes = All-from_get_or (λ byte. byte < 256) bytes 0 (λ k lt. read.3 k) }

-- the digits of a digest's text are what stands after its front
pub digits_after : (text digits bytes : List ℕ) → text ≡ codes "sha256:" ++ digits → text ≡ digest_text bytes → digits ≡ encode_lower bytes
digits_after text digits bytes split e = let same : codes "sha256:" ++ digits ≡ digest_text bytes = sym split ∙ e in cc same

-- digits of a digest are those of what they decode to
pub decode_sized-same : (digits bytes read : List ℕ) → IsDigest bytes → digits ≡ encode_lower bytes → decode_sized digits 32 ≡ Ok read
    → digits ≡ encode_lower read
decode_sized-same digits bytes read h e decoded =
    let same : bytes ≡ read = let back = decode_sized-digest digits bytes h e in cc in
    e ∙ ap encode_lower same
