-- What stands around a body: the magic, the length and the digest.
use Rattle.std.proofs.Common.{◌≡◌, ℕ, ◌+◌, ◌-◌, ◌^◌, ◌<◌, ◌≤◌, ◌⊎◌, min, Bool, true, false, List, ◌++◌, length, take, drop, nat_lt, Option, Some, None, Result, Ok, Err, cond, inl, inr, refl, sym, ap, ◌∙◌, subst, arith, append_assoc, length-append, length-take, length-drop}
use Rattle.std.proofs.lemmas.Bool.{cases_lt, false≢true, false_from_ne_true}
use Rattle.std.proofs.lemmas.Bool.Decides.{nat_tests}
use Rattle.std.proofs.lemmas.List.{take-append-drop, take_at, drop_at, take_all}
use Rattle.std.specs.Cmp.Lexicographic.{bytes_decides}
use Rattle.sha2.specs.Sha256.{sha256}
use Rattle.sha2.proofs.Facts256.{length-sha256}
use Rattle.byteorder.specs.Endian.{big_number}
use Rattle.osb_store.specs.declared.refusals.StoreRefusal.{StoreRefusal}
use Rattle.osb_store.specs.declared.refusals.StoreRefusal.TheVariants.{Magic, Truncated, TrailingBytes, Digest}
use Rattle.osb_store.specs.Bytes.{IsBytes}
use Rattle.osb_store.specs.Fields.{number, field}
use Rattle.osb_store.specs.Places.{same_text}
use Rattle.osb_store.specs.Reading.{number_at}
use Rattle.osb_store.specs.Texts.{magic, headed, sealed}
use Rattle.osb_store.specs.Refusals.{BeginsWell, told_length, IsTooShort, IsTooLong, IsUnsealed, IsRefused}
use Rattle.osb_store.specs.Sealing.{begins_well, told_number, signed_of, digest_of, taken_by, body_in}
use Rattle.osb_store.proofs.Spelling.{number_spells, length-number, bytes_behind, if_some, not_short, long_enough}

-- ---- the magic

first_eight : (bytes : List ℕ) → take (min (length bytes) 8) bytes ≡ take 8 bytes
first_eight bytes = elim (cases_lt (length bytes) 8) [
  | inl few ↦ (let m : min (length bytes) 8 ≡ length bytes = omega arith in
      ap (λ (n : ℕ). take n bytes) m ∙ take_all (length bytes) bytes (omega arith) ∙ sym (take_all 8 bytes (omega arith)))
  | inr many ↦ (let m : min (length bytes) 8 ≡ 8 = omega arith in ap (λ (n : ℕ). take n bytes) m)
]

as_many : (n : ℕ) (xs : List ℕ) → length xs ≡ 8 → take (min n 8) xs ≡ take n xs
as_many n xs size = elim (cases_lt n 8) [
  | inl few ↦ (let m : min n 8 ≡ n = omega arith in ap (λ (k : ℕ). take k xs) m)
  | inr many ↦ (let m : min n 8 ≡ 8 = omega arith in
      ap (λ (k : ℕ). take k xs) m ∙ take_all 8 xs (omega arith) ∙ sym (take_all n xs (omega arith)))
]

begins_from : (bytes : List ℕ) → begins_well bytes ≡ true → BeginsWell bytes
begins_from bytes e =
    sym (first_eight bytes) ∙ (bytes_decides (take (min (length bytes) 8) bytes) (take (min (length bytes) 8) magic)).0 e ∙ as_many (length bytes) magic refl

from_begins : (bytes : List ℕ) → BeginsWell bytes → begins_well bytes ≡ true
from_begins bytes e =
    (bytes_decides (take (min (length bytes) 8) bytes) (take (min (length bytes) 8) magic)).1 (first_eight bytes ∙ e ∙ sym (as_many (length bytes) magic refl))

told_is : (bytes : List ℕ) → told_length bytes ≡ 48 + told_number bytes
unfolding told_number
told_is bytes = refl

-- ---- bytes with a head

pub record HasHead (bytes body digest : List ℕ) : Type 0 where
  pub parts : bytes ≡ headed body ++ digest
  pub long : length digest ≡ 32

pub length-headed : (body : List ℕ) → length (headed body) ≡ 16 + length body
unfolding headed
length-headed body =
    let size = length-number (length body) in
    omega (arith, length-append magic (field body), length-append (number (length body)) body)

behind_head : (body : List ℕ) → drop 16 (headed body) ≡ body
unfolding headed
behind_head body =
    let size : length (magic ++ number (length body)) ≡ 16 = omega (arith, length-append magic (number (length body)), length-number (length body)) in
    ap (drop 16) (sym (append_assoc magic (number (length body)) body)) ∙ drop_at (magic ++ number (length body)) body 16 size

in_front : (bytes body digest : List ℕ) → HasHead bytes body digest → bytes ≡ magic ++ (number (length body) ++ (body ++ digest))
unfolding headed
in_front bytes body digest is =
    is.parts ∙ append_assoc magic (field body) digest ∙ ap (λ (xs : List ℕ). magic ++ xs) (append_assoc (number (length body)) body digest)

big_of : (n : ℕ) (rest : List ℕ) → length (number n ++ rest) < 2 ^ 64 → n < 2 ^ 64 → big_number 8 (number n ++ rest) ≡ n
unfolding number_at
big_of n rest short few =
    let xs = number n ++ rest in
    ap (λ (p : ℕ × List ℕ). p.0) (if_some {X = ℕ × List ℕ} (nat_lt (length xs) 8) (big_number 8 xs, drop 8 xs) (n, rest) (number_spells.again n rest short few)).1

told-head : (bytes body digest : List ℕ) → length bytes < 2 ^ 64 → HasHead bytes body digest → told_number bytes ≡ length body
unfolding told_number
told-head bytes body digest short is =
    let rest = body ++ digest in
    let n = length body in
    let whole = in_front bytes body digest is in
    let sizes = ap length whole in
    let behind : drop 8 bytes ≡ number n ++ rest = ap (drop 8) whole ∙ drop_at magic (number n ++ rest) 8 refl in
    let size : length bytes ≡ 8 + (8 + (length body + length digest)) = omega (arith, sizes, length-append magic (number n ++ rest), length-append (number n) rest, length-append body digest, length-number n) in
    ap (big_number 8) behind ∙ big_of n rest (omega (arith, length-append (number n) rest, length-append body digest, length-number n)) (omega arith)

-- what the tests find there
record Found (bytes body digest : List ℕ) : Type 0 where
  begins : begins_well bytes ≡ true
  size : length bytes ≡ 48 + length body
  told : told_number bytes ≡ length body
  signed : signed_of bytes ≡ headed body
  digest_is : digest_of bytes ≡ digest

found : (bytes body digest : List ℕ) → length bytes < 2 ^ 64 → HasHead bytes body digest → Found bytes body digest
found bytes body digest short is =
    let sizes = ap length is.parts in
    let long = is.long in
    let size : length bytes ≡ 48 + length body = omega (arith, sizes, length-append (headed body) digest, length-headed body) in
    let front : length (headed body) ≡ length bytes - 32 = omega (arith, length-headed body) in
    record {
      begins = from_begins bytes (begins bytes (number (length body) ++ (body ++ digest)) (in_front bytes body digest is));
      size = size;
      told = told-head bytes body digest short is;
      signed = ap (take (length bytes - 32)) is.parts ∙ take_at (headed body) digest (length bytes - 32) front;
      digest_is = ap (drop (length bytes - 32)) is.parts ∙ drop_at (headed body) digest (length bytes - 32) front;
    }
  where
    begins : (xs rest : List ℕ) → xs ≡ magic ++ rest → BeginsWell xs
    begins xs rest e =
        let sizes = ap length e in
        ap (take 8) e ∙ take_at magic rest 8 refl ∙ sym (take_all (length xs) magic (omega (arith, sizes, length-append magic rest)))

-- what bytes with a head give
taken_of : (bytes body digest : List ℕ) → length bytes < 2 ^ 64 → HasHead bytes body digest → body_in bytes ≡ cond (same_text (sha256 (headed body)) digest) (Ok body) (Err Digest)
unfolding body_in
taken_of bytes body digest short is =
    let at = found bytes body digest short is in
    let size = at.size in
    let told = at.told in
    let small : nat_lt (length bytes) 48 ≡ false = long_enough _ _ (omega arith) in
    let low : nat_lt (length bytes - 48) (told_number bytes) ≡ false = long_enough _ _ (omega arith) in
    let high : nat_lt (told_number bytes) (length bytes - 48) ≡ false = long_enough _ _ (omega arith) in
    let inner : drop 16 (signed_of bytes) ≡ body = ap (drop 16) at.signed ∙ behind_head body in
    (λ i. taken_by (at.begins i) (small i) (low i) (high i) (same_text (sha256 (at.signed i)) (at.digest_is i)) (inner i)) ∙ last (same_text (sha256 (headed body)) digest)
  where
    last : (signed : Bool) → taken_by true false false false signed body ≡ cond signed (Ok body) (Err Digest)
    last true = refl
    last false = refl

-- bytes that are long enough, and as long as is told, have a head
pub record Head (bytes : List ℕ) : Type 0 where
  pub body : List ℕ
  pub digest : List ℕ
  pub is : HasHead bytes body digest

head_of : (bytes : List ℕ) → IsBytes bytes → begins_well bytes ≡ true → 48 ≤ length bytes → length bytes ≡ 48 + told_number bytes → Head bytes
unfolding headed told_number number_at
head_of bytes b begins long told =
    let behind = drop 8 bytes in
    let rest = drop 8 behind in
    let front : take 8 bytes ≡ magic = begins_from bytes begins ∙ take_all (length bytes) magic (omega arith) in
    let b8 : IsBytes behind = bytes_behind (take 8 bytes) behind bytes (sym (take-append-drop 8 bytes)) b in
    let read : number_at behind ≡ Some (told_number bytes, rest) =
    (let enough : nat_lt (length behind) 8 ≡ false = long_enough _ _ (omega (arith, length-drop 8 bytes)) in
    ap (λ (t : Bool). cond {A = Option (ℕ × List ℕ)} t None (Some (big_number 8 behind, drop 8 behind))) enough) in
    let head = number_spells.takes behind (told_number bytes) rest b8 read in
    let body = take (told_number bytes) rest in
    let digest = drop (told_number bytes) rest in
    let many : length rest ≡ length bytes - 16 = omega (arith, length-drop 8 behind, length-drop 8 bytes) in
    let size : told_number bytes ≡ length body = omega (arith, length-take (told_number bytes) rest) in
    let split : rest ≡ body ++ digest = sym (take-append-drop (told_number bytes) rest) in
    let whole : bytes ≡ headed body ++ digest =
    sym (take-append-drop 8 bytes)
    ∙ (λ i. front i ++ head.parts i)
    ∙ (λ i. magic ++ (number (size i) ++ split i))
    ∙ ap (λ (xs : List ℕ). magic ++ xs) (sym (append_assoc (number (length body)) body digest))
    ∙ sym (append_assoc magic (field body) digest) in
    record { body = body; digest = digest; is = record { parts = whole; long = omega (arith, length-drop (told_number bytes) rest) } }

-- ---- the laws

pub seal_again : (bytes body : List ℕ) → length bytes < 2 ^ 64 → bytes ≡ sealed body → body_in bytes ≡ Ok body
unfolding sealed
seal_again bytes body short e =
    let digest = sha256 (headed body) in
    taken_of bytes body digest short (record { parts = e; long = length-sha256 (headed body) }) ∙ ap (λ (t : Bool). cond {A = Result (List ℕ) StoreRefusal} t (Ok body) (Err Digest)) ((bytes_decides digest digest).1 refl)

-- what it tells of the bytes
abbrev pub Told : List ℕ → Result (List ℕ) StoreRefusal → Type 0
Told bytes (Ok body) = bytes ≡ sealed body
Told bytes (Err refusal) = IsRefused refusal bytes

module _ (bytes : List ℕ) (b : IsBytes bytes) (short : length bytes < 2 ^ 64) where
  signed_told : (begins : begins_well bytes ≡ true) → 48 ≤ length bytes → length bytes ≡ 48 + told_number bytes → Told bytes (body_in bytes)
  unfolding sealed
  signed_told begins long told =
      let head = head_of bytes b begins long told in
      let body = head.body in
      let digest = head.digest in
      subst (Told bytes) (sym (taken_of bytes body digest short head.is)) (tested (same_text (sha256 (headed body)) digest) refl)
    where
      tested : (signed : Bool) → same_text (sha256 (headed (head_of bytes b begins long told).body)) (head_of bytes b begins long told).digest ≡ signed → Told bytes (cond signed (Ok (head_of bytes b begins long told).body) (Err Digest))
      tested true e =
          let head = head_of bytes b begins long told in
          head.is.parts ∙ ap (λ (xs : List ℕ). headed head.body ++ xs) (sym ((bytes_decides (sha256 (headed head.body)) head.digest).0 e))
      tested false e =
          let head = head_of bytes b begins long told in
          record {
            body = head.body;
            digest = head.digest;
            parts = head.is.parts;
            long = head.is.long;
            other = λ same. false≢true (sym e ∙ (bytes_decides (sha256 (headed head.body)) head.digest).1 (sym same));
          }

  told_by : (begins small low high : Bool) → begins_well bytes ≡ begins → nat_lt (length bytes) 48 ≡ small → nat_lt (length bytes - 48) (told_number bytes) ≡ low → nat_lt (told_number bytes) (length bytes - 48) ≡ high → Told bytes (body_in bytes)
  unfolding body_in
  told_by false small low high e1 e2 e3 e4 =
      subst (Told bytes) (λ i. taken_by (sym e1 i) (nat_lt (length bytes) 48) (nat_lt (length bytes - 48) (told_number bytes)) (nat_lt (told_number bytes) (length bytes - 48)) (same_text (sha256 (signed_of bytes)) (digest_of bytes)) (drop 16 (signed_of bytes)))
      (λ begins. false≢true (sym e1 ∙ from_begins bytes begins))
  told_by true true low high e1 e2 e3 e4 =
      let few : length bytes < 48 = grind (arith, nat_tests) in
      subst (Told bytes) (λ i. taken_by (sym e1 i) (sym e2 i) (nat_lt (length bytes - 48) (told_number bytes)) (nat_lt (told_number bytes) (length bytes - 48)) (same_text (sha256 (signed_of bytes)) (digest_of bytes)) (drop 16 (signed_of bytes)))
      (record { begins = begins_from bytes e1; short = inr (subst (λ (n : ℕ). length bytes < n) (sym (told_is bytes)) (omega arith)) })
  told_by true false true high e1 e2 e3 e4 =
      let few : length bytes - 48 < told_number bytes = grind (arith, nat_tests) in
      subst (Told bytes) (λ i. taken_by (sym e1 i) (sym e2 i) (sym e3 i) (nat_lt (told_number bytes) (length bytes - 48)) (same_text (sha256 (signed_of bytes)) (digest_of bytes)) (drop 16 (signed_of bytes)))
      (record { begins = begins_from bytes e1; short = inr (subst (λ (n : ℕ). length bytes < n) (sym (told_is bytes)) (omega arith)) })
  told_by true false false true e1 e2 e3 e4 =
      let many : told_number bytes < length bytes - 48 = grind (arith, nat_tests) in
      subst (Told bytes) (λ i. taken_by (sym e1 i) (sym e2 i) (sym e3 i) (sym e4 i) (same_text (sha256 (signed_of bytes)) (digest_of bytes)) (drop 16 (signed_of bytes)))
      (record { begins = begins_from bytes e1; headed = omega arith; long = subst (λ (n : ℕ). n < length bytes) (sym (told_is bytes)) (omega arith) })
  told_by true false false false e1 e2 e3 e4 =
      let long : 48 ≤ length bytes = not_short _ _ e2 in
      let low : told_number bytes ≤ length bytes - 48 = not_short _ _ e3 in
      let high : length bytes - 48 ≤ told_number bytes = not_short _ _ e4 in
      signed_told e1 long (omega arith)

  pub seal_told : Told bytes (body_in bytes)
  seal_told = told_by (begins_well bytes) (nat_lt (length bytes) 48) (nat_lt (length bytes - 48) (told_number bytes)) (nat_lt (told_number bytes) (length bytes - 48)) refl refl refl refl

  -- ---- each cause is found

  pub magic_again : IsRefused Magic bytes → body_in bytes ≡ Err Magic
  unfolding body_in
  magic_again none =
      let e : begins_well bytes ≡ false = false_from_ne_true _ (λ t. none (begins_from bytes t)) in
      λ i. taken_by (e i) (nat_lt (length bytes) 48) (nat_lt (length bytes - 48) (told_number bytes)) (nat_lt (told_number bytes) (length bytes - 48)) (same_text (sha256 (signed_of bytes)) (digest_of bytes)) (drop 16 (signed_of bytes))

  pub short_again : IsTooShort bytes → body_in bytes ≡ Err Truncated
  unfolding body_in
  short_again is =
      let begins = from_begins bytes is.begins in
      (λ i. taken_by (begins i) (nat_lt (length bytes) 48) (nat_lt (length bytes - 48) (told_number bytes)) (nat_lt (told_number bytes) (length bytes - 48)) (same_text (sha256 (signed_of bytes)) (digest_of bytes)) (drop 16 (signed_of bytes)))
      ∙ by (nat_lt (length bytes) 48) (nat_lt (length bytes - 48) (told_number bytes)) refl refl (few is.short)
    where
      few : (length bytes < 16) ⊎ (length bytes < told_length bytes) → (length bytes < 48) ⊎ (length bytes - 48 < told_number bytes)
      few (inl h) = inl (omega arith)
      few (inr h) = elim (cases_lt (length bytes) 48) [
        | inl small ↦ inl small
        | inr large ↦ (let h' : length bytes < 48 + told_number bytes = subst (λ (n : ℕ). length bytes < n) (told_is bytes) h in inr (omega arith))
      ]

      by : (small low : Bool) → nat_lt (length bytes) 48 ≡ small → nat_lt (length bytes - 48) (told_number bytes) ≡ low → (length bytes < 48) ⊎ (length bytes - 48 < told_number bytes)
          → taken_by true small low (nat_lt (told_number bytes) (length bytes - 48)) (same_text (sha256 (signed_of bytes)) (digest_of bytes)) (drop 16 (signed_of bytes)) ≡ Err Truncated
      by true low e2 e3 h = refl
      by false true e2 e3 h = refl
      by false false e2 e3 (inl h) = absurd (let l = not_short _ _ e2 in omega arith)
      by false false e2 e3 (inr h) = absurd (let l = not_short _ _ e3 in omega arith)

  pub long_again : IsTooLong bytes → body_in bytes ≡ Err TrailingBytes
  unfolding body_in
  long_again is =
      let begins = from_begins bytes is.begins in
      let long : 48 + told_number bytes < length bytes = subst (λ (n : ℕ). n < length bytes) (told_is bytes) is.long in
      let small : nat_lt (length bytes) 48 ≡ false = long_enough _ _ (omega arith) in
      let low : nat_lt (length bytes - 48) (told_number bytes) ≡ false = long_enough _ _ (omega arith) in
      let high : nat_lt (told_number bytes) (length bytes - 48) ≡ true = grind (arith, nat_tests) in
      λ i. taken_by (begins i) (small i) (low i) (high i) (same_text (sha256 (signed_of bytes)) (digest_of bytes)) (drop 16 (signed_of bytes))

  pub digest_again : IsUnsealed bytes → body_in bytes ≡ Err Digest
  digest_again is =
      let e : same_text (sha256 (headed is.body)) is.digest ≡ false = false_from_ne_true _ (λ t. is.other (sym ((bytes_decides (sha256 (headed is.body)) is.digest).0 t))) in
      taken_of bytes is.body is.digest short (record { parts = is.parts; long = is.long }) ∙ ap (λ (t : Bool). cond {A = Result (List ℕ) StoreRefusal} t (Ok is.body) (Err Digest)) e
