-- Readers of texts: what is read has its text in front of the rest, and a text is read back before anything that follows.
use Rattle.std.proofs.Common.{◌≡◌, ℕ, zero, suc, ◌+◌, ◌*◌, ◌^◌, ◌<◌, ◌≤◌, Bool, true, false, List, [], ◌∷◌, ◌++◌, length, take, drop, Option, Some, None, cond, nat_lt, get_or, inl, inr, lit<, refl, sym, ap, ◌∙◌, subst, arith, append_assoc, length-append, length-take}
use Rattle.std.specs.List.{flat_map, AllByRecursion}
use Rattle.std.specs.Option.{option_map}
use Rattle.std.specs.Int.{bytes_high_first, w32, w64, from_be_bytes}
use Rattle.std.specs.Str.{is_utf8}
use Rattle.std.proofs.lemmas.Bool.{cases_lt}
use Rattle.std.proofs.lemmas.Bool.Decides.{nat_tests}
use Rattle.std.proofs.lemmas.List.{get_or-append-add, get_or-take, get_or_past, take-append-drop, length-take-le, take_at, drop_at}
use Rattle.std.proofs.lemmas.Nat.{be_bytes_4, be_bytes_8}
use Rattle.std.proofs.lemmas.Option.{option_and_then_some, none-some, same_Some, cond_some}
use Rattle.byteorder.specs.Endian.{big_number}
use Rattle.byteorder.specs.Numbers.{big_from-lt, big_from-take, big_number-reads_back, length-bytes_high_first}
use Rattle.osb_store.specs.Bytes.{IsBytes}
use Rattle.osb_store.specs.Fields.{number, small_number, field}
use Rattle.osb_store.specs.Reading.{At, byte_at, bytes_at, number_at, small_number_at, field_at, text_at, utf8_of, then_at, both_at, parsed_at, times_at, list_at}

-- the text of what was read stands in front, and what was read fits
pub record Takes {X : Type 0} (text : X → List ℕ) (Fits : X → Type 0) (bytes : List ℕ) (x : X) (rest : List ℕ) : Type 0 where
  pub parts : bytes ≡ text x ++ rest
  pub fits : Fits x

pub record Spells {X : Type 0} (text : X → List ℕ) (Fits : X → Type 0) (read : At X) : Type 0 where
  pub takes : (bytes : List ℕ) (x : X) (rest : List ℕ) → IsBytes bytes → read bytes ≡ Some (x, rest) → Takes text Fits bytes x rest
  pub again : (x : X) (rest : List ℕ) → length (text x ++ rest) < 2 ^ 64 → Fits x → read (text x ++ rest) ≡ Some (x, rest)

abbrev pub Anything : {X : Type 0} → X → Type 0
Anything x = Unit {0}

-- ---- bytes, and what is made of an option

pub bytes_behind : (front rest bytes : List ℕ) → bytes ≡ front ++ rest → IsBytes bytes → IsBytes rest
bytes_behind front rest bytes e h i =
    subst (λ (n : ℕ). n < 256) (ap (λ (xs : List ℕ). get_or xs (length front + i) 0) e ∙ get_or-append-add front rest i 0) (h (length front + i))

pub option_map_some : {X Y P : Type 0} (make : X → Y) (found : Option X) (y : Y) → option_map make found ≡ Some y → ((x : X) → found ≡ Some x → make x ≡ y → P) → P
option_map_some make None y e next = absurd (none-some y e)
option_map_some make (Some x) y e next = next x refl (same_Some (make x) y e)

shorter : (a b rest : List ℕ) → length (a ++ b ++ rest) < 2 ^ 64 → length (a ++ (b ++ rest)) < 2 ^ 64
shorter a b rest h = subst (λ (xs : List ℕ). length xs < 2 ^ 64) (append_assoc a b rest) h

pub shorter_behind : (a rest : List ℕ) → length (a ++ rest) < 2 ^ 64 → length rest < 2 ^ 64
shorter_behind a rest h = omega (arith, length-append a rest)

-- ---- bytes and numbers

pub byte_spells : Spells (λ byte. byte ∷ []) Anything byte_at
byte_spells = record { takes = takes; again = λ x rest short fits. refl }
  where
    takes : (bytes : List ℕ) (x : ℕ) (rest : List ℕ) → IsBytes bytes → byte_at bytes ≡ Some (x, rest) → Takes (λ byte. byte ∷ []) Anything bytes x rest
    takes [] x rest b e = absurd (none-some (x, rest) e)
    takes (byte ∷ behind) x rest b e =
        let same = same_Some (byte, behind) (x, rest) e in
        record { parts = λ i. (same i).0 ∷ (same i).1; fits = tt }

pub if_some : {X : Type 0} (b : Bool) (x y : X) → cond b None (Some x) ≡ Some y → (b ≡ false) × (x ≡ y)
if_some true x y e = absurd (none-some y e)
if_some false x y e = (refl, same_Some x y e)

pub not_short : (n m : ℕ) → nat_lt n m ≡ false → m ≤ n
not_short n m e = grind (arith, nat_tests)

pub long_enough : (n m : ℕ) → m ≤ n → nat_lt n m ≡ false
long_enough n m h = grind (arith, nat_tests)

small_front : (n : ℕ) (bytes : List ℕ) → IsBytes bytes → (i : ℕ) → get_or (take n bytes) i 0 < 256
small_front n bytes b i = elim (cases_lt i n) [
  | inl below ↦ rw get_or-take (b i)
  | inr past ↦ rw (get_or_past (take n bytes) i 0 (omega (arith, length-take n bytes))) (lit< tt)
]

number_bytes : (bytes : List ℕ) → IsBytes bytes → 8 ≤ length bytes → bytes_high_first 8 (big_number 8 bytes) ≡ take 8 bytes
number_bytes bytes b long =
    let front : big_number 8 (take 8 bytes) ≡ big_number 8 bytes = big_from-take 0 8 8 bytes (omega arith) in
    let same : big_number 8 bytes ≡ from_be_bytes w64 (take 8 bytes) = omega (arith, front) in
    be_bytes_8 (take 8 bytes) (big_number 8 bytes) (omega (arith, length-take 8 bytes)) (small_front 8 bytes b) same

small_number_bytes : (bytes : List ℕ) → IsBytes bytes → 4 ≤ length bytes → bytes_high_first 4 (big_number 4 bytes) ≡ take 4 bytes
small_number_bytes bytes b long =
    let front : big_number 4 (take 4 bytes) ≡ big_number 4 bytes = big_from-take 0 4 4 bytes (omega arith) in
    let same : big_number 4 bytes ≡ from_be_bytes w32 (take 4 bytes) = omega (arith, front) in
    be_bytes_4 (take 4 bytes) (big_number 4 bytes) (omega (arith, length-take 4 bytes)) (small_front 4 bytes b) same

-- a number of k bytes, read as its two sizes are
abbrev piece : ℕ → At ℕ
piece k bytes = cond (nat_lt (length bytes) k) None (Some (big_number k bytes, drop k bytes))

piece_takes : (k : ℕ) (bytes : List ℕ) (x : ℕ) (rest : List ℕ) → IsBytes bytes → (k ≤ length bytes → bytes_high_first k (big_number k bytes) ≡ take k bytes) → piece k bytes ≡ Some (x, rest)
    → Takes (bytes_high_first k) (λ n. n < 256 ^ k) bytes x rest
piece_takes k bytes x rest b same e =
    let is = if_some (nat_lt (length bytes) k) (big_number k bytes, drop k bytes) (x, rest) e in
    let front : bytes_high_first k (big_number k bytes) ≡ take k bytes = same (not_short _ _ is.0) in
    record {
      parts = sym (take-append-drop k bytes) ∙ ap (λ (xs : List ℕ). xs ++ drop k bytes) (sym front) ∙ (λ i. bytes_high_first k (is.1 i).0 ++ (is.1 i).1);
      fits = subst (λ (n : ℕ). n < 256 ^ k) (λ i. (is.1 i).0) (big_from-lt 0 k bytes b);
    }

piece_again : (k x : ℕ) (rest : List ℕ) → x < 256 ^ k → piece k (bytes_high_first k x ++ rest) ≡ Some (x, rest)
piece_again k x rest small =
    let text = bytes_high_first k x in
    let size : length text ≡ k = length-bytes_high_first k x in
    let long : nat_lt (length (text ++ rest)) k ≡ false = long_enough _ _ (omega (arith, length-append text rest)) in
    let behind : drop k (text ++ rest) ≡ rest = drop_at text rest k size in
    rw long (λ i. Some (big_number-reads_back k x rest small i, behind i))

pub number_spells : Spells number (λ n. n < 2 ^ 64) number_at
unfolding number number_at
number_spells = record {
  takes = λ bytes x rest b e. piece_takes 8 bytes x rest b (number_bytes bytes b) e;
  again = λ x rest short fits. piece_again 8 x rest fits;
}

pub small_number_spells : Spells small_number (λ n. n < 2 ^ 32) small_number_at
unfolding small_number small_number_at
small_number_spells = record {
  takes = λ bytes x rest b e. piece_takes 4 bytes x rest b (small_number_bytes bytes b) e;
  again = λ x rest short fits. piece_again 4 x rest fits;
}

pub length-number : (n : ℕ) → length (number n) ≡ 8
unfolding number
length-number n = length-bytes_high_first 8 n

-- ---- fields

field_takes : (bytes x rest : List ℕ) → IsBytes bytes → field_at bytes ≡ Some (x, rest) → Takes field Anything bytes x rest
unfolding field_at
field_takes bytes x rest b e =
    option_and_then_some (λ n. bytes_at n.0 n.1) (number_at bytes) (x, rest) e (λ n first second.
    let head = number_spells.takes bytes n.0 n.1 b first in
    let is = if_some (nat_lt (length n.1) n.0) (take n.0 n.1, drop n.0 n.1) (x, rest) second in
    let long = not_short _ _ is.0 in
    let size : n.0 ≡ length (take n.0 n.1) = sym (length-take-le n.0 n.1 long) in
    let behind : n.1 ≡ take n.0 n.1 ++ drop n.0 n.1 = sym (take-append-drop n.0 n.1) in
    let whole : bytes ≡ field (take n.0 n.1) ++ drop n.0 n.1 = head.parts ∙ (λ i. number (size i) ++ behind i) ∙ sym (append_assoc (number (length (take n.0 n.1))) (take n.0 n.1) (drop n.0 n.1)) in
    record { parts = whole ∙ (λ i. field (is.1 i).0 ++ (is.1 i).1); fits = tt })

field_again : (x rest : List ℕ) → length (field x ++ rest) < 2 ^ 64 → field_at (field x ++ rest) ≡ Some (x, rest)
unfolding field_at
field_again x rest short =
    let behind = x ++ rest in
    let nested : length (number (length x) ++ behind) < 2 ^ 64 = shorter (number (length x)) x rest short in
    let few : length x < 2 ^ 64 = omega (arith, length-append (number (length x)) behind, length-append x rest) in
    let head : number_at (number (length x) ++ behind) ≡ Some (length x, behind) = number_spells.again (length x) behind nested few in
    let long : nat_lt (length behind) (length x) ≡ false = long_enough _ _ (omega (arith, length-append x rest)) in
    rw (append_assoc (number (length x)) x rest, head, long) (λ i. Some (take_at x rest (length x) refl i, drop_at x rest (length x) refl i))

pub field_spells : Spells field Anything field_at
field_spells = record { takes = field_takes; again = λ x rest short fits. field_again x rest short }

-- ---- one after another

module _ {X Y : Type 0} (text : X → List ℕ) (Fits : X → Type 0) (read : At X) (spells : Spells text Fits read) where
  module _ (text2 : Y → List ℕ) (Fits2 : Y → Type 0) (read2 : At Y) (spells2 : Spells text2 Fits2 read2) where
    both_takes : (bytes : List ℕ) (p : X × Y) (rest : List ℕ) → IsBytes bytes → both_at read read2 bytes ≡ Some (p, rest) → Takes (λ q. text q.0 ++ text2 q.1) (λ q. Fits q.0 × Fits2 q.1) bytes p rest
    both_takes bytes p rest b e =
        option_and_then_some (λ x. option_map (λ y. ((x.0, y.0), y.1)) (read2 x.1)) (read bytes) (p, rest) e (λ x first later.
        let head = spells.takes bytes x.0 x.1 b first in
        option_map_some (λ y. ((x.0, y.0), y.1)) (read2 x.1) (p, rest) later (λ y second same.
        let next = spells2.takes x.1 y.0 y.1 (bytes_behind (text x.0) x.1 bytes head.parts b) second in
        let whole : bytes ≡ (text x.0 ++ text2 y.0) ++ y.1 = head.parts ∙ ap (λ (xs : List ℕ). text x.0 ++ xs) next.parts ∙ sym (append_assoc (text x.0) (text2 y.0) y.1) in
        let Both : (X × Y) × List ℕ → Type 0 = λ q. Takes (λ r. text r.0 ++ text2 r.1) (λ r. Fits r.0 × Fits2 r.1) bytes q.0 q.1 in
        subst Both same (record { parts = whole; fits = (head.fits, next.fits) })))

    both_again : (p : X × Y) (rest : List ℕ) → length (text p.0 ++ text2 p.1 ++ rest) < 2 ^ 64 → Fits p.0 × Fits2 p.1 → both_at read read2 (text p.0 ++ text2 p.1 ++ rest) ≡ Some (p, rest)
    both_again p rest short fits =
        let nested = shorter (text p.0) (text2 p.1) rest short in
        let first = spells.again p.0 (text2 p.1 ++ rest) nested fits.0 in
        let second = spells2.again p.1 rest (shorter_behind (text p.0) (text2 p.1 ++ rest) nested) fits.1 in
        rw (append_assoc (text p.0) (text2 p.1) rest, first, second) refl

    pub both_spell : Spells (λ p. text p.0 ++ text2 p.1) (λ p. Fits p.0 × Fits2 p.1) (both_at read read2)
    both_spell = record { takes = both_takes; again = both_again }

  -- what is made of what is read, where it makes something
  pub parsed_spells : (make : X → Option Y) (apart : Y → X) (Good : Y → Type 0)
      → ((x : X) (y : Y) → Fits x → make x ≡ Some y → (x ≡ apart y) × Good y)
      → ((y : Y) → Good y → (make (apart y) ≡ Some y) × Fits (apart y))
      → Spells (λ y. text (apart y)) Good (parsed_at make read)
  parsed_spells make apart Good there back = record {
    takes = λ bytes y rest b e.
        option_and_then_some (λ x. option_map (λ z. (z, x.1)) (make x.0)) (read bytes) (y, rest) e (λ x first later.
        let head = spells.takes bytes x.0 x.1 b first in
        option_map_some (λ z. (z, x.1)) (make x.0) (y, rest) later (λ z made same.
        let good = there x.0 z head.fits made in
        let Made : Y × List ℕ → Type 0 = λ q. Takes (λ w. text (apart w)) Good bytes q.0 q.1 in
        subst Made same (record { parts = head.parts ∙ (λ i. text (good.0 i) ++ x.1); fits = good.1 })));
    again = λ y rest short good.
        let is = back y good in
        rw (spells.again (apart y) rest short is.1, is.0) refl;
  }

-- a text that is written in another way
pub respelled : {X : Type 0} (text other : X → List ℕ) (Fits Good : X → Type 0) (read : At X) → ((x : X) → text x ≡ other x) → ((x : X) → Fits x → Good x) → ((x : X) → Good x → Fits x) → Spells text Fits read → Spells other Good read
respelled text other Fits Good read same there back spells = record {
  takes = λ bytes x rest b e.
      let head = spells.takes bytes x rest b e in
      record { parts = head.parts ∙ ap (λ (xs : List ℕ). xs ++ rest) (same x); fits = there x head.fits };
  again = λ x rest short good.
      rw (sym (same x)) (spells.again x rest (subst (λ (xs : List ℕ). length (xs ++ rest) < 2 ^ 64) (sym (same x)) short) (back x good));
}

-- a byte that tells what follows it
pub tagged_spells : {X : Type 0} (text : X → List ℕ) (Fits : X → Type 0) (tag : X → ℕ) (body : X → List ℕ) (behind : ℕ → At X)
    → ((x : X) → tag x ∷ body x ≡ text x)
    → ((n : ℕ) (bytes : List ℕ) (x : X) (rest : List ℕ) → IsBytes bytes → behind n bytes ≡ Some (x, rest) → Takes (λ y. n ∷ body y) (λ y. (n ≡ tag y) × Fits y) (n ∷ bytes) x rest)
    → ((x : X) (rest : List ℕ) → length (body x ++ rest) < 2 ^ 64 → Fits x → behind (tag x) (body x ++ rest) ≡ Some (x, rest))
    → Spells text Fits (then_at byte_at behind)
tagged_spells text Fits tag body behind same there back = respelled (λ x. tag x ∷ body x) text Fits Fits (then_at byte_at behind) same (λ x h. h) (λ x h. h) (record { takes = takes; again = again })
  where
    takes : (bytes : List ℕ) (x : _) (rest : List ℕ) → IsBytes bytes → then_at byte_at behind bytes ≡ Some (x, rest) → Takes (λ y. tag y ∷ body y) Fits bytes x rest
    takes [] x rest b e = absurd (none-some (x, rest) e)
    takes (n ∷ bytes) x rest b e =
        let is = there n bytes x rest (λ i. b (suc i)) e in
        record { parts = is.parts ∙ (λ i. is.fits.0 i ∷ (body x ++ rest)); fits = is.fits.1 }

    again : (x : _) (rest : List ℕ) → length (tag x ∷ body x ++ rest) < 2 ^ 64 → Fits x → then_at byte_at behind (tag x ∷ body x ++ rest) ≡ Some (x, rest)
    again x rest short fits = back x rest (omega arith) fits

-- ---- lists

-- the least that texts have, one after another
pub length-texts : {X : Type 0} (text : X → List ℕ) (n : ℕ) → ((x : X) → n ≤ length (text x)) → (xs : List X) → n * length xs ≤ length (flat_map text xs)
length-texts text n each [] = omega arith
length-texts text n each (x ∷ xs) =
    let more = length-texts text n each xs in
    let here = each x in
    let size : n * suc (length xs) ≡ n * length xs + n = omega arith in
    omega (arith, length-append (text x) (flat_map text xs))

module _ {X : Type 0} (text : X → List ℕ) (Fits : X → Type 0) (read : At X) (spells : Spells text Fits read) where
  times_takes : (count : ℕ) (bytes : List ℕ) (xs : List X) (rest : List ℕ) → IsBytes bytes → times_at read count bytes ≡ Some (xs, rest)
      → Takes (flat_map text) (λ ys. (length ys ≡ count) × AllByRecursion Fits ys) bytes xs rest
  times_takes zero bytes xs rest b e =
      let same = same_Some ([], bytes) (xs, rest) e in
      let Taken : List X × List ℕ → Type 0 = λ q. Takes (flat_map text) (λ ys. (length ys ≡ zero) × AllByRecursion Fits ys) bytes q.0 q.1 in
      subst Taken same (record { parts = refl; fits = (refl, tt) })
  times_takes (suc count) bytes xs rest b e =
      option_and_then_some (λ x. option_map (λ ys. (x.0 ∷ ys.0, ys.1)) (times_at read count x.1)) (read bytes) (xs, rest) e (λ x first later.
      let head = spells.takes bytes x.0 x.1 b first in
      option_map_some (λ ys. (x.0 ∷ ys.0, ys.1)) (times_at read count x.1) (xs, rest) later (λ ys second same.
      let next = times_takes count x.1 ys.0 ys.1 (bytes_behind (text x.0) x.1 bytes head.parts b) second in
      let whole : bytes ≡ (text x.0 ++ flat_map text ys.0) ++ ys.1 = head.parts ∙ ap (λ (zs : List ℕ). text x.0 ++ zs) next.parts ∙ sym (append_assoc (text x.0) (flat_map text ys.0) ys.1) in
      let Taken : List X × List ℕ → Type 0 = λ q. Takes (flat_map text) (λ zs. (length zs ≡ suc count) × AllByRecursion Fits zs) bytes q.0 q.1 in
      subst Taken same (record { parts = whole; fits = (ap suc next.fits.0, (head.fits, next.fits.1)) })))

  times_again : (xs : List X) (rest : List ℕ) → length (flat_map text xs ++ rest) < 2 ^ 64 → AllByRecursion Fits xs → times_at read (length xs) (flat_map text xs ++ rest) ≡ Some (xs, rest)
  times_again [] rest short fits = refl
  times_again (x ∷ xs) rest short fits =
      let nested = shorter (text x) (flat_map text xs) rest short in
      let first = spells.again x (flat_map text xs ++ rest) nested fits.0 in
      let second = times_again xs rest (shorter_behind (text x) (flat_map text xs ++ rest) nested) fits.1 in
      rw (append_assoc (text x) (flat_map text xs) rest, first, second) refl

  -- a list of texts of which none is empty
  pub list_spells : ((x : X) → 1 ≤ length (text x)) → Spells (λ xs. number (length xs) ++ flat_map text xs) (AllByRecursion Fits) (list_at read)
  list_spells each = record {
    takes = λ bytes xs rest b e.
        option_and_then_some (λ n. times_at read n.0 n.1) (number_at bytes) (xs, rest) e (λ n first second.
        let head = number_spells.takes bytes n.0 n.1 b first in
        let next = times_takes n.0 n.1 xs rest (bytes_behind (number n.0) n.1 bytes head.parts b) second in
        record {
          parts = head.parts ∙ (λ i. number (sym next.fits.0 i) ++ next.parts i) ∙ sym (append_assoc (number (length xs)) (flat_map text xs) rest);
          fits = next.fits.1;
        });
    again = λ xs rest short fits.
        let nested = shorter (number (length xs)) (flat_map text xs) rest short in
        let behind = shorter_behind (number (length xs)) (flat_map text xs ++ rest) nested in
        let many = length-texts text 1 each xs in
        let few : length xs < 2 ^ 64 = omega (arith, length-append (flat_map text xs) rest) in
        let first = number_spells.again (length xs) (flat_map text xs ++ rest) nested few in
        rw (append_assoc (number (length xs)) (flat_map text xs) rest, first) (times_again xs rest behind fits);
  }

-- ---- text

utf8_some : (bytes text : List ℕ) → utf8_of bytes ≡ Some text → (bytes ≡ text) × (is_utf8 text ≡ true)
utf8_some bytes text e =
    let is = cond_some (is_utf8 bytes) bytes text e in
    (is.1, ap is_utf8 (sym is.1) ∙ is.0)

pub text_spells : Spells field (λ text. is_utf8 text ≡ true) text_at
text_spells = parsed_spells field Anything field_at field_spells utf8_of (λ text. text) (λ text. is_utf8 text ≡ true) (λ x y fits e. utf8_some x y e) (λ y good. (ap (λ (b : Bool). cond b (Some y) None) good, tt))
