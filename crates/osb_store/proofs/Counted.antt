-- A count, and as many items.
use Rattle.std.proofs.Common.{◌≡◌, ℕ, suc, ◌+◌, ◌*◌, ◌/◌, ◌^◌, ◌<◌, ◌≤◌, Bool, false, List, [], ◌++◌, length, Option, Some, None, Ok, Err, cond, nat_lt, inl, inr, refl, sym, ap, ◌∙◌, subst, arith}
use Rattle.std.specs.List.{flat_map}
use Rattle.std.proofs.lemmas.Option.{option_and_then_some, none-some}
use Rattle.osb_store.specs.Bytes.{IsBytes}
use Rattle.osb_store.specs.Fields.{number}
use Rattle.osb_store.specs.Reading.{At, number_at}
use Rattle.osb_store.specs.Refusals.{IsCounted, IsFront, IsList, StopsAt}
use Rattle.osb_store.specs.Lists.{count_at, then_from, items_at, list_from}
use Rattle.osb_store.proofs.Spelling.{number_spells, bytes_behind, shorter_behind, if_some, not_short, long_enough}
use Rattle.osb_store.proofs.Items.{Fitting, items_take, items_again, items_stop, stop_again}

-- ---- the count

count_take : (bytes : List ℕ) (n : ℕ × List ℕ) → IsBytes bytes → count_at bytes ≡ Some n → IsCounted bytes n.0 n.1
unfolding count_at
count_take bytes n b e =
    option_and_then_some (λ m. cond (nat_lt (length m.1 / 8) m.0) None (Some m)) (number_at bytes) n e (λ m first second.
    let is = if_some (nat_lt (length m.1 / 8) m.0) m n second in
    let head = number_spells.takes bytes m.0 m.1 b first in
    let room : 8 * m.0 ≤ length m.1 = omega (arith, not_short _ _ is.0) in
    let Counted : ℕ × List ℕ → Type 0 = λ q. IsCounted bytes q.0 q.1 in
    subst Counted is.1 (record { parts = head.parts; room = room }))

count_again : (bytes : List ℕ) (n : ℕ) (rest : List ℕ) → length bytes < 2 ^ 64 → IsCounted bytes n rest → count_at bytes ≡ Some (n, rest)
unfolding count_at
count_again bytes n rest short is =
    let short' : length (number n ++ rest) < 2 ^ 64 = subst (λ (xs : List ℕ). length xs < 2 ^ 64) is.parts short in
    let behind = shorter_behind (number n) rest short' in
    let room = is.room in
    let few : n < 2 ^ 64 = omega arith in
    let enough : nat_lt (length rest / 8) n ≡ false = long_enough _ _ (omega arith) in
    rw (is.parts, number_spells.again n rest short' few, enough) refl

-- ---- a list

module _ {X : Type 0} (text : X → List ℕ) (May : List X → X → Type 0) (read : At X) (test : List X → X → Bool) (fitting : Fitting text May read test) where
  pub list_take : (place : ℕ) (bytes : List ℕ) (items : List X × List ℕ) → IsBytes bytes → list_from read test place bytes ≡ Ok items → IsList text May bytes items.0 items.1
  list_take place bytes items b e = stepped (count_at bytes) refl e
    where
      stepped : (piece : Option (ℕ × List ℕ)) → count_at bytes ≡ piece → then_from place piece (λ n. items_at read test n.0 (suc place) [] n.1) ≡ Ok items → IsList text May bytes items.0 items.1
      stepped None is later = absurd (cc)
      stepped (Some n) is later =
          let counted = count_take bytes n b is in
          let taken = items_take text May read test fitting n.0 (suc place) [] n.1 items (bytes_behind (number n.0) n.1 bytes counted.parts b) later in
          let same : taken.0 ≡ items.0 = sym taken.1.0 in
          record {
            behind = n.1;
            counted = subst (λ (k : ℕ). IsCounted bytes k n.1) (sym taken.1.1.0 ∙ ap length same) counted;
            front = subst (λ (xs : List X). IsFront text May n.1 xs items.1) same (record { parts = taken.1.1.1.parts; each = taken.1.1.1.each });
          }

  pub list_again : (place : ℕ) (bytes : List ℕ) (items : List X) (rest : List ℕ) → length bytes < 2 ^ 64 → IsList text May bytes items rest → list_from read test place bytes ≡ Ok (items, rest)
  list_again place bytes items rest short is =
      let behind : length is.behind < 2 ^ 64 = shorter_behind (number (length items)) is.behind (subst (λ (xs : List ℕ). length xs < 2 ^ 64) is.counted.parts short) in
      let room : length {A = X} [] + length (flat_map text items ++ rest) < 2 ^ 64 = subst (λ (xs : List ℕ). 0 + length xs < 2 ^ 64) is.front.parts (omega arith) in
      ap (λ piece. then_from place piece (λ n. items_at read test n.0 (suc place) [] n.1)) (count_again bytes (length items) is.behind short is.counted)
      ∙ ap (λ (xs : List ℕ). items_at read test (length items) (suc place) [] xs) is.front.parts
      ∙ items_again text May read test fitting items (suc place) [] rest tt is.front.each room

  pub list_stop : (place at : ℕ) (bytes : List ℕ) → IsBytes bytes → length bytes < 2 ^ 64 → list_from read test place bytes ≡ Err at → (more : ℕ) × ((at ≡ place + more) × StopsAt text May bytes more)
  list_stop place at bytes b short e = stepped (count_at bytes) refl e
    where
      stepped : (piece : Option (ℕ × List ℕ)) → count_at bytes ≡ piece → then_from place piece (λ n. items_at read test n.0 (suc place) [] n.1) ≡ Err at → (more : ℕ) × ((at ≡ place + more) × StopsAt text May bytes more)
      stepped None is later =
          let here : place ≡ at = cc in
          (0, (omega arith, inl (refl, λ count rest counted. none-some (count, rest) (sym is ∙ count_again bytes count rest short counted))))
      stepped (Some n) is later =
          let counted = count_take bytes n b is in
          let behind : length n.1 < 2 ^ 64 = shorter_behind (number n.0) n.1 (subst (λ (xs : List ℕ). length xs < 2 ^ 64) counted.parts short) in
          let room : length {A = X} [] + length n.1 < 2 ^ 64 = omega arith in
          let stops = items_stop text May read test fitting n.0 (suc place) at [] n.1 (bytes_behind (number n.0) n.1 bytes counted.parts b) tt room later in
          let front : IsFront text May n.1 stops.0 stops.1.0 = record { parts = stops.1.1.1.1.0.parts; each = stops.1.1.1.1.0.each } in
          (suc (length stops.0), (stops.1.1.0 ∙ omega arith, inr (n.0, n.1, stops.0, stops.1.0, refl, stops.1.1.1.0, counted, front, stops.1.1.1.1.1)))

  pub list_stop_again : (place more : ℕ) (bytes : List ℕ) → IsBytes bytes → length bytes < 2 ^ 64 → StopsAt text May bytes more → list_from read test place bytes ≡ Err (place + more)
  list_stop_again place more bytes b short (inl (here, none)) = stepped (count_at bytes) refl
    where
      stepped : (piece : Option (ℕ × List ℕ)) → count_at bytes ≡ piece → then_from place piece (λ n. items_at read test n.0 (suc place) [] n.1) ≡ Err (place + more)
      stepped None is = ap Err (omega arith)
      stepped (Some n) is = absurd (none n.0 n.1 (count_take bytes n b is))
  list_stop_again place more bytes b short (inr (count, behind, items, rest, here, few, counted, front, none)) =
      let nested : length behind < 2 ^ 64 = shorter_behind (number count) behind (subst (λ (xs : List ℕ). length xs < 2 ^ 64) counted.parts short) in
      let room : length {A = X} [] + length behind < 2 ^ 64 = omega arith in
      let b' : IsBytes rest = bytes_behind (flat_map text items) rest behind front.parts (bytes_behind (number count) behind bytes counted.parts b) in
      let at : suc place + length items ≡ place + more = omega arith in
      ap (λ piece. then_from place piece (λ n. items_at read test n.0 (suc place) [] n.1)) (count_again bytes count behind short counted)
      ∙ stop_again text May read test fitting items count (suc place) [] behind rest b' tt front.each front.parts room few none ∙ ap Err at
