-- Lines that are kept, step by step.
use Rattle.std.proofs.Common.{◌≡◌, inl, inr, ℕ, zero, suc, List, [], ◌∷◌, ◌++◌, Bool, true, false, true≢false, Some, refl, sym, ◌∙◌, ap, subst}
use Rattle.std.specs.List.{slice_get, slice_set}
use Rattle.std.proofs.lemmas.Bool.{cases_eq}
use Rattle.std.proofs.lemmas.Option.{none-some}
use Rattle.osb_accounts.specs.Lines.{Fields, FileLines, field, line_at, with_field}
use Rattle.osb_accounts.specs.Kept.{AreKept}

abbrev pub Test : Type 0
Test = Fields → Bool

pub kept-itself : (test : Test) (lines : FileLines) → AreKept test lines lines
kept-itself test lines = record { named = λ place line is. (line, is, refl); same = λ place line is no. is }

pub kept-trans : (test : Test) (one two three : FileLines) → AreKept test one two → AreKept test two three → AreKept test one three
kept-trans test one two three first second = record {
  named = λ place line is.
      let now = first.named place line is in
      let then_ = second.named place now.0 now.1 in
      (then_.0, then_.1, then_.2 ∙ now.2);
  same = λ place line is no. second.same place line (first.same place line is no) no;
}

-- fewer lines may change than were said to
pub kept-more : (test more : Test) (one two : FileLines) → ((line : Fields) → more line ≡ false → test line ≡ false) → AreKept test one two → AreKept more one two
kept-more test more one two h kept = record { named = kept.named; same = λ place line is no. kept.same place line is (h line no) }

slice_get-front : (lines more : FileLines) (place : ℕ) (line : Fields) → slice_get lines place ≡ Some line → slice_get (lines ++ more) place ≡ Some line
slice_get-front [] more place line is = absurd (none-some line is)
slice_get-front (first ∷ lines) more zero line is = is
slice_get-front (first ∷ lines) more (suc place) line is = slice_get-front lines more place line is

-- lines come behind
pub kept-behind : (test : Test) (lines more : FileLines) → AreKept test lines (lines ++ more)
kept-behind test lines more = record {
  named = λ place line is. (line, slice_get-front lines more place line is, refl);
  same = λ place line is no. slice_get-front lines more place line is;
}

-- ---- one field changes

pub slice_get-set_same : {X : Type 0} (xs : List X) (place : ℕ) (x y : X) → slice_get xs place ≡ Some y → slice_get (slice_set xs place x) place ≡ Some x
slice_get-set_same [] place x y is = absurd (none-some y is)
slice_get-set_same (first ∷ xs) zero x y is = refl
slice_get-set_same (first ∷ xs) (suc place) x y is = slice_get-set_same xs place x y is

slice_get-set_other : {X : Type 0} (xs : List X) (place other : ℕ) (x : X) → (place ≡ other → ⊥) → slice_get (slice_set xs place x) other ≡ slice_get xs other
slice_get-set_other [] place other x apart = refl
slice_get-set_other (first ∷ xs) zero zero x apart = absurd (apart refl)
slice_get-set_other (first ∷ xs) zero (suc other) x apart = refl
slice_get-set_other (first ∷ xs) (suc place) zero x apart = refl
slice_get-set_other (first ∷ xs) (suc place) (suc other) x apart = slice_get-set_other xs place other x (λ e. apart (ap suc e))

field-set_later : (line : Fields) (number : ℕ) (text : List ℕ) → field 0 (slice_set line (suc number) text) ≡ field 0 line
field-set_later [] number text = refl
field-set_later (first ∷ line) number text = refl

-- of a line that may change, and none that has the name
pub kept-with_field : (test : Test) (lines : FileLines) (place number : ℕ) (text : List ℕ) → test (line_at place lines) ≡ true → AreKept test lines (with_field place (suc number) text lines)
kept-with_field test lines place number text may = record {
  named = λ other line is. elim (cases_eq place other) [
    | inl e ↦
        let here : slice_get lines place ≡ Some line = rw e is in
        let at_place : line_at place lines ≡ line = rw here refl in
        let changed = slice_set (line_at place lines) (suc number) text in
        (changed, subst (λ p. slice_get (slice_set lines place changed) p ≡ Some changed) e (slice_get-set_same lines place changed line here), field-set_later (line_at place lines) number text ∙ ap (field 0) at_place)
    | inr apart ↦ (line, slice_get-set_other lines place other _ apart ∙ is, refl)
  ];
  same = λ other line is no. elim (cases_eq place other) [
    | inl e ↦
        let here : slice_get lines place ≡ Some line = rw e is in
        let at_place : line_at place lines ≡ line = rw here refl in
        absurd (true≢false (sym may ∙ (ap test at_place ∙ no)))
    | inr apart ↦ slice_get-set_other lines place other _ apart ∙ is
  ];
}
