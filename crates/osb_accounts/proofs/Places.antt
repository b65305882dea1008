-- Places of lines.
use Rattle.std.proofs.Common.{◌≡◌, ℕ, suc, ◌+◌, ◌<◌, List, [], ◌∷◌, length, add-one, subst, Bool, true, false, cond, Option, Some, None, is_some, refl, sym, ◌∙◌, ap, arith, true≢false}
use Rattle.std.specs.Prelude.{IfSome}
use Rattle.std.specs.Option.{option_map}
use Rattle.std.specs.List.{position_from, slice_get}
use Rattle.std.proofs.lemmas.Option.{same_Some}
use Rattle.osb_accounts.specs.Lines.{FileLines, is_line_of, place_of, line_at}

pub position_from-place_of : (name : List ℕ) (lines : FileLines) (n : ℕ) → position_from (is_line_of name) n lines ≡ option_map (λ place. n + place) (place_of name lines)
position_from-place_of name [] n = refl
position_from-place_of name (line ∷ lines) n = by (is_line_of name line) (position_from-place_of name lines (n + 1))
  where
    next : (found : Option ℕ) → option_map (λ place. n + 1 + place) found ≡ option_map (λ place. n + place) (option_map (λ place. place + 1) found)
    next None = refl
    next (Some place) = ap Some (omega arith)

    first : n ≡ n + 0
    first = omega arith

    by : (here : Bool) → position_from (is_line_of name) (n + 1) lines ≡ option_map (λ place. n + 1 + place) (place_of name lines)
        → cond here (Some n) (position_from (is_line_of name) (n + 1) lines) ≡ option_map (λ place. n + place) (cond here (Some 0) (option_map (λ place. place + 1) (place_of name lines)))
    by true more = ap Some first
    by false more = more ∙ next (place_of name lines)

same_option : (found : Option ℕ) → option_map (λ place. 0 + place) found ≡ found
same_option None = refl
same_option (Some place) = ap Some (omega arith)

pub position-place_of : (name : List ℕ) (lines : FileLines) → position_from (is_line_of name) 0 lines ≡ place_of name lines
position-place_of name lines = position_from-place_of name lines 0 ∙ same_option (place_of name lines)

-- what is known of a place
pub record IsPlace (name : List ℕ) (lines : FileLines) (place : ℕ) : Type 0 where
  pub within : place < length lines
  pub there : slice_get lines place ≡ Some (line_at place lines)
  pub named : is_line_of name (line_at place lines) ≡ true

pub place_of-found : (name : List ℕ) (lines : FileLines) (place : ℕ) → place_of name lines ≡ Some place → IsPlace name lines place
place_of-found name [] place e = absurd (true≢false (ap is_some (sym e)))
place_of-found name (line ∷ lines) place e = by (place_of-found name lines) (is_line_of name line) refl e
  where
    Found : Type 0
    Found = (place : ℕ) → place_of name lines ≡ Some place → IsPlace name lines place

    next : Found → (found : Option ℕ) → place_of name lines ≡ found → option_map (λ place. place + 1) found ≡ Some place → IsPlace name (line ∷ lines) place
    next known None is e = absurd (true≢false (ap is_some (sym e)))
    next known (Some before) is e =
        let at_place = known before is in
        let same : suc before ≡ place = sym (add-one before) ∙ same_Some (before + 1) place e in
        subst (IsPlace name (line ∷ lines)) same (record { within = omega (arith, at_place.within); there = at_place.there; named = at_place.named })

    by : Found → (here : Bool) → is_line_of name line ≡ here → cond here (Some 0) (option_map (λ place. place + 1) (place_of name lines)) ≡ Some place → IsPlace name (line ∷ lines) place
    by known true is e = subst (IsPlace name (line ∷ lines)) (same_Some 0 place e) (record { within = omega arith; there = refl; named = is })
    by known false is e = next known (place_of name lines) refl e

pub place_of-within : (name : List ℕ) (lines : FileLines) → IfSome (place_of name lines) (λ place. place < length lines)
place_of-within name lines = by (place_of name lines) refl
  where
    by : (found : Option ℕ) → place_of name lines ≡ found → IfSome found (λ place. place < length lines)
    by None is = tt
    by (Some place) is = (place_of-found name lines place is).within
