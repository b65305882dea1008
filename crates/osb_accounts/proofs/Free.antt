-- The least free number, by what is seen of some in a row.
use Rattle.std.proofs.Common.{◌≡◌, ℕ, suc, ◌+◌, ◌<◌, List, [], ◌∷◌, length, get_or, Bool, true, false, not, cond, Option, Some, None, refl, sym, ◌∙◌, ap, arith}
use Rattle.std.specs.Option.{option_map}
use Rattle.std.specs.List.{position_from}
use Rattle.osb_accounts.specs.Lines.{FileLines, is_taken, first_free, least_free}

position_from-later : (test : Bool → Bool) (n : ℕ) (seen : List Bool) → position_from test n seen ≡ option_map (λ place. n + place) (position_from test 0 seen)
position_from-later test n [] = refl
position_from-later test n (b ∷ seen) = by (test b) (position_from-later test (n + 1) seen) (position_from-later test 1 seen)
  where
    first : n ≡ n + 0
    first = omega arith

    next : (found : Option ℕ) → option_map (λ place. n + 1 + place) found ≡ option_map (λ place. n + place) (option_map (λ place. 1 + place) found)
    next None = refl
    next (Some place) = ap Some (omega arith)

    by : (here : Bool) → position_from test (n + 1) seen ≡ option_map (λ place. n + 1 + place) (position_from test 0 seen) → position_from test 1 seen ≡ option_map (λ place. 1 + place) (position_from test 0 seen)
        → cond here (Some n) (position_from test (n + 1) seen) ≡ option_map (λ place. n + place) (cond here (Some 0) (position_from test 1 seen))
    by true one two = ap Some first
    by false one two = one ∙ (next (position_from test 0 seen) ∙ sym (ap (option_map (λ place. n + place)) two))

-- the first number that is not seen
pub first_free-seen : (taken : ℕ → Bool) (first : ℕ) (seen : List Bool) → ((place : ℕ) → place < length seen → get_or seen place false ≡ taken (first + place))
    → first_free taken first (length seen) ≡ option_map (λ place. first + place) (position_from not 0 seen)
first_free-seen taken first [] h = refl
first_free-seen taken first (b ∷ seen) h =
    let here : b ≡ taken first = h 0 (omega arith) ∙ ap taken (omega arith) in
    let later = first_free-seen taken (first + 1) seen (λ place within. h (suc place) (omega (arith, within)) ∙ ap taken (omega arith)) in
    rw (← here) (by b later (position_from-later not 1 seen))
  where
    next : (found : Option ℕ) → option_map (λ place. first + 1 + place) found ≡ option_map (λ place. first + place) (option_map (λ place. 1 + place) found)
    next None = refl
    next (Some place) = ap Some (omega arith)

    by : (here : Bool) → first_free taken (first + 1) (length seen) ≡ option_map (λ place. first + 1 + place) (position_from not 0 seen) → position_from not 1 seen ≡ option_map (λ place. 1 + place) (position_from not 0 seen)
        → cond here (first_free taken (first + 1) (length seen)) (Some first) ≡ option_map (λ place. first + place) (cond (not here) (Some 0) (position_from not 1 seen))
    by true one two = one ∙ (next (position_from not 0 seen) ∙ sym (ap (option_map (λ place. first + place)) two))
    by false one two = ap Some (omega arith)

-- where some are seen, the least free number is the first that is not
pub least_free-seen : (lines : FileLines) (seen : List Bool) → length seen ≡ 59001 → ((place : ℕ) → place < 59001 → get_or seen place false ≡ is_taken (1000 + place) lines)
    → least_free lines ≡ option_map (λ place. 1000 + place) (position_from not 0 seen)
unfolding least_free
least_free-seen lines seen count h =
    ap (first_free (λ number. is_taken number lines) 1000) (sym count) ∙ first_free-seen (λ number. is_taken number lines) 1000 seen (λ place within. h place (omega (arith, within, count)))
