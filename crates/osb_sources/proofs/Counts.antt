-- The count of a fetcher rises by as much as its calls fail.
use Rattle.std.proofs.Common.{◌≡◌, ℕ, ◌+◌, ◌-◌, ◌^◌, ◌≤◌, min, Bool, true, false, not, cond, List, [], ◌∷◌, map, Result, Ok, Err, inl, inr, refl, sym, subst, subst₂, arith}
use Rattle.std.specs.List.{All, filter}
use Rattle.std.proofs.lemmas.Bool.{cases_Bool}
use Rattle.std.proofs.lemmas.List.Elements.{All-head, All-tail}
use Rattle.osb_base.specs.Faults.{Rose}
use Rattle.osb_base.specs.Fetchers.{FetcherState}
use Rattle.osb_sources.specs.declared.items.Items.{Items}
use Rattle.osb_sources.specs.declared.answers.SourceAnswer.{SourceAnswer}
use Rattle.osb_sources.specs.Rounds.{Try, IsTry, is_live, stays, IsRound, Gathers, all_had, one_had, not_had, unfinished, live}
use Rattle.osb_sources.specs.Counts.{count_failed, failed_calls, sums, failures, AreRisen}
use Rattle.osb_sources.proofs.Searches.{live_first, gone_first}
use Rattle.osb_sources.proofs.Thinned.{befores_of, nows_of}
use Rattle.osb_sources.proofs.Causes.{lists_live, lists_gone}

risen_none : (fetchers : List FetcherState) → AreRisen fetchers fetchers (map (λ (fetcher : FetcherState). 0) fetchers)
risen_none [] = tt
risen_none (fetcher ∷ fetchers) = (omega arith, risen_none fetchers)

-- one stretch after another
risen_on : (befores betweens nows : List FetcherState) (ms ns : List ℕ) → AreRisen befores betweens ms → AreRisen betweens nows ns → AreRisen befores nows (sums ms ns)
risen_on [] [] [] [] [] h k = tt
risen_on [] [] [] [] (n ∷ ns) h k = absurd k
risen_on [] [] (now ∷ nows) [] ns h k = absurd k
risen_on [] [] nows (m ∷ ms) ns h k = absurd h
risen_on [] (between ∷ betweens) nows ms ns h k = absurd h
risen_on (before ∷ befores) [] nows ms ns h k = absurd h
risen_on (before ∷ befores) (between ∷ betweens) nows [] ns h k = absurd h
risen_on (before ∷ befores) (between ∷ betweens) [] (m ∷ ms) ns h k = absurd k
risen_on (before ∷ befores) (between ∷ betweens) (now ∷ nows) (m ∷ ms) [] h k = absurd k
risen_on (before ∷ befores) (between ∷ betweens) (now ∷ nows) (m ∷ ms) (n ∷ ns) h k = (omega (arith, h.0, k.0), risen_on befores betweens nows ms ns h.1 k.1)

-- ---- one item

risen_by : (call : Bool) (before now : ℕ) → before ≤ now → (call ≡ true → Rose before now) → min (before + cond call 1 0) (2 ^ 64 - 1) ≤ now
risen_by true before now h r = r refl
risen_by false before now h r = omega arith

module _ (digest : List ℕ) (try : Try) (tries left : List Try) (is : IsTry digest try) (rest : AreRisen (live (befores_of tries)) (live (nows_of left)) (failed_calls tries)) where
  abbrev Goal : Type 0
  Goal = AreRisen (live (try.before ∷ befores_of tries)) (live (nows_of (cond (not try.is_out) (try ∷ left) left))) (failed_calls (try ∷ tries))

  risen_gone : try.before.is_gone ≡ true → Goal
  risen_gone gone =
      let both = lists_gone digest try tries left is gone in
      subst (λ ns. AreRisen (live (try.before ∷ befores_of tries)) (live (nows_of (cond (not try.is_out) (try ∷ left) left))) (map count_failed ns))
      (sym (gone_first try.before.is_gone (try ∷ filter (λ t. is_live t.before) tries) (filter (λ t. is_live t.before) tries) gone))
      (subst₂ (λ a b. AreRisen a b (failed_calls tries)) (sym both.0) (sym both.1) rest)

  risen_live : try.before.is_gone ≡ false → Goal
  risen_live lives =
      let both = lists_live digest try tries left is lives in
      subst (λ ns. AreRisen (live (try.before ∷ befores_of tries)) (live (nows_of (cond (not try.is_out) (try ∷ left) left))) (map count_failed ns))
      (sym (live_first try.before.is_gone (try ∷ filter (λ t. is_live t.before) tries) (filter (λ t. is_live t.before) tries) lives))
      (subst₂ (λ a b. AreRisen a b (count_failed try ∷ failed_calls tries)) (sym both.0) (sym both.1)
      (risen_by try.is_failed try.before.faults try.now.faults is.later is.failed, rest))

  risen_more : Goal
  risen_more = elim (cases_Bool try.before.is_gone) [ inl gone ↦ risen_gone gone | inr lives ↦ risen_live lives ]

risen_tries : (digest : List ℕ) (tries : List Try) → All (IsTry digest) tries → AreRisen (live (befores_of tries)) (live (nows_of (filter stays tries))) (failed_calls tries)
risen_tries digest [] all = tt
risen_tries digest (try ∷ tries) all =
    risen_more digest try tries (filter stays tries) (All-head (IsTry digest) try tries all) (risen_tries digest tries (All-tail (IsTry digest) try tries all))

risen_round : (items : Items) (digest : List ℕ) (before now : List FetcherState) (result : Result (List ℕ) SourceAnswer) (round : IsRound items digest before now result) → AreRisen (live before) (live now) (failed_calls round.tries)
risen_round items digest before now result round =
    subst₂ (λ a b. AreRisen (live a) (live b) (failed_calls round.tries)) round.before_is round.now_is (risen_tries digest round.tries round.each)

-- ---- all items

pub risen_gathers : {items : Items} {digests : List (List ℕ)} {before now : List FetcherState} {result : Result (List (List ℕ)) SourceAnswer} (g : Gathers items digests before now result) → AreRisen (live before) (live now) (failures g)
risen_gathers (all_had fetchers) = risen_none (live fetchers)
risen_gathers {items = items} (one_had digest digests before between now bytes others round rest) =
    risen_on (live before) (live between) (live now) _ _ (risen_round items digest before between (Ok bytes) round) (risen_gathers rest)
risen_gathers {items = items} (not_had digest digests before now answer round) = risen_round items digest before now (Err answer) round
risen_gathers (unfinished digests fetchers) = risen_none (live fetchers)
