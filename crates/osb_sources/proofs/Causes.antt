-- A fault is answered only where the count of a fetcher rose that isn't gone.
use Rattle.std.proofs.Common.{◌≡◌, ℕ, zero, suc, ◌≤◌, Bool, true, false, not, cond, ◌||◌, List, [], ◌∷◌, map, slice_get, Option, Some, None, Result, Ok, Err, ok_or, inl, inr, refl, sym, ap, ◌∙◌, subst, subst₂, arith}
use Rattle.std.specs.List.{All, filter, list_any}
use Rattle.std.proofs.lemmas.Bool.{cases_Bool, or_cases}
use Rattle.std.proofs.lemmas.List.Elements.{All-head, All-tail}
use Rattle.base64.specs.declared.decode.DecodeError.{DecodeError}
use Rattle.osb_base.specs.Faults.{Rose}
use Rattle.osb_base.specs.Fetchers.{FetcherState}
use Rattle.osb_sources.specs.declared.items.Items.{Items}
use Rattle.osb_sources.specs.declared.answers.SourceAnswer.{SourceAnswer}
use Rattle.osb_sources.specs.declared.answers.SourceAnswer.TheVariants.{Missing, Wrong, Fault, ItemTooLarge, NoMemory}
use Rattle.osb_sources.specs.Verdicts.{Verdict, failed, wrong, first_right, is_failed, is_too_large, is_wrong, lack_of, answer_of, own_bytes, with_verdict, with_own, is_listed}
use Rattle.osb_sources.specs.Rounds.{Try, IsTry, verdict, held_verdict, is_live, verdicts, stays, IsRound, Gathers, all_had, one_had, not_had, unfinished, with_first, Stays, IsThinned, no_fetcher, one_stays, one_leaves, live, SomeRose}
use Rattle.osb_sources.proofs.Searches.{live_first, gone_first}
use Rattle.osb_sources.proofs.Rounds.{by_tests, long_test, same_test}
use Rattle.osb_sources.proofs.Thinned.{befores_of, nows_of, thinned_round}

-- ---- one of two lists' counts rose

record IsRisen (before now : List FetcherState) : Type 0 where
  place : ℕ
  was : FetcherState
  is : FetcherState
  was_at : slice_get before place ≡ Some was
  is_at : slice_get now place ≡ Some is
  rose : Rose was.faults is.faults

risen_first : (was is : FetcherState) (before now : List FetcherState) → Rose was.faults is.faults → IsRisen (was ∷ before) (is ∷ now)
risen_first was is before now rose = record { place = 0; was = was; is = is; was_at = refl; is_at = refl; rose = rose }

risen_later : (was is : FetcherState) (before now : List FetcherState) → IsRisen before now → IsRisen (was ∷ before) (is ∷ now)
risen_later was is before now r = record { place = suc r.place; was = r.was; is = r.is; was_at = r.was_at; is_at = r.is_at; rose = r.rose }

-- ---- a round

not_failed : (long same : Bool) (bytes : List ℕ) → is_failed (by_tests long same bytes) ≡ false
not_failed true same bytes = refl
not_failed false true bytes = refl
not_failed false false bytes = refl

held-not_failed : (digest : List ℕ) (has : Option (List ℕ)) → is_failed (held_verdict digest has) ≡ false
held-not_failed digest None = refl
held-not_failed digest (Some bytes) = not_failed (long_test bytes) (same_test digest bytes) bytes

failed_call : (call : Bool) (v : Verdict) → is_failed v ≡ false → is_failed (cond call failed v) ≡ true → call ≡ true
failed_call true v n h = refl
failed_call false v n h = cc

-- the fetchers that aren't gone, before and after the call of one more
module _ (digest : List ℕ) (try : Try) (tries left : List Try) (is : IsTry digest try) where
  now_gone : try.before.is_gone ≡ true → (out : Bool) → live (nows_of (cond (not out) (try ∷ left) left)) ≡ live (nows_of left)
  now_gone gone true = refl
  now_gone gone false = gone_first try.now.is_gone (try.now ∷ live (nows_of left)) (live (nows_of left)) (is.gone_stays ∙ gone)

  -- it is gone
  pub lists_gone : try.before.is_gone ≡ true → (live (try.before ∷ befores_of tries) ≡ live (befores_of tries)) × (live (nows_of (cond (not try.is_out) (try ∷ left) left)) ≡ live (nows_of left))
  lists_gone gone = (gone_first try.before.is_gone (try.before ∷ live (befores_of tries)) (live (befores_of tries)) gone, now_gone gone try.is_out)

  stays_in : try.before.is_gone ≡ false → try.is_out ≡ false
  stays_in lives = elim (cases_Bool try.is_out) [
    | inl out ↦ absurd (let gone : try.before.is_gone ≡ true = is.out out in let e : true ≡ false = sym gone ∙ lives in cc)
    | inr in_list ↦ in_list
  ]

  -- it isn't
  pub lists_live : try.before.is_gone ≡ false → (live (try.before ∷ befores_of tries) ≡ try.before ∷ live (befores_of tries)) × (live (nows_of (cond (not try.is_out) (try ∷ left) left)) ≡ try.now ∷ live (nows_of left))
  lists_live lives = (
    live_first try.before.is_gone (try.before ∷ live (befores_of tries)) (live (befores_of tries)) lives,
    ap (λ l. live (nows_of l)) (live_first try.is_out (try ∷ left) left (stays_in lives))
        ∙ live_first try.now.is_gone (try.now ∷ live (nows_of left)) (live (nows_of left)) (is.gone_stays ∙ lives),
  )

module _ (digest : List ℕ) (try : Try) (tries left : List Try) (is : IsTry digest try) (fails : list_any is_failed (verdicts digest tries) ≡ true → IsRisen (live (befores_of tries)) (live (nows_of left))) where
  abbrev Goal : Type 0
  Goal = IsRisen (live (try.before ∷ befores_of tries)) (live (nows_of (cond (not try.is_out) (try ∷ left) left)))

  risen_gone : try.before.is_gone ≡ true → list_any is_failed (verdicts digest (try ∷ tries)) ≡ true → Goal
  risen_gone gone h =
      let rest = fails (sym (ap (λ l. list_any is_failed (map (verdict digest) l)) (gone_first try.before.is_gone (try ∷ filter (λ t. is_live t.before) tries) (filter (λ t. is_live t.before) tries) gone)) ∙ h) in
      let both = lists_gone digest try tries left is gone in
      subst₂ IsRisen (sym both.0) (sym both.1) rest

  risen_either : (is_failed (verdict digest try) || list_any is_failed (verdicts digest tries)) ≡ true → IsRisen (try.before ∷ live (befores_of tries)) (try.now ∷ live (nows_of left))
  risen_either h = elim (or_cases (is_failed (verdict digest try)) (list_any is_failed (verdicts digest tries)) h) [
    | inl here ↦ risen_first try.before try.now (live (befores_of tries)) (live (nows_of left)) (is.failed (failed_call try.is_failed (held_verdict digest try.has) (held-not_failed digest try.has) here))
    | inr later ↦ risen_later try.before try.now (live (befores_of tries)) (live (nows_of left)) (fails later)
  ]

  risen_live : try.before.is_gone ≡ false → list_any is_failed (verdicts digest (try ∷ tries)) ≡ true → Goal
  risen_live lives h =
      let both = lists_live digest try tries left is lives in
      subst₂ IsRisen (sym both.0) (sym both.1)
      (risen_either (sym (ap (λ l. list_any is_failed (map (verdict digest) l)) (live_first try.before.is_gone (try ∷ filter (λ t. is_live t.before) tries) (filter (λ t. is_live t.before) tries) lives)) ∙ h))

  risen_more : list_any is_failed (verdicts digest (try ∷ tries)) ≡ true → Goal
  risen_more h = elim (cases_Bool try.before.is_gone) [ inl gone ↦ risen_gone gone h | inr lives ↦ risen_live lives h ]

risen_tries : (digest : List ℕ) (tries : List Try) → All (IsTry digest) tries → list_any is_failed (verdicts digest tries) ≡ true → IsRisen (live (befores_of tries)) (live (nows_of (filter stays tries)))
risen_tries digest [] all h = cc
risen_tries digest (try ∷ tries) all h =
    risen_more digest try tries (filter stays tries) (All-head (IsTry digest) try tries all) (risen_tries digest tries (All-tail (IsTry digest) try tries all)) h

-- ---- why a fault is answered

fault_lack : (a b d : Bool) (digest other : List ℕ) → cond a (Fault digest) (cond b (ItemTooLarge digest) (cond d (Wrong digest) (Missing digest))) ≡ Fault other → a ≡ true
fault_lack true b d digest other h = refl
fault_lack false true d digest other h = cc
fault_lack false false true digest other h = cc
fault_lack false false false digest other h = cc

fault_of : (found : Option (List ℕ)) (lack : SourceAnswer) (other : List ℕ) → Err (Fault other) ≡ ok_or found lack → lack ≡ Fault other
fault_of None lack other h = cc
fault_of (Some bytes) lack other h = cc

fault_answer : (digest other : List ℕ) (vs : List Verdict) → Err (Fault other) ≡ answer_of digest vs → list_any is_failed vs ≡ true
fault_answer digest other vs h =
    fault_lack (list_any is_failed vs) (list_any is_too_large vs) (list_any is_wrong vs) digest other (fault_of (first_right vs) (lack_of digest vs) other h)

fault_verdict : (digest other bytes : List ℕ) (long same : Bool) (vs : List Verdict) → Err (Fault other) ≡ with_verdict digest (by_tests long same bytes) vs → list_any is_failed vs ≡ true
fault_verdict digest other bytes true same vs h = cc
fault_verdict digest other bytes false true vs h = cc
fault_verdict digest other bytes false false vs h = fault_answer digest other (wrong ∷ vs) h

fault_own : (digest other : List ℕ) (own : Option (Result (List ℕ) DecodeError)) (vs : List Verdict) → Err (Fault other) ≡ with_own digest own vs → list_any is_failed vs ≡ true
fault_own digest other None vs h = fault_answer digest other vs h
fault_own digest other (Some (Err error)) vs h = cc
fault_own digest other (Some (Ok bytes)) vs h = fault_verdict digest other bytes (long_test bytes) (same_test digest bytes) vs h

some_listed : (listed : Bool) (vs : List Verdict) → list_any is_failed (cond listed vs []) ≡ true → list_any is_failed vs ≡ true
some_listed true vs h = h
some_listed false vs h = cc

rose_round : (items : Items) (digest other : List ℕ) (before now : List FetcherState) (result : Result (List ℕ) SourceAnswer) → IsRound items digest before now result → result ≡ Err (Fault other) → IsRisen (live before) (live now)
rose_round items digest other before now result round e =
    let answer = round.answer (λ h. let same : Err (Fault other) ≡ Err NoMemory = sym e ∙ h in cc) in
    let vs = verdicts digest round.tries in
    let some = some_listed (is_listed items digest) vs (fault_own digest other (own_bytes items digest) (cond (is_listed items digest) vs []) (sym e ∙ answer)) in
    subst₂ (λ a b. IsRisen (live a) (live b)) round.before_is round.now_is (risen_tries digest round.tries round.each some)

-- ---- a count that rose later

record IsEarlier (before : List FetcherState) (place : ℕ) (is : FetcherState) : Type 0 where
  was : FetcherState
  was_at : slice_get before place ≡ Some was
  earlier : was.faults ≤ is.faults

earlier_first : (was is found : FetcherState) (befores : List FetcherState) → was.faults ≤ is.faults → Some is ≡ Some found → IsEarlier (was ∷ befores) 0 found
earlier_first was is found befores h e =
    let same : is ≡ found = cc in
    record { was = was; was_at = refl; earlier = subst (λ f. was.faults ≤ f.faults) same h }

earlier_at : (was is found : FetcherState) (befores nows : List FetcherState) (place : ℕ) → was.faults ≤ is.faults → ((place : ℕ) → slice_get nows place ≡ Some found → IsEarlier befores place found) → slice_get (is ∷ nows) place ≡ Some found → IsEarlier (was ∷ befores) place found
earlier_at was is found befores nows zero h rest e = earlier_first was is found befores h e
earlier_at was is found befores nows (suc place) h rest e =
    let r = rest place e in
    record { was = r.was; was_at = r.was_at; earlier = r.earlier }

earlier_live : (was is found : FetcherState) (befores nows : List FetcherState) (place : ℕ) → Stays was is → ((place : ℕ) → slice_get (live nows) place ≡ Some found → IsEarlier (live befores) place found) → slice_get (live (is ∷ nows)) place ≡ Some found → IsEarlier (live (was ∷ befores)) place found
earlier_live was is found befores nows place s rest e = elim (cases_Bool was.is_gone) [
  | inl gone ↦
      let none = gone_first is.is_gone (is ∷ live nows) (live nows) (s.gone_stays ∙ gone) in
      subst (λ l. IsEarlier l place found) (sym (gone_first was.is_gone (was ∷ live befores) (live befores) gone)) (rest place (sym (ap (λ l. slice_get l place) none) ∙ e))
  | inr lives ↦
      let some = live_first is.is_gone (is ∷ live nows) (live nows) (s.gone_stays ∙ lives) in
      subst (λ l. IsEarlier l place found) (sym (live_first was.is_gone (was ∷ live befores) (live befores) lives)) (earlier_at was is found (live befores) (live nows) place s.later rest (sym (ap (λ l. slice_get l place) some) ∙ e))
]

earlier : {before now : List FetcherState} → IsThinned before now → (found : FetcherState) (place : ℕ) → slice_get (live now) place ≡ Some found → IsEarlier (live before) place found
earlier no_fetcher found place e = cc
earlier (one_stays before now befores nows s t) found place e = earlier_live before now found befores nows place s (earlier t found) e
earlier (one_leaves before befores nows gone t) found place e =
    subst (λ l. IsEarlier l place found) (sym (gone_first before.is_gone (before ∷ live befores) (live befores) gone)) (earlier t found place e)

risen_before : {before between : List FetcherState} {now : List FetcherState} → IsThinned before between → IsRisen (live between) now → IsRisen (live before) now
risen_before t r =
    let first = earlier t r.was r.place r.was_at in
    record { place = r.place; was = first.was; is = r.is; was_at = first.was_at; is_at = r.is_at; rose = omega (arith, first.earlier, r.rose) }

-- ---- all items

rest_err : (bytes : List ℕ) (others : Result (List (List ℕ)) SourceAnswer) (answer : SourceAnswer) → with_first bytes others ≡ Err answer → others ≡ Err answer
rest_err bytes (Ok all) answer h = cc
rest_err bytes (Err other) answer h = h

risen_gathers : {items : Items} {digests : List (List ℕ)} {before now : List FetcherState} {result : Result (List (List ℕ)) SourceAnswer} → Gathers items digests before now result → (digest : List ℕ) → result ≡ Err (Fault digest) → IsRisen (live before) (live now)
risen_gathers (all_had fetchers) other e = cc
risen_gathers {items = items} (one_had digest digests before between now bytes others round rest) other e =
    risen_before (thinned_round items digest before between _ round) (risen_gathers rest other (rest_err bytes others (Fault other) e))
risen_gathers {items = items} (not_had digest digests before now answer round) other e =
    let same : answer ≡ Fault other = cc in
    rose_round items digest other before now (Err answer) round (ap Err same)
risen_gathers (unfinished digests fetchers) other e = let same : NoMemory ≡ Fault other = cc in cc

pub rose_gathers : {items : Items} {digests : List (List ℕ)} {before now : List FetcherState} {result : Result (List (List ℕ)) SourceAnswer} → Gathers items digests before now result → (digest : List ℕ) → result ≡ Err (Fault digest) → SomeRose before now
rose_gathers g digest e =
    let r = risen_gathers g digest e in
    record { place = r.place; was = r.was; is = r.is; was_at = r.was_at; is_at = r.is_at; rose = r.rose }
