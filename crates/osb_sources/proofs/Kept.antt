-- What is had of an item has its digest.
use Rattle.std.proofs.Common.{◌≡◌, ℕ, Bool, true, false, cond, List, [], ◌∷◌, map, length, ◌⊎◌, Option, Some, None, Result, Ok, Err, IfOk, ok_or, inl, inr, refl, subst}
use Rattle.std.specs.List.{filter}
use Rattle.std.proofs.lemmas.Bool.{ltb-false}
use Rattle.std.proofs.lemmas.Slice.Eq.{bytes_eq-Decides}
use Rattle.sha2.specs.Sha256.{sha256}
use Rattle.base64.specs.declared.decode.DecodeError.{DecodeError}
use Rattle.osb_base.specs.Fetchers.{FetcherState}
use Rattle.osb_sources.specs.declared.items.Items.{Items}
use Rattle.osb_sources.specs.declared.answers.SourceAnswer.{SourceAnswer}
use Rattle.osb_sources.specs.Verdicts.{Verdict, failed, absent, too_large, wrong, right, judged, first_right, lack_of, own_bytes, with_verdict, with_own, is_listed}
use Rattle.osb_sources.specs.Rounds.{Try, verdict, held_verdict, is_live, verdicts, IsRound, Gathers, all_had, one_had, not_had, unfinished, with_first, IsItem, AreItems}
use Rattle.osb_sources.proofs.Rounds.{by_tests, long_test, same_test}

-- ---- one holder

tests_right : (long same : Bool) (bytes found : List ℕ) → by_tests long same bytes ≡ right found → (long ≡ false) × (same ≡ true) × (bytes ≡ found)
tests_right true same bytes found h = cc
tests_right false true bytes found h = (refl, refl, cc)
tests_right false false bytes found h = cc

kept_judged : (digest bytes found : List ℕ) → judged digest bytes ≡ right found → IsItem digest found
kept_judged digest bytes found h =
    let parts = tests_right (long_test bytes) (same_test digest bytes) bytes found h in
    let item : IsItem digest bytes = record { short = ltb-false 16777216 (length bytes) parts.0; named = (bytes_eq-Decides (sha256 bytes) digest).0 parts.1 } in
    subst (λ b. IsItem digest b) parts.2 item

kept_held : (digest found : List ℕ) (has : Option (List ℕ)) → held_verdict digest has ≡ right found → IsItem digest found
kept_held digest found None h = cc
kept_held digest found (Some bytes) h = kept_judged digest bytes found h

kept_verdict : (digest found : List ℕ) (call : Bool) (has : Option (List ℕ)) → cond call failed (held_verdict digest has) ≡ right found → IsItem digest found
kept_verdict digest found true has h = cc
kept_verdict digest found false has h = kept_held digest found has h

first_of_two : (v : Verdict) (vs : List Verdict) (found : List ℕ) → first_right (v ∷ vs) ≡ Some found → (v ≡ right found) ⊎ (first_right vs ≡ Some found)
first_of_two failed vs found h = inr h
first_of_two absent vs found h = inr h
first_of_two too_large vs found h = inr h
first_of_two wrong vs found h = inr h
first_of_two (right bytes) vs found h = inl cc

kept_first : (digest found : List ℕ) (tries : List Try) → first_right (map (verdict digest) tries) ≡ Some found → IsItem digest found
kept_first digest found [] h = cc
kept_first digest found (try ∷ tries) h = elim (first_of_two (verdict digest try) (map (verdict digest) tries) found h) [
  | inl here ↦ kept_verdict digest found try.is_failed try.has here
  | inr later ↦ kept_first digest found tries later
]

kept_listed : (digest found : List ℕ) (tries : List Try) (listed : Bool) → first_right (cond listed (verdicts digest tries) []) ≡ Some found → IsItem digest found
kept_listed digest found tries true h = kept_first digest found (filter (λ t. is_live t.before) tries) h
kept_listed digest found tries false h = cc

-- ---- one item

found_of : (found : Option (List ℕ)) (lack : SourceAnswer) (bytes : List ℕ) → Ok bytes ≡ ok_or found lack → found ≡ Some bytes
found_of None lack bytes h = cc
found_of (Some other) lack bytes h = cc

module _ (digest found : List ℕ) (vs : List Verdict) (others : first_right vs ≡ Some found → IsItem digest found) where
  kept_own_verdict : (bytes : List ℕ) (long same : Bool) → (by_tests long same bytes ≡ right found → IsItem digest found) → Ok found ≡ with_verdict digest (by_tests long same bytes) vs → IsItem digest found
  kept_own_verdict bytes true same own h = cc
  kept_own_verdict bytes false true own h = let e : Some bytes ≡ Some found = found_of (Some bytes) (lack_of digest (right bytes ∷ vs)) found h in own cc
  kept_own_verdict bytes false false own h = others (found_of (first_right vs) (lack_of digest (wrong ∷ vs)) found h)

  kept_own : (own : Option (Result (List ℕ) DecodeError)) → Ok found ≡ with_own digest own vs → IsItem digest found
  kept_own None h = others (found_of (first_right vs) (lack_of digest vs) found h)
  kept_own (Some (Err error)) h = cc
  kept_own (Some (Ok bytes)) h = kept_own_verdict bytes (long_test bytes) (same_test digest bytes) (kept_judged digest bytes found) h

kept_round : (items : Items) (digest : List ℕ) (before now : List FetcherState) (bytes : List ℕ) → IsRound items digest before now (Ok bytes) → IsItem digest bytes
kept_round items digest before now bytes round =
    kept_own digest bytes (cond (is_listed items digest) (verdicts digest round.tries) []) (kept_listed digest bytes round.tries (is_listed items digest))
    (own_bytes items digest) (round.answer (λ h. cc))

-- ---- all items

kept_with_first : (digest : List ℕ) (digests : List (List ℕ)) (bytes : List ℕ) (others : Result (List (List ℕ)) SourceAnswer) → IsItem digest bytes → IfOk others (λ all. AreItems digests all) → IfOk (with_first bytes others) (λ all. AreItems (digest ∷ digests) all)
kept_with_first digest digests bytes (Ok all) item rest = (item, rest)
kept_with_first digest digests bytes (Err answer) item rest = tt

pub kept_gathers : {items : Items} {digests : List (List ℕ)} {before now : List FetcherState} {result : Result (List (List ℕ)) SourceAnswer} → Gathers items digests before now result → IfOk result (λ all. AreItems digests all)
kept_gathers (all_had fetchers) = tt
kept_gathers {items = items} (one_had digest digests before between now bytes others round rest) = kept_with_first digest digests bytes others (kept_round items digest before between bytes round) (kept_gathers rest)
kept_gathers (not_had digest digests before now answer round) = tt
kept_gathers (unfinished digests fetchers) = tt
