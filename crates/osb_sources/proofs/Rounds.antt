-- One item, by what the manifest's own text says.
use Rattle.std.proofs.Common.{◌≡◌, ◌≢◌, ℕ, Bool, true, false, cond, List, [], ◌∷◌, ◌++◌, map, length, nat_lt, ◌==◌, Option, Some, None, Result, Ok, Err, IsErrAnd, refl, sym, ap, ◌∙◌, subst}
use Rattle.std.specs.Cmp.Lexicographic.{pointwise}
use Rattle.std.proofs.lemmas.Bool.{cond-true, cond-false}
use Rattle.sha2.specs.Sha256.{sha256}
use Rattle.base64.specs.declared.decode.DecodeError.{DecodeError}
use Rattle.osb_base.specs.Fetchers.{FetcherState}
use Rattle.osb_sources.specs.declared.items.Items.{Items}
use Rattle.osb_sources.specs.declared.answers.SourceAnswer.{SourceAnswer}
use Rattle.osb_sources.specs.declared.answers.SourceAnswer.TheVariants.{BadBase64, ItemTooLarge, NoMemory}
use Rattle.osb_sources.specs.declared.notes.Notes.{Notes}
use Rattle.osb_sources.specs.declared.replies.Reply.{Reply}
use Rattle.osb_sources.specs.declared.replies.Reply.TheVariants.{Gone, Failed, Absent, TooLarge, Wrong, Right}
use Rattle.osb_sources.specs.Verdicts.{Verdict, failed, absent, too_large, wrong, right, first_right, is_wrong, answer_of, own_bytes, with_verdict, with_own, is_listed, item, leaves_open, is_asked}
use Rattle.osb_sources.specs.Rounds.{left, verdicts, IsRound}
use Rattle.osb_sources.specs.Notes.{notes_of, with_reply, lack_by}
use Rattle.osb_sources.specs.Replies.{IsSearch, verdict_of, heard, unless_too_large, own_verdict}
use Rattle.osb_sources.proofs.Tries.{untouched}
use Rattle.osb_sources.proofs.Searches.{before-untouched, now-untouched, stays-untouched, each-untouched}
use Rattle.osb_sources.proofs.Turns.{notes-own}

-- ---- what the own text says

-- `judged`, by its two tests
abbrev pub by_tests : Bool → Bool → List ℕ → Verdict
by_tests long same bytes = cond long too_large (cond same (right bytes) wrong)

judged-err : (digest bytes : List ℕ) (long same : Bool) (answer : SourceAnswer) (others : List Verdict) → Err answer ≡ unless_too_large digest (by_tests long same bytes) → Err answer ≡ with_verdict digest (by_tests long same bytes) others
judged-err digest bytes true same answer others h = let e : answer ≡ ItemTooLarge digest = cc in ap Err e
judged-err digest bytes false true answer others h = cc
judged-err digest bytes false false answer others h = cc

judged-err-closed : (digest bytes : List ℕ) (long same : Bool) (answer : SourceAnswer) → Err answer ≡ unless_too_large digest (by_tests long same bytes) → is_wrong (by_tests long same bytes) ≡ false
judged-err-closed digest bytes true same answer h = refl
judged-err-closed digest bytes false true answer h = cc
judged-err-closed digest bytes false false answer h = cc

judged-right : (digest bytes found : List ℕ) (long same : Bool) (others : List Verdict) → Ok (Some (right found)) ≡ unless_too_large digest (by_tests long same bytes) → Ok found ≡ with_verdict digest (by_tests long same bytes) others
judged-right digest bytes found true same others h = cc
judged-right digest bytes found false true others h = let e : right found ≡ right bytes = cc in cc
judged-right digest bytes found false false others h = let e : right found ≡ wrong = cc in cc

judged-right-closed : (digest bytes found : List ℕ) (long same : Bool) → Ok (Some (right found)) ≡ unless_too_large digest (by_tests long same bytes) → is_wrong (by_tests long same bytes) ≡ false
judged-right-closed digest bytes found true same h = refl
judged-right-closed digest bytes found false true h = refl
judged-right-closed digest bytes found false false h = let e : right found ≡ wrong = cc in cc

abbrev pub long_test : List ℕ → Bool
long_test bytes = nat_lt 16777216 (length bytes)

abbrev pub same_test : List ℕ → List ℕ → Bool
same_test digest bytes = pointwise ◌==◌ (sha256 bytes) digest

own-err : (digest : List ℕ) (own : Option (Result (List ℕ) DecodeError)) (answer : SourceAnswer) (others : List Verdict) → Err answer ≡ own_verdict digest own → Err answer ≡ with_own digest own others
own-err digest None answer others h = cc
own-err digest (Some (Err error)) answer others h = let e : answer ≡ BadBase64 digest = cc in ap Err e
own-err digest (Some (Ok bytes)) answer others h = judged-err digest bytes (long_test bytes) (same_test digest bytes) answer others h

own-err-closed : (digest : List ℕ) (own : Option (Result (List ℕ) DecodeError)) (answer : SourceAnswer) → Err answer ≡ own_verdict digest own → leaves_open digest own ≡ false
own-err-closed digest None answer h = cc
own-err-closed digest (Some (Err error)) answer h = refl
own-err-closed digest (Some (Ok bytes)) answer h = judged-err-closed digest bytes (long_test bytes) (same_test digest bytes) answer h

own-right : (digest : List ℕ) (own : Option (Result (List ℕ) DecodeError)) (found : List ℕ) (others : List Verdict) → Ok (Some (right found)) ≡ own_verdict digest own → Ok found ≡ with_own digest own others
own-right digest None found others h = let e : right found ≡ absent = cc in cc
own-right digest (Some (Err error)) found others h = cc
own-right digest (Some (Ok bytes)) found others h = judged-right digest bytes found (long_test bytes) (same_test digest bytes) others h

own-right-closed : (digest : List ℕ) (own : Option (Result (List ℕ) DecodeError)) (found : List ℕ) → Ok (Some (right found)) ≡ own_verdict digest own → leaves_open digest own ≡ false
own-right-closed digest None found h = let e : right found ≡ absent = cc in cc
own-right-closed digest (Some (Err error)) found h = refl
own-right-closed digest (Some (Ok bytes)) found h = judged-right-closed digest bytes found (long_test bytes) (same_test digest bytes) h

abbrev IsOther : Reply → Type 0
IsOther reply = (bytes : List ℕ) → reply ≡ Right bytes → ⊥

abbrev own_reply : Reply → Result (Option Verdict) SourceAnswer
own_reply reply = Ok (verdict_of reply)

is_absent : (reply : Reply) → own_reply reply ≡ Ok (Some absent) → reply ≡ Absent
is_absent Gone h = cc
is_absent Failed h = let e : failed ≡ absent = cc in cc
is_absent Absent h = refl
is_absent TooLarge h = let e : too_large ≡ absent = cc in cc
is_absent Wrong h = let e : wrong ≡ absent = cc in cc
is_absent (Right bytes) h = let e : right bytes ≡ absent = cc in cc

is_wrong_reply : (reply : Reply) → own_reply reply ≡ Ok (Some wrong) → reply ≡ Wrong
is_wrong_reply Gone h = cc
is_wrong_reply Failed h = let e : failed ≡ wrong = cc in cc
is_wrong_reply Absent h = let e : absent ≡ wrong = cc in cc
is_wrong_reply TooLarge h = let e : too_large ≡ wrong = cc in cc
is_wrong_reply Wrong h = refl
is_wrong_reply (Right bytes) h = let e : right bytes ≡ wrong = cc in cc

is_right_reply : (reply : Reply) (bytes : List ℕ) → own_reply reply ≡ Ok (Some (right bytes)) → reply ≡ Right bytes
is_right_reply Gone bytes h = cc
is_right_reply Failed bytes h = let e : failed ≡ right bytes = cc in cc
is_right_reply Absent bytes h = let e : absent ≡ right bytes = cc in cc
is_right_reply TooLarge bytes h = let e : too_large ≡ right bytes = cc in cc
is_right_reply Wrong bytes h = let e : wrong ≡ right bytes = cc in cc
is_right_reply (Right found) bytes h = let e : right found ≡ right bytes = cc in cc

-- what follows where the own text leaves the item open
record IsOpen (digest : List ℕ) (own : Option (Result (List ℕ) DecodeError)) (reply : Reply) : Type 0 where
  none : first_right (heard reply) ≡ None
  opens : leaves_open digest own ≡ true
  answer : (others : List Verdict) → answer_of digest (heard reply ++ others) ≡ with_own digest own others

IsOpen-absent : (digest : List ℕ) → IsOpen digest None Absent
IsOpen-absent digest = record { none = refl; opens = refl; answer = λ others. refl }

IsOpen-judged : (digest bytes : List ℕ) (long same : Bool) (reply : Reply) → Ok (verdict_of reply) ≡ unless_too_large digest (by_tests long same bytes) → IsOther reply
    → (first_right (heard reply) ≡ None) × (is_wrong (by_tests long same bytes) ≡ true) × ((others : List Verdict) → answer_of digest (heard reply ++ others) ≡ with_verdict digest (by_tests long same bytes) others)
IsOpen-judged digest bytes true same reply h other = cc
IsOpen-judged digest bytes false true reply h other = absurd (other bytes (is_right_reply reply bytes h))
IsOpen-judged digest bytes false false reply h other =
    let e = is_wrong_reply reply h in
    subst (λ r. (first_right (heard r) ≡ None) × (is_wrong wrong ≡ true) × ((others : List Verdict) → answer_of digest (heard r ++ others) ≡ answer_of digest (wrong ∷ others))) (sym e) (refl, refl, λ others. refl)

own_open : (digest : List ℕ) (own : Option (Result (List ℕ) DecodeError)) (reply : Reply) → Ok (verdict_of reply) ≡ own_verdict digest own → IsOther reply → IsOpen digest own reply
own_open digest None reply h other = subst (λ r. IsOpen digest None r) (sym (is_absent reply h)) (IsOpen-absent digest)
own_open digest (Some (Err error)) reply h other = cc
own_open digest (Some (Ok bytes)) reply h other =
    let parts = IsOpen-judged digest bytes (long_test bytes) (same_test digest bytes) reply h other in
    record { none = parts.0; opens = parts.1; answer = parts.2 }

-- ---- rounds

err_is : (result : Result (List ℕ) SourceAnswer) (answer : SourceAnswer) → IsErrAnd result (λ e. e ≡ answer) → result ≡ Err answer
err_is (Ok bytes) answer h = absurd h
err_is (Err other) answer h = ap Err h

-- a round in which no fetcher is asked
module _ (items : Items) (digest : List ℕ) (fetchers : List FetcherState) where
  round_unasked : (result : Result (List ℕ) SourceAnswer) → (result ≢ Err NoMemory → is_asked items digest ≡ false) → (result ≢ Err NoMemory → result ≡ item items digest (verdicts digest (map (untouched digest) fetchers))) → IsRound items digest fetchers fetchers result
  round_unasked result unasked answer = record {
    tries = map (untouched digest) fetchers;
    each = each-untouched digest fetchers;
    before_is = before-untouched digest fetchers;
    now_is = now-untouched digest fetchers;
    left_is = λ h. stays-untouched digest fetchers ∙ sym (cond-false (is_asked items digest) (left digest (map (untouched digest) fetchers)) (map (untouched digest) fetchers) (unasked h));
    answer = answer;
  }

  closed : leaves_open digest (own_bytes items digest) ≡ false → is_asked items digest ≡ false
  closed h = either (is_listed items digest) (leaves_open digest (own_bytes items digest)) h where
    either : (listed opens : Bool) → opens ≡ false → cond listed opens false ≡ false
    either true opens h = h
    either false opens h = refl

  abbrev reply_err : SourceAnswer → Result Reply SourceAnswer
  reply_err answer = Err answer

  unlike : (answer : SourceAnswer) (result : Result (List ℕ) SourceAnswer) → result ≡ Err answer → result ≢ Err NoMemory → reply_err answer ≢ reply_err NoMemory
  unlike answer result is h e = let same : answer ≡ NoMemory = cc in h (is ∙ ap Err same)

  pub round_by_err : (answer : SourceAnswer) (result : Result (List ℕ) SourceAnswer) → (reply_err answer ≢ reply_err NoMemory → Err answer ≡ own_verdict digest (own_bytes items digest)) → IsErrAnd result (λ e. e ≡ answer) → IsRound items digest fetchers fetchers result
  round_by_err answer result own same =
      let is = err_is result answer same in
      round_unasked result
      (λ h. closed (own-err-closed digest (own_bytes items digest) answer (own (unlike answer result is h))))
      (λ h. is ∙ own-err digest (own_bytes items digest) answer _ (own (unlike answer result is h)))

  pub round_by_right : (bytes : List ℕ) → Ok (Some (right bytes)) ≡ own_verdict digest (own_bytes items digest) → IsRound items digest fetchers fetchers (Ok bytes)
  round_by_right bytes own =
      round_unasked (Ok bytes) (λ h. closed (own-right-closed digest (own_bytes items digest) bytes own)) (λ h. own-right digest (own_bytes items digest) bytes _ own)

  pub round_stops : (result : Result (List ℕ) SourceAnswer) → IsErrAnd result (λ e. e ≡ NoMemory) → IsRound items digest fetchers fetchers result
  round_stops result e = let is = err_is result NoMemory e in round_unasked result (λ h. absurd (h is)) (λ h. absurd (h is))

  lacks : (reply : Reply) (answer : SourceAnswer) → first_right (heard reply) ≡ None → answer ≡ lack_by (notes_of (heard reply)) digest → Err answer ≡ answer_of digest (heard reply ++ [])
  lacks Gone answer none e = ap Err e
  lacks Failed answer none e = ap Err e
  lacks Absent answer none e = ap Err e
  lacks TooLarge answer none e = ap Err e
  lacks Wrong answer none e = ap Err e
  lacks (Right bytes) answer none e = cc

  -- the manifest doesn't list the item as one to be had elsewhere
  pub round_alone : (reply : Reply) (notes : Notes) (answer : SourceAnswer) → Ok (verdict_of reply) ≡ own_verdict digest (own_bytes items digest) → IsOther reply → false ≡ is_listed items digest → notes ≡ with_reply (notes_of []) reply → answer ≡ lack_by notes digest → IsRound items digest fetchers fetchers (Err answer)
  round_alone reply notes answer own other unlisted noted lack =
      let open_own = own_open digest (own_bytes items digest) reply own other in
      let no_others = cond-false (is_listed items digest) (verdicts digest (map (untouched digest) fetchers)) [] (sym unlisted) in
      round_unasked (Err answer) (λ h. cond-false (is_listed items digest) (leaves_open digest (own_bytes items digest)) false (sym unlisted))
      (λ h. lacks reply answer open_own.none (lack ∙ ap (λ n. lack_by n digest) (noted ∙ notes-own reply)) ∙ open_own.answer [] ∙ sym (ap (with_own digest (own_bytes items digest)) no_others))

-- the fetchers were asked
pub round_searched : (items : Items) (digest : List ℕ) (before now : List FetcherState) (reply : Reply) (result : Result (List ℕ) SourceAnswer) → Ok (verdict_of reply) ≡ own_verdict digest (own_bytes items digest) → IsOther reply → true ≡ is_listed items digest → (first_right (heard reply) ≡ None → IsSearch digest (heard reply) before now result) → IsRound items digest before now result
round_searched items digest before now reply result own other listed searched =
    let open_own = own_open digest (own_bytes items digest) reply own other in
    let s = searched open_own.none in
    let asked = cond-true (is_listed items digest) (leaves_open digest (own_bytes items digest)) false (sym listed) ∙ open_own.opens in
    record {
      tries = s.tries;
      each = s.each;
      before_is = s.before_is;
      now_is = s.now_is;
      left_is = λ h. s.left_is h ∙ sym (cond-true (is_asked items digest) (left digest s.tries) s.tries asked);
      answer = λ h. s.answer h ∙ open_own.answer (verdicts digest s.tries) ∙ sym (ap (with_own digest (own_bytes items digest)) (cond-true (is_listed items digest) (verdicts digest s.tries) [] (sym listed)));
    }
