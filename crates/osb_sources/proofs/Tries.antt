-- A call of a fetcher, as a try.
use Rattle.std.proofs.Common.{◌≡◌, ◌≢◌, ℕ, ◌<◌, Bool, true, false, List, length, Option, Some, None, option_map, Result, Ok, Err, IfOk, IfSome, inl, inr, refl, sym, ap, ◌∙◌, subst, arith}
use Rattle.std.proofs.lemmas.Bool.{cases_lt, cond_below}
use Rattle.osb_base.specs.Fetchers.{FetcherState, IsFetch, IsGiven}
use Rattle.osb_base.specs.Shelves.{Files, file_of, cut}
use Rattle.osb_base.specs.declared.faults.ReadStop.{ReadStop}
use Rattle.osb_base.specs.declared.faults.ReadStop.TheVariants.{Failed as CallFailed, NoMemory as CallNoMemory}
use Rattle.osb_base.specs.declared.fetchers.Fetched.{Fetched}
use Rattle.osb_base.specs.declared.fetchers.Fetched.TheVariants.{Bytes, Absent as NotHeld, Gone as IsGone}
use Rattle.osb_base.proofs.Cuts.{cut_short, cut_long}
use Rattle.osb_sources.specs.declared.replies.Reply.{Reply}
use Rattle.osb_sources.specs.declared.replies.Reply.TheVariants.{Gone, Failed, Absent, TooLarge, Wrong, Right}
use Rattle.osb_sources.specs.Verdicts.{absent, too_large, judged}
use Rattle.osb_sources.specs.Replies.{verdict_of, is_gone_answer, IsReply}
use Rattle.osb_sources.specs.Rounds.{Try, IsTry, verdict, held_verdict}

-- ---- cut bytes are judged as the whole item

too_large-judged : (digest bytes : List ℕ) → 16777216 < length bytes → judged digest bytes ≡ too_large
too_large-judged digest bytes long = sym (cond_below 16777216 (length bytes) too_large _ long)

pub judged-cut : (digest bytes : List ℕ) → judged digest (cut bytes) ≡ judged digest bytes
judged-cut digest bytes =
    elim (cases_lt (length bytes) 16777217) [
      | inl within ↦ ap (judged digest) (cut_short bytes (omega arith))
      | inr past ↦
          let size : length (cut bytes) ≡ 16777217 = cut_long bytes past in
          too_large-judged digest (cut bytes) (omega arith) ∙ sym (too_large-judged digest bytes (omega arith))
    ]

-- ---- a fetcher that was not called

abbrev pub held : List ℕ → Option Files → Option (List ℕ)
held digest None = None
held digest (Some items) = file_of items digest

held-told : (digest : List ℕ) (told : Option Files) → IfSome told (λ items. held digest told ≡ file_of items digest)
held-told digest None = tt
held-told digest (Some items) = refl

abbrev pub untouched : List ℕ → FetcherState → Try
untouched digest fetcher =
    record { before = fetcher; now = fetcher; is_out = false; is_failed = false; has = held digest fetcher.told }

pub IsTry-untouched : (digest : List ℕ) (fetcher : FetcherState) → IsTry digest (untouched digest fetcher)
IsTry-untouched digest fetcher = record {
  gone_stays = refl;
  told_stays = refl;
  later = omega arith;
  failed = λ h. cc;
  gone = λ h. refl;
  gone_count = λ h. refl;
  out = λ h. cc;
  told = held-told digest fetcher.told;
}

-- ---- one that was

abbrev pub call_failed : Result Fetched ReadStop → Bool
call_failed (Err CallFailed) = true
call_failed answer = false

abbrev pub given : Result Fetched ReadStop → Option (List ℕ)
given (Ok (Bytes bytes)) = Some bytes
given answer = None

abbrev pub has_of : List ℕ → Option Files → Result Fetched ReadStop → Option (List ℕ)
has_of digest None answer = given answer
has_of digest (Some items) answer = file_of items digest

has_of-told : (digest : List ℕ) (told : Option Files) (answer : Result Fetched ReadStop) → IfSome told (λ items. has_of digest told answer ≡ file_of items digest)
has_of-told digest None answer = tt
has_of-told digest (Some items) answer = refl

call_failed-is : (answer : Result Fetched ReadStop) → call_failed answer ≡ true → answer ≡ Err CallFailed
call_failed-is (Ok fetched) h = cc
call_failed-is (Err CallFailed) h = refl
call_failed-is (Err CallNoMemory) h = cc

pub is_gone_answer-is : (answer : Result Fetched ReadStop) → is_gone_answer answer ≡ true → answer ≡ Ok IsGone
is_gone_answer-is (Ok IsGone) h = refl
is_gone_answer-is (Ok (Bytes bytes)) h = cc
is_gone_answer-is (Ok NotHeld) h = cc
is_gone_answer-is (Err stop) h = cc

call_failed-gone : (answer : Result Fetched ReadStop) → (answer ≢ Err CallNoMemory → answer ≡ Ok IsGone) → call_failed answer ≡ false
call_failed-gone (Ok fetched) h = refl
call_failed-gone (Err CallNoMemory) h = refl
call_failed-gone (Err CallFailed) h = let e : Err CallFailed ≡ Ok IsGone = h (λ e. cc) in cc

abbrev pub called : List ℕ → FetcherState → FetcherState → Result Fetched ReadStop → Bool → Try
called digest was is answer out =
    record { before = was; now = is; is_out = out; is_failed = call_failed answer; has = has_of digest was.told answer }

pub IsTry-called : (digest : List ℕ) (was is : FetcherState) (answer : Result Fetched ReadStop) (out : Bool) → IsFetch digest was is answer → (out ≡ true → was.is_gone ≡ true) → IsTry digest (called digest was is answer out)
IsTry-called digest was is answer out fetch leaves = record {
  gone_stays = fetch.gone_stays;
  told_stays = fetch.told_stays;
  later = fetch.cause.later;
  failed = λ h. fetch.cause.failed (call_failed-is answer h);
  gone = λ h. call_failed-gone answer (fetch.of_gone h);
  gone_count = fetch.gone_count;
  out = leaves;
  told = has_of-told digest was.told answer;
}

-- ---- what it says

-- the item that is told, and the bytes that are given of it
judged-told : (digest bytes : List ℕ) (found : Option (List ℕ)) → option_map cut found ≡ Some bytes → judged digest bytes ≡ held_verdict digest found
judged-told digest bytes None e = cc
judged-told digest bytes (Some whole) e =
    let same : cut whole ≡ bytes = cc in
    ap (judged digest) (sym same) ∙ judged-cut digest whole

given-verdict : (digest bytes : List ℕ) (told : Option Files) → IfSome told (λ items. IsGiven items digest (Bytes bytes)) → judged digest bytes ≡ held_verdict digest (has_of digest told (Ok (Bytes bytes)))
given-verdict digest bytes None h = refl
given-verdict digest bytes (Some items) h = judged-told digest bytes (file_of items digest) h

absent-verdict : (digest : List ℕ) (told : Option Files) → IfSome told (λ items. IsGiven items digest NotHeld) → absent ≡ held_verdict digest (has_of digest told (Ok NotHeld))
absent-verdict digest None h = refl
absent-verdict digest (Some items) h = sym (ap (held_verdict digest) h)

-- a fetcher that was asked, and isn't gone
pub record IsLive (digest : List ℕ) (was is : FetcherState) (answer : Result Fetched ReadStop) (reply : Reply) : Type 0 where
  pub live : was.is_gone ≡ false
  pub is_try : IsTry digest (called digest was is answer false)
  pub heard : verdict_of reply ≡ Some (verdict digest (called digest was is answer false))

not_gone : (b : Bool) → (b ≡ true → ⊥) → b ≡ false
not_gone true h = absurd (h refl)
not_gone false h = refl

abbrev says : (digest : List ℕ) (was is : FetcherState) (answer : Result Fetched ReadStop) (reply : Reply) → Type 0
says digest was is answer reply = verdict_of reply ≡ Some (verdict digest (called digest was is answer false))

live_says : (digest : List ℕ) (was is : FetcherState) (answer : Result Fetched ReadStop) (reply : Reply) → is_gone_answer answer ≡ false → IfOk answer (λ fetched. IfSome was.told (λ items. IsGiven items digest fetched)) → IsReply digest answer reply → says digest was is answer reply
live_says digest was is (Ok (Bytes bytes)) reply n g r = r ∙ ap Some (given-verdict digest bytes was.told g)
live_says digest was is (Ok NotHeld) reply n g r = r ∙ ap Some (absent-verdict digest was.told g)
live_says digest was is (Ok IsGone) reply n g r = cc
live_says digest was is (Err CallFailed) reply n g r = r
live_says digest was is (Err CallNoMemory) reply n g r = absurd r

IsReply-memory : (digest : List ℕ) (answer : Result Fetched ReadStop) (reply : Reply) → IsReply digest answer reply → answer ≢ Err CallNoMemory
IsReply-memory digest (Ok fetched) reply r e = cc
IsReply-memory digest (Err CallFailed) reply r e = cc
IsReply-memory digest (Err CallNoMemory) reply r e = r

pub IsLive-called : (digest : List ℕ) (was is : FetcherState) (answer : Result Fetched ReadStop) (reply : Reply) → IsFetch digest was is answer → is_gone_answer answer ≡ false → IsReply digest answer reply → IsLive digest was is answer reply
IsLive-called digest was is answer reply fetch n r = record {
  live = not_gone was.is_gone (λ h. let e : answer ≡ Ok IsGone = fetch.of_gone h (IsReply-memory digest answer reply r) in let f : is_gone_answer answer ≡ true = ap is_gone_answer e in cc);
  is_try = IsTry-called digest was is answer false fetch (λ h. cc);
  heard = live_says digest was is answer reply n fetch.given r;
}

gone_reply : (reply : Reply) → verdict_of reply ≡ None → reply ≡ Gone
gone_reply Gone h = refl
gone_reply Failed h = cc
gone_reply Absent h = cc
gone_reply TooLarge h = cc
gone_reply Wrong h = cc
gone_reply (Right bytes) h = cc

-- a reply of one that is gone
pub IsReply-gone : (digest : List ℕ) (answer : Result Fetched ReadStop) (reply : Reply) → is_gone_answer answer ≡ true → IsReply digest answer reply → reply ≡ Gone
IsReply-gone digest answer reply g r =
    let r' : IsReply digest (Ok IsGone) reply = subst (λ a. IsReply digest a reply) (is_gone_answer-is answer g) r in
    gone_reply reply r'

pub gone_of_answer : (digest : List ℕ) (was is : FetcherState) (answer : Result Fetched ReadStop) → IsFetch digest was is answer → is_gone_answer answer ≡ true → was.is_gone ≡ true
gone_of_answer digest was is answer fetch g = fetch.gone (is_gone_answer-is answer g)
