-- The steps of gathering one item: what is had of it from one place, one call of a fetcher, and all calls for it.
use Rattle.std.specs.Prelude.{◌≡◌, ◌≢◌, ℕ, Bool, true, false, List, ◌++◌, map, slice_set, slice_index_or, Option, Some, None, Result, Ok, Err, IfOk, option_to_list, if◌then◌else◌}
use Rattle.std.specs.List.{All, filter, remove}
use Rattle.std.specs.declared.alloc.AllocError.{AllocError}
use Rattle.base64.specs.declared.decode.DecodeError.{DecodeError}
use Rattle.osb_base.specs.declared.faults.ReadStop.{ReadStop}
use Rattle.osb_base.specs.declared.faults.ReadStop.TheVariants.{Failed as CallFailed, NoMemory as CallNoMemory}
use Rattle.osb_base.specs.declared.fetchers.Fetched.{Fetched}
use Rattle.osb_base.specs.declared.fetchers.Fetched.TheVariants.{Bytes, Absent as NotHeld, Gone as IsGone}
use Rattle.osb_base.specs.Fetchers.{FetcherState, IsFetch}
use Rattle.osb_sources.specs.declared.answers.SourceAnswer.{SourceAnswer}
use Rattle.osb_sources.specs.declared.answers.SourceAnswer.TheVariants.{BadBase64, ItemTooLarge, NoMemory}
use Rattle.osb_sources.specs.declared.replies.Reply.{Reply}
use Rattle.osb_sources.specs.declared.replies.Reply.TheVariants.{Gone, Failed, Absent, TooLarge, Wrong, Right}
use Rattle.osb_sources.specs.Verdicts.{Verdict, failed, absent, too_large, wrong, right, judged, answer_of}
use Rattle.osb_sources.specs.Rounds.{Try, IsTry, stays, left, verdicts}

-- ---- what is had from one place

-- nothing is said by a fetcher that is gone
abbrev pub verdict_of : Reply → Option Verdict
verdict_of Gone = None
verdict_of Failed = Some failed
verdict_of Absent = Some absent
verdict_of TooLarge = Some too_large
verdict_of Wrong = Some wrong
verdict_of (Right bytes) = Some (right bytes)

abbrev pub heard : Reply → List Verdict
heard reply = option_to_list (verdict_of reply)

-- ---- the manifest's own text

abbrev pub decoded_own : List ℕ → Result (List ℕ) DecodeError → Result (List ℕ) SourceAnswer
decoded_own digest (Ok bytes) = Ok bytes
decoded_own digest (Err error) = Err (BadBase64 digest)

abbrev pub unless_too_large : List ℕ → Verdict → Result (Option Verdict) SourceAnswer
unless_too_large digest too_large = Err (ItemTooLarge digest)
unless_too_large digest own = Ok (Some own)

-- what the manifest's own text says, unless it ends the search
abbrev pub own_verdict : List ℕ → Option (Result (List ℕ) DecodeError) → Result (Option Verdict) SourceAnswer
own_verdict digest None = Ok (Some absent)
own_verdict digest (Some (Err error)) = Err (BadBase64 digest)
own_verdict digest (Some (Ok bytes)) = unless_too_large digest (judged digest bytes)

abbrev pub with_verdicts : Result Reply SourceAnswer → Result (Option Verdict) SourceAnswer
with_verdicts (Ok reply) = Ok (verdict_of reply)
with_verdicts (Err answer) = Err answer

-- ---- one call

abbrev pub is_gone_answer : Result Fetched ReadStop → Bool
is_gone_answer (Ok IsGone) = true
is_gone_answer answer = false

abbrev pub found_in : List ℕ → Fetched → Option Verdict
found_in digest (Bytes bytes) = Some (judged digest bytes)
found_in digest NotHeld = Some absent
found_in digest IsGone = None

-- a call's answer, judged
abbrev pub IsReply : List ℕ → Result Fetched ReadStop → Reply → Type 0
IsReply digest (Ok fetched) reply = verdict_of reply ≡ found_in digest fetched
IsReply digest (Err CallFailed) reply = verdict_of reply ≡ Some failed
IsReply digest (Err CallNoMemory) reply = ⊥

-- how far the next fetcher is from the place of this one
abbrev pub moved : Reply → ℕ
moved Gone = 0
moved reply = 1

-- the fetcher at a place is called, and taken out where it is gone
pub record IsAsk (digest : List ℕ) (at : ℕ) (before now : List FetcherState) (result : Result Reply AllocError) : Type 0 where
  pub answer : Result Fetched ReadStop
  pub was : FetcherState
  pub is : FetcherState
  pub fetch : IsFetch digest was is answer
  pub was_at : slice_index_or before at was ≡ was
  pub now_is : now ≡ (if is_gone_answer answer then remove before at else slice_set before at is)
  pub reply : IfOk result (IsReply digest answer)

-- ---- all calls for an item

-- some was heard of it already
pub record IsSearch (digest : List ℕ) (seen : List Verdict) (before now : List FetcherState) (result : Result (List ℕ) SourceAnswer) : Type 0 where
  pub tries : List Try
  pub each : All (IsTry digest) tries
  pub before_is : map (λ try. try.before) tries ≡ before
  pub now_is : map (λ try. try.now) (filter stays tries) ≡ now
  pub left_is : result ≢ Err NoMemory → filter stays tries ≡ left digest tries
  pub answer : result ≢ Err NoMemory → result ≡ answer_of digest (seen ++ verdicts digest tries)
