-- What the loop over the fetchers keeps.
use Rattle.std.proofs.Common.{◌≡◌, ℕ, ◌+◌, ◌<◌, ◌≤◌, Bool, true, false, ◌||◌, List, [], ◌∷◌, ◌++◌, length, Some, None, Result, Ok, Err, IsErrAnd, if◌then◌else◌, refl, sym, ap, ◌∙◌, subst, append_assoc, append-nil, length-append, arith}
use Rattle.std.specs.List.{list_any}
use Rattle.std.specs.declared.alloc.AllocError.{AllocError}
use Rattle.std.proofs.lemmas.List.Folds.{list_any-append}
use Rattle.osb_base.specs.declared.faults.ReadStop.{ReadStop}
use Rattle.osb_base.specs.declared.fetchers.Fetched.{Fetched}
use Rattle.osb_base.specs.Fetchers.{FetcherState, IsFetch}
use Rattle.osb_sources.specs.declared.answers.SourceAnswer.{SourceAnswer}
use Rattle.osb_sources.specs.declared.answers.SourceAnswer.TheVariants.{NoMemory}
use Rattle.osb_sources.specs.declared.notes.Notes.{Notes}
use Rattle.osb_sources.specs.declared.replies.Reply.{Reply}
use Rattle.osb_sources.specs.declared.replies.Reply.TheVariants.{Gone, Failed, Absent, TooLarge, Wrong, Right}
use Rattle.osb_sources.specs.Verdicts.{Verdict, failed, absent, too_large, wrong, right, first_right, is_right, is_failed, is_too_large, is_wrong}
use Rattle.osb_sources.specs.Rounds.{verdict}
use Rattle.osb_sources.specs.Notes.{notes_of, with_reply, lack_by}
use Rattle.osb_sources.specs.Replies.{IsAsk, IsReply, IsSearch, verdict_of, heard, is_gone_answer, moved}
use Rattle.osb_sources.proofs.Tries.{called, IsTry-called, IsLive, IsLive-called, IsReply-gone, gone_of_answer}
use Rattle.osb_sources.proofs.Searches.{search_stops, search_ends, search_out, search_on, search_found, search_stopped, first_right-more}
use Rattle.osb_sources.proofs.Asks.{IsAskAt, IsAskAt-from_IsAsk}

-- ---- notes

any-more : (test : Verdict → Bool) (seen : List Verdict) (v : Verdict) (b : Bool) → (test v || false) ≡ b → list_any test (seen ++ v ∷ []) ≡ (list_any test seen || b)
any-more test seen v b h = list_any-append test seen (v ∷ []) ∙ ap (λ t. list_any test seen || t) h

or-false : (b : Bool) → (b || false) ≡ b
or-false true = refl
or-false false = refl

or-true : (b : Bool) → (b || true) ≡ true
or-true true = refl
or-true false = refl

-- the notes after one more verdict
noted : (seen : List Verdict) (v : Verdict) → notes_of (seen ++ v ∷ []) ≡ record { failed = list_any is_failed seen || is_failed v; too_large = list_any is_too_large seen || is_too_large v; wrong = list_any is_wrong seen || is_wrong v }
noted seen v =
    let a = any-more is_failed seen v (is_failed v) (or-false (is_failed v)) in
    let b = any-more is_too_large seen v (is_too_large v) (or-false (is_too_large v)) in
    let d = any-more is_wrong seen v (is_wrong v) (or-false (is_wrong v)) in
    cc

pub notes-heard : (seen : List Verdict) (reply : Reply) (v : Verdict) → verdict_of reply ≡ Some v → with_reply (notes_of seen) reply ≡ notes_of (seen ++ v ∷ [])
notes-heard seen Gone v h = cc
notes-heard seen Failed v h =
    let same : failed ≡ v = cc in
    let a = noted seen failed in
    let x = or-true (list_any is_failed seen) in
    let y = or-false (list_any is_too_large seen) in
    let z = or-false (list_any is_wrong seen) in
    cc
notes-heard seen Absent v h =
    let same : absent ≡ v = cc in
    let a = noted seen absent in
    let x = or-false (list_any is_failed seen) in
    let y = or-false (list_any is_too_large seen) in
    let z = or-false (list_any is_wrong seen) in
    cc
notes-heard seen TooLarge v h =
    let same : too_large ≡ v = cc in
    let a = noted seen too_large in
    let x = or-false (list_any is_failed seen) in
    let y = or-true (list_any is_too_large seen) in
    let z = or-false (list_any is_wrong seen) in
    cc
notes-heard seen Wrong v h =
    let same : wrong ≡ v = cc in
    let a = noted seen wrong in
    let x = or-false (list_any is_failed seen) in
    let y = or-false (list_any is_too_large seen) in
    let z = or-true (list_any is_wrong seen) in
    cc
notes-heard seen (Right bytes) v h =
    let same : right bytes ≡ v = cc in
    let a = noted seen (right bytes) in
    let x = or-false (list_any is_failed seen) in
    let y = or-false (list_any is_too_large seen) in
    let z = or-false (list_any is_wrong seen) in
    cc

-- the notes on what is had elsewhere
pub notes-own : (own : Reply) → with_reply (notes_of []) own ≡ notes_of (heard own)
notes-own Gone = refl
notes-own Failed = refl
notes-own Absent = refl
notes-own TooLarge = refl
notes-own Wrong = refl
notes-own (Right bytes) = refl

pub for_memory : {A : Type 0} (result : Result A SourceAnswer) → IsErrAnd result (λ e. e ≡ NoMemory) → result ≡ Err NoMemory
for_memory (Ok value) h = absurd h
for_memory (Err answer) h = ap Err h

-- ---- the invariant

-- before the place `at` stand the fetchers that were asked and stay; whatever the search among the others gives, the whole
-- search gives it
pub record IsTurn (digest : List ℕ) (own : List Verdict) (entry now : List FetcherState) (at : ℕ) (notes : Notes) : Type 0 where
  pub seen : List Verdict
  pub kept : List FetcherState
  pub rest : List FetcherState
  pub now_is : kept ++ rest ≡ now
  pub place : length kept ≡ at
  pub notes_are : notes ≡ notes_of seen
  pub no_right : first_right seen ≡ None
  pub whole : (after : List FetcherState) (result : Result (List ℕ) SourceAnswer) → IsSearch digest seen rest after result → IsSearch digest own entry (kept ++ after) result

pub turn_first : (digest : List ℕ) (own : Reply) (entry : List FetcherState) (notes : Notes) → notes ≡ with_reply (notes_of []) own → first_right (heard own) ≡ None → IsTurn digest (heard own) entry entry 0 notes
turn_first digest own entry notes e none = record {
  seen = heard own;
  kept = [];
  rest = entry;
  now_is = refl;
  place = refl;
  notes_are = e ∙ notes-own own;
  no_right = none;
  whole = λ after result s. s;
}

no_rest : (kept rest : List FetcherState) → length (kept ++ rest) ≤ length kept → rest ≡ []
no_rest kept [] h = refl
no_rest kept (first ∷ rest) h = absurd (let e : length (kept ++ first ∷ rest) ≡ length kept + length (first ∷ rest) = length-append kept (first ∷ rest) in omega arith)

pub turn_ends : (digest : List ℕ) (own : List Verdict) (entry now : List FetcherState) (at : ℕ) (notes : Notes) (answer : SourceAnswer) → IsTurn digest own entry now at notes → length now ≤ at → answer ≡ lack_by notes digest → IsSearch digest own entry now (Err answer)
turn_ends digest own entry now at notes answer t end lack =
    let size : length (t.kept ++ t.rest) ≡ length now = ap length t.now_is in
    let place : length t.kept ≡ at = t.place in
    let none : t.rest ≡ [] = no_rest t.kept t.rest (omega arith) in
    let last : IsSearch digest t.seen t.rest t.rest (Err (lack_by (notes_of t.seen) digest)) = subst (λ r. IsSearch digest t.seen r r (Err (lack_by (notes_of t.seen) digest))) (sym none) (search_ends digest t.seen t.no_right) in
    let all = t.whole t.rest (Err (lack_by (notes_of t.seen) digest)) last in
    let same : answer ≡ lack_by (notes_of t.seen) digest = lack ∙ ap (λ n. lack_by n digest) t.notes_are in
    subst (λ n. IsSearch digest own entry n (Err answer)) t.now_is
    (subst (λ a. IsSearch digest own entry (t.kept ++ t.rest) (Err a)) (sym same) all)

pub turn_stops : (digest : List ℕ) (own : List Verdict) (entry now : List FetcherState) (at : ℕ) (notes : Notes) (result : Result (List ℕ) SourceAnswer) → IsTurn digest own entry now at notes → IsErrAnd result (λ e. e ≡ NoMemory) → IsSearch digest own entry now result
turn_stops digest own entry now at notes result t h =
    subst (λ r. IsSearch digest own entry now r) (sym (for_memory result h))
    (subst (λ n. IsSearch digest own entry n (Err NoMemory)) t.now_is (t.whole t.rest (Err NoMemory) (search_stops digest t.seen t.rest)))

-- ---- one turn, at a fetcher `first`

module _ (digest : List ℕ) (own : List Verdict) (entry : List FetcherState) where
  abbrev Whole : List Verdict → List FetcherState → List FetcherState → Type 0
  Whole seen kept rest = (after : List FetcherState) (result : Result (List ℕ) SourceAnswer) → IsSearch digest seen rest after result → IsSearch digest own entry (kept ++ after) result

  -- it was taken out
  turn_out : (seen : List Verdict) (kept rest : List FetcherState) (first is : FetcherState) (answer : Result Fetched ReadStop) → IsFetch digest first is answer → is_gone_answer answer ≡ true → Whole seen kept (first ∷ rest) → Whole seen kept rest
  turn_out seen kept rest first is answer fetch gone whole after result s =
      let was_gone = gone_of_answer digest first is answer fetch gone in
      whole after result (search_out digest seen (called digest first is answer true) rest after result (IsTry-called digest first is answer true fetch (λ h. was_gone)) refl was_gone s)

  -- it hadn't the item
  turn_on : (seen : List Verdict) (kept rest : List FetcherState) (first is : FetcherState) (answer : Result Fetched ReadStop) (reply : Reply) → IsLive digest first is answer reply → is_right (verdict digest (called digest first is answer false)) ≡ false → Whole seen kept (first ∷ rest) → Whole (seen ++ verdict digest (called digest first is answer false) ∷ []) (kept ++ is ∷ []) rest
  turn_on seen kept rest first is answer reply live unlike whole after result s =
      subst (λ n. IsSearch digest own entry n result) (sym (append_assoc kept (is ∷ []) after))
      (whole (is ∷ after) result (search_on digest seen (called digest first is answer false) rest after result live.is_try refl live.live unlike s))

  right_or_not : (reply : Reply) (v : Verdict) → verdict_of reply ≡ Some v → ((bytes : List ℕ) → reply ≡ Right bytes → ⊥) → is_right v ≡ false
  right_or_not Gone v h n = cc
  right_or_not Failed v h n = let e : failed ≡ v = cc in sym (ap is_right e)
  right_or_not Absent v h n = let e : absent ≡ v = cc in sym (ap is_right e)
  right_or_not TooLarge v h n = let e : too_large ≡ v = cc in sym (ap is_right e)
  right_or_not Wrong v h n = let e : wrong ≡ v = cc in sym (ap is_right e)
  right_or_not (Right bytes) v h n = absurd (n bytes refl)

  moved_one : (reply : Reply) (v : Verdict) → verdict_of reply ≡ Some v → moved reply ≡ 1
  moved_one Gone v h = cc
  moved_one Failed v h = refl
  moved_one Absent v h = refl
  moved_one TooLarge v h = refl
  moved_one Wrong v h = refl
  moved_one (Right bytes) v h = refl

  turn_gone : (now : List FetcherState) (at : ℕ) (notes : Notes) (seen : List Verdict) (kept rest : List FetcherState) (first is : FetcherState) (answer : Result Fetched ReadStop) (reply : Reply) → length kept ≡ at → notes ≡ notes_of seen → first_right seen ≡ None → Whole seen kept (first ∷ rest) → IsFetch digest first is answer → is_gone_answer answer ≡ true → IsReply digest answer reply → kept ++ rest ≡ now → IsTurn digest own entry now (at + moved reply) (with_reply notes reply)
  turn_gone now at notes seen kept rest first is answer reply place notes_are none whole fetch gone r now_is =
      let e : reply ≡ Gone = IsReply-gone digest answer reply gone r in
      record {
        seen = seen;
        kept = kept;
        rest = rest;
        now_is = now_is;
        place = (let m : moved reply ≡ 0 = ap moved e in omega arith);
        notes_are = ap (with_reply notes) e ∙ notes_are;
        no_right = none;
        whole = turn_out seen kept rest first is answer fetch gone whole;
      }

  turn_live : (now : List FetcherState) (at : ℕ) (notes : Notes) (seen : List Verdict) (kept rest : List FetcherState) (first is : FetcherState) (answer : Result Fetched ReadStop) (reply : Reply) → length kept ≡ at → notes ≡ notes_of seen → first_right seen ≡ None → Whole seen kept (first ∷ rest) → IsFetch digest first is answer → is_gone_answer answer ≡ false → IsReply digest answer reply → ((bytes : List ℕ) → reply ≡ Right bytes → ⊥) → kept ++ is ∷ rest ≡ now → IsTurn digest own entry now (at + moved reply) (with_reply notes reply)
  turn_live now at notes seen kept rest first is answer reply place notes_are none whole fetch stays r unlike now_is =
      let live = IsLive-called digest first is answer reply fetch stays r in
      let v = verdict digest (called digest first is answer false) in
      let not_right : is_right v ≡ false = right_or_not reply v live.heard unlike in
      record {
        seen = seen ++ v ∷ [];
        kept = kept ++ is ∷ [];
        rest = rest;
        now_is = append_assoc kept (is ∷ []) rest ∙ now_is;
        place = (let m : moved reply ≡ 1 = moved_one reply v live.heard in let size : length (kept ++ is ∷ []) ≡ length kept + 1 = length-append kept (is ∷ []) in omega arith);
        notes_are = ap (λ n. with_reply n reply) notes_are ∙ notes-heard seen reply v live.heard;
        no_right = first_right-more seen v none not_right;
        whole = turn_on seen kept rest first is answer reply live not_right whole;
      }

  turn_found : (now : List FetcherState) (seen : List Verdict) (kept rest : List FetcherState) (first is : FetcherState) (answer : Result Fetched ReadStop) (bytes : List ℕ) → first_right seen ≡ None → Whole seen kept (first ∷ rest) → IsFetch digest first is answer → is_gone_answer answer ≡ false → IsReply digest answer (Right bytes) → kept ++ is ∷ rest ≡ now → IsSearch digest own entry now (Ok bytes)
  turn_found now seen kept rest first is answer bytes none whole fetch stays r now_is =
      let live = IsLive-called digest first is answer (Right bytes) fetch stays r in
      let found : verdict digest (called digest first is answer false) ≡ right bytes = let h = live.heard in cc in
      subst (λ n. IsSearch digest own entry n (Ok bytes)) now_is
      (whole (is ∷ rest) (Ok bytes) (search_found digest seen (called digest first is answer false) rest bytes live.is_try refl live.live found none))

  turn_halted : (now : List FetcherState) (seen : List Verdict) (kept rest : List FetcherState) (first is : FetcherState) (answer : Result Fetched ReadStop) (gone : Bool) → is_gone_answer answer ≡ gone → Whole seen kept (first ∷ rest) → IsFetch digest first is answer → now ≡ kept ++ (if gone then rest else is ∷ rest) → IsSearch digest own entry now (Err NoMemory)
  turn_halted now seen kept rest first is answer true e whole fetch now_is =
      subst (λ n. IsSearch digest own entry n (Err NoMemory)) (sym now_is)
      (turn_out seen kept rest first is answer fetch e whole rest (Err NoMemory) (search_stops digest seen rest))
  turn_halted now seen kept rest first is answer false e whole fetch now_is =
      subst (λ n. IsSearch digest own entry n (Err NoMemory)) (sym now_is)
      (whole (is ∷ rest) (Err NoMemory) (search_stopped digest seen (called digest first is answer false) rest (IsTry-called digest first is answer false fetch (λ h. cc)) refl))

  turn_by : (now : List FetcherState) (at : ℕ) (notes : Notes) (seen : List Verdict) (kept rest : List FetcherState) (first is : FetcherState) (answer : Result Fetched ReadStop) (reply : Reply) (gone : Bool) → is_gone_answer answer ≡ gone → length kept ≡ at → notes ≡ notes_of seen → first_right seen ≡ None → Whole seen kept (first ∷ rest) → IsFetch digest first is answer → IsReply digest answer reply → ((bytes : List ℕ) → reply ≡ Right bytes → ⊥) → now ≡ kept ++ (if gone then rest else is ∷ rest) → IsTurn digest own entry now (at + moved reply) (with_reply notes reply)
  turn_by now at notes seen kept rest first is answer reply true e place notes_are none whole fetch r unlike now_is =
      turn_gone now at notes seen kept rest first is answer reply place notes_are none whole fetch e r (sym now_is)
  turn_by now at notes seen kept rest first is answer reply false e place notes_are none whole fetch r unlike now_is =
      turn_live now at notes seen kept rest first is answer reply place notes_are none whole fetch e r unlike (sym now_is)

  found_by : (now : List FetcherState) (seen : List Verdict) (kept rest : List FetcherState) (first is : FetcherState) (answer : Result Fetched ReadStop) (bytes : List ℕ) (gone : Bool) → is_gone_answer answer ≡ gone → first_right seen ≡ None → Whole seen kept (first ∷ rest) → IsFetch digest first is answer → IsReply digest answer (Right bytes) → now ≡ kept ++ (if gone then rest else is ∷ rest) → IsSearch digest own entry now (Ok bytes)
  found_by now seen kept rest first is answer bytes true e none whole fetch r now_is = absurd (let h : Right bytes ≡ Gone = IsReply-gone digest answer (Right bytes) e r in cc)
  found_by now seen kept rest first is answer bytes false e none whole fetch r now_is = turn_found now seen kept rest first is answer bytes none whole fetch e r (sym now_is)

-- ---- the turn, with the list split at the place

-- what a turn is given, with its list split
split : (digest : List ℕ) (kept rest : List FetcherState) (first : FetcherState) (at : ℕ) (now next : List FetcherState) (result : Result Reply AllocError) → kept ++ first ∷ rest ≡ now → length kept ≡ at → IsAsk digest at now next result → IsAskAt digest kept rest first next result
split digest kept rest first at now next result now_is place ask =
    IsAskAt-from_IsAsk digest kept rest first at next result place (subst (λ n. IsAsk digest at n next result) (sym now_is) ask)

module _ (digest : List ℕ) (own : List Verdict) (entry now next : List FetcherState) (at : ℕ) (notes : Notes) where
  past : {A : Type 0} (kept : List FetcherState) → kept ++ [] ≡ now → length kept ≡ at → at < length now → A
  past kept e place within = absurd (let size : length kept ≡ length now = ap length (sym (append-nil kept) ∙ e) in omega arith)

  next_with : (reply : Reply) (seen : List Verdict) (kept rest : List FetcherState) → kept ++ rest ≡ now → length kept ≡ at → notes ≡ notes_of seen → first_right seen ≡ None → Whole digest own entry seen kept rest → at < length now → IsAsk digest at now next (Ok reply) → ((bytes : List ℕ) → reply ≡ Right bytes → ⊥) → IsTurn digest own entry next (at + moved reply) (with_reply notes reply)
  next_with reply seen kept [] e place notes_are none whole within ask unlike = past kept e place within
  next_with reply seen kept (first ∷ rest) e place notes_are none whole within ask unlike =
      let s = split digest kept rest first at now next (Ok reply) e place ask in
      turn_by digest own entry next at notes seen kept rest first s.is s.answer reply (is_gone_answer s.answer) refl place notes_are none whole s.fetch s.reply unlike s.now_is

  pub turn_next : (reply : Reply) (place : ℕ) (noted : Notes) → IsTurn digest own entry now at notes → at < length now → IsAsk digest at now next (Ok reply) → ((bytes : List ℕ) → reply ≡ Right bytes → ⊥) → place ≡ at + moved reply → noted ≡ with_reply notes reply → IsTurn digest own entry next place noted
  turn_next reply place noted t within ask unlike e f =
      subst (λ p. IsTurn digest own entry next p noted) (sym e)
      (subst (λ n. IsTurn digest own entry next (at + moved reply) n) (sym f)
      (next_with reply t.seen t.kept t.rest t.now_is t.place t.notes_are t.no_right t.whole within ask unlike))

  found_with : (bytes : List ℕ) (seen : List Verdict) (kept rest : List FetcherState) → kept ++ rest ≡ now → length kept ≡ at → first_right seen ≡ None → Whole digest own entry seen kept rest → at < length now → IsAsk digest at now next (Ok (Right bytes)) → IsSearch digest own entry next (Ok bytes)
  found_with bytes seen kept [] e place none whole within ask = past kept e place within
  found_with bytes seen kept (first ∷ rest) e place none whole within ask =
      let s = split digest kept rest first at now next (Ok (Right bytes)) e place ask in
      found_by digest own entry next seen kept rest first s.is s.answer bytes (is_gone_answer s.answer) refl none whole s.fetch s.reply s.now_is

  pub turn_finds : (bytes : List ℕ) → IsTurn digest own entry now at notes → at < length now → IsAsk digest at now next (Ok (Right bytes)) → IsSearch digest own entry next (Ok bytes)
  turn_finds bytes t within ask = found_with bytes t.seen t.kept t.rest t.now_is t.place t.no_right t.whole within ask

  halts_with : (error : AllocError) (seen : List Verdict) (kept rest : List FetcherState) → kept ++ rest ≡ now → length kept ≡ at → Whole digest own entry seen kept rest → at < length now → IsAsk digest at now next (Err error) → IsSearch digest own entry next (Err NoMemory)
  halts_with error seen kept [] e place whole within ask = past kept e place within
  halts_with error seen kept (first ∷ rest) e place whole within ask =
      let s = split digest kept rest first at now next (Err error) e place ask in
      turn_halted digest own entry next seen kept rest first s.is s.answer (is_gone_answer s.answer) refl whole s.fetch s.now_is

  pub turn_halts : (error : AllocError) (result : Result (List ℕ) SourceAnswer) → IsTurn digest own entry now at notes → at < length now → IsAsk digest at now next (Err error) → IsErrAnd result (λ e. e ≡ NoMemory) → IsSearch digest own entry next result
  turn_halts error result t within ask h =
      subst (λ r. IsSearch digest own entry next r) (sym (for_memory result h)) (halts_with error t.seen t.kept t.rest t.now_is t.place t.whole within ask)
