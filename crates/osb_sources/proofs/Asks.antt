-- One fetcher of a list is asked.
use Rattle.std.proofs.Common.{◌≡◌, ℕ, suc, ◌<◌, ◌≤◌, ◌-◌, Bool, true, false, List, ◌∷◌, ◌++◌, map, length, take, drop, set, get_or, Result, Ok, IfOk, if◌then◌else◌, refl, sym, ap, ap₂, ◌∙◌, subst, arith, drop-set-lt}
use Rattle.std.specs.List.{remove}
use Rattle.std.specs.declared.alloc.AllocError.{AllocError}
use Rattle.std.proofs.lemmas.Bool.{cond-true, cond-false}
use Rattle.std.proofs.lemmas.List.{length-map, take-set, take-map, drop-map, map-append, map-set, get_or_at, set_at}
use Rattle.std.proofs.lemmas.List.Edits.{remove-append_right}
use Rattle.std.proofs.Math.ListN.{get_or-map}
use Rattle.osb_base.specs.declared.faults.ReadStop.{ReadStop}
use Rattle.osb_base.specs.declared.fetchers.Fetched.{Fetched}
use Rattle.osb_base.specs.Fetchers.{FetcherState, IsFetch}
use Rattle.osb_sources.specs.declared.replies.Reply.{Reply}
use Rattle.osb_sources.specs.declared.replies.Reply.TheVariants.{Gone}
use Rattle.osb_sources.specs.Replies.{IsAsk, IsReply, is_gone_answer}
use Rattle.osb_sources.proofs.Tries.{is_gone_answer-is}

-- ---- the list of what is seen of each

module _ {X : Type 0} where
  remove-set : (xs : List X) (i : ℕ) (y : X) → remove (set xs i y) i ≡ remove xs i
  remove-set xs i y = let h : i < suc i = omega arith in ap₂ (λ a b. a ++ b) (take-set xs i y) (drop-set-lt (suc i) xs i y h)

  map-remove : (m : X → FetcherState) (xs : List X) (i : ℕ) → map m (remove xs i) ≡ remove (map m xs) i
  map-remove m xs i = map-append m (take i xs) (drop (suc i) xs) ∙ ap₂ (λ a b. a ++ b) (sym (take-map m i xs)) (sym (drop-map m (suc i) xs))

  seen_at : (m : X → FetcherState) (xs : List X) (i : ℕ) (x : X) → x ≡ get_or xs i x → get_or (map m xs) i (m x) ≡ m x
  seen_at m xs i x e = get_or-map m xs i x ∙ sym (ap m e)

  -- it was taken out
  pub ask_gone : (m : X → FetcherState) (digest : List ℕ) (at : ℕ) (xs mid after : List X) (x y : X) (answer : Result Fetched ReadStop) → x ≡ get_or xs at x → mid ≡ set xs at y → after ≡ remove mid at → IsFetch digest (m x) (m y) answer → is_gone_answer answer ≡ true → IsAsk digest at (map m xs) (map m after) (Ok Gone)
  ask_gone m digest at xs mid after x y answer e write taken fetch gone = record {
    answer = answer;
    was = m x;
    is = m y;
    fetch = fetch;
    was_at = seen_at m xs at x e;
    now_is = ap (map m) (taken ∙ ap (λ l. remove l at) write ∙ remove-set xs at y) ∙ map-remove m xs at ∙ sym (cond-true (is_gone_answer answer) _ _ gone);
    reply = reply_gone digest answer gone;
  } where
    reply_gone : (digest : List ℕ) (answer : Result Fetched ReadStop) → is_gone_answer answer ≡ true → IsReply digest answer Gone
    reply_gone digest answer gone = subst (λ a. IsReply digest a Gone) (sym (is_gone_answer-is answer gone)) refl

  -- it stays
  pub ask_stays : (m : X → FetcherState) (digest : List ℕ) (at : ℕ) (xs after : List X) (x y : X) (answer : Result Fetched ReadStop) (result : Result Reply AllocError) → x ≡ get_or xs at x → after ≡ set xs at y → IsFetch digest (m x) (m y) answer → is_gone_answer answer ≡ false → IfOk result (IsReply digest answer) → IsAsk digest at (map m xs) (map m after) result
  ask_stays m digest at xs after x y answer result e write fetch live reply = record {
    answer = answer;
    was = m x;
    is = m y;
    fetch = fetch;
    was_at = seen_at m xs at x e;
    now_is = ap (map m) write ∙ map-set m xs at y ∙ sym (cond-false (is_gone_answer answer) _ _ live);
    reply = reply;
  }

-- ---- the list as what stands before it, it, and what stands after it

pub record IsAskAt (digest : List ℕ) (kept rest : List FetcherState) (was : FetcherState) (now : List FetcherState) (result : Result Reply AllocError) : Type 0 where
  pub answer : Result Fetched ReadStop
  pub is : FetcherState
  pub fetch : IsFetch digest was is answer
  pub now_is : now ≡ kept ++ (if is_gone_answer answer then rest else is ∷ rest)
  pub reply : IfOk result (IsReply digest answer)

module _ (kept rest : List FetcherState) (was is : FetcherState) where
  remove_at : (at : ℕ) → length kept ≡ at → remove (kept ++ was ∷ rest) at ≡ kept ++ rest
  remove_at at h =
      let zero_left : at - at ≡ 0 = omega arith in
      remove-append_right kept (was ∷ rest) at at h (omega arith) ∙ ap (λ n. kept ++ remove (was ∷ rest) n) zero_left

  now_at : (gone : Bool) (at : ℕ) → length kept ≡ at → (if gone then remove (kept ++ was ∷ rest) at else set (kept ++ was ∷ rest) at is) ≡ kept ++ (if gone then rest else is ∷ rest)
  now_at true at h = remove_at at h
  now_at false at h = set_at kept was rest is at h

pub IsAskAt-from_IsAsk : (digest : List ℕ) (kept rest : List FetcherState) (first : FetcherState) (at : ℕ) (now : List FetcherState) (result : Result Reply AllocError) → length kept ≡ at → IsAsk digest at (kept ++ first ∷ rest) now result → IsAskAt digest kept rest first now result
IsAskAt-from_IsAsk digest kept rest first at now result h a = record {
  answer = a.answer;
  is = a.is;
  fetch = subst (λ w. IsFetch digest w a.is a.answer) (sym a.was_at ∙ get_or_at kept first rest a.was at h) a.fetch;
  now_is = a.now_is ∙ now_at kept rest first a.is (is_gone_answer a.answer) at h;
  reply = a.reply;
}

-- ---- how many are seen

pub seen_within : {X : Type 0} (m : X → FetcherState) (xs : List X) (at : ℕ) → at < length xs → at < length (map m xs)
seen_within m xs at h = rw (length-map xs m) h

pub seen_past : {X : Type 0} (m : X → FetcherState) (xs : List X) (at : ℕ) → length xs ≤ at → length (map m xs) ≤ at
seen_past m xs at h = rw (length-map xs m) h
