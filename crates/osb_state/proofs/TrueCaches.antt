-- In a true state the script's actions keep entries and drafts what their keys mean.
use Rattle.std.proofs.Common.{◌≡◌, ℕ, ◌+◌, ◌-◌, ◌<◌, true, List, [], ◌∷◌, ◌++◌, length, map, take, All, find, Option, Some, None, refl, sym, ap, subst, ◌∙◌, arith}
use Rattle.std.specs.Prelude.{slice_get, is_some}
use Rattle.std.specs.Option.{option_to_list}
use Rattle.std.proofs.lemmas.Bool.{false≢true}
use Rattle.std.proofs.lemmas.List.{length-append, take_all, take_more}
use Rattle.std.proofs.lemmas.List.Elements.{All-append, All-nil, All-push}
use Rattle.std.proofs.lemmas.Option.{slice_get_within, get_or_from_slice_get}
use Rattle.osb_tree.specs.Trees.{Listing}
use Rattle.osb_tree.specs.Chunks.{chunks_of}
use Rattle.osb_tree.specs.declared.numbers.Key.{Key}
use Rattle.osb_tree.specs.declared.numbers.WorkerNo.{WorkerNo}
use Rattle.osb_recipe.specs.Meanings.{meaning}
use Rattle.osb_recipe.specs.declared.plans.Plan.{Plan}
use Rattle.osb_cache.specs.Caches.{CacheState, Line, Draft, has_key, is_draft, touched, touch, look_reply, after_look, unpinned, counted, reserve_reply, after_reserve, new_draft, with_chunk, line_of_draft}
use Rattle.osb_cache.specs.Edits.{remove_first}
use Rattle.osb_cache.specs.declared.answers.Look.{Look}
use Rattle.osb_cache.specs.declared.answers.Look.TheVariants as looks
use Rattle.osb_cache.specs.declared.answers.Reserve.{Reserve}
use Rattle.osb_cache.specs.declared.answers.Reserve.TheVariants as reserves
use Rattle.osb_cache.proofs.Evicts.{All-evict}
use Rattle.osb_cache.proofs.Lists.{All-remove_first, All-update_first, All-found, All-changed}
use Rattle.osb_cache.proofs.Sums.{found_or_none}
use Rattle.osb_job.specs.declared.actions.Action.{Action}
use Rattle.osb_job.specs.declared.actions.Action.TheVariants as actions
use Rattle.osb_job.specs.Scripts.{Hand, fills, chunks_meant}
use Rattle.osb_job.specs.Allowed.{MayCommit}
use Rattle.osb_job.proofs.AgreeingRuns.{chunks_are}
use Rattle.osb_state.specs.States.{State, progress_in, hand_of, draft_for, part, Allows, marked_in, cache_after, marked_for}
use Rattle.osb_state.specs.Truth.{AreMeant, IsMeantDraft, IsTrueState}
use Rattle.osb_state.proofs.OtherParts.{busy_hand}
use Rattle.osb_state.proofs.TrueOpenings.{IsMeantLine}
use Rattle.osb_state.proofs.Said.{SaysReserve, SaysPut, Says}
use Rattle.osb_state.proofs.TrueParts.{size_is, has_draft, named}

-- ---- entries

lines_touched : (plan : Plan) (clock worker key : ℕ) (lines : List (Line Listing)) → All (IsMeantLine plan) lines → All (IsMeantLine plan) (touch clock worker key lines)
lines_touched plan clock worker key lines all =
    let P : Line Listing → Type 0 = IsMeantLine plan in
    let rest : List (Line Listing) = remove_first (has_key key) lines in
    let left : All P rest = All-remove_first P (has_key key) lines all in
    let Q : Option (Line Listing) → Type 0 = λ o. All P (rest ++ map (touched clock worker) (option_to_list o)) in
    found_or_none (find (has_key key) lines) (Q (find (has_key key) lines))
    (λ e. subst Q (sym e) (All-append P rest [] left (All-nil P)))
    (λ line e. subst Q (sym e) (All-push P rest (touched clock worker line) left (All-found P (has_key key) lines line e all)))

lines_looked : (plan : Plan) (cache : CacheState Listing) (worker : ℕ) (look : Look) → All (IsMeantLine plan) cache.lines → All (IsMeantLine plan) (after_look cache worker look).lines
lines_looked plan cache worker (looks.Hit place key count) all = lines_touched plan (cache.clock + 1) worker key.0 cache.lines all
lines_looked plan cache worker looks.Miss all = all

lines_reserved : (plan : Plan) (cache : CacheState Listing) (worker key size count : ℕ) (reserve : Reserve) → All (IsMeantLine plan) cache.lines → All (IsMeantLine plan) (after_reserve cache worker key size count reserve).lines
lines_reserved plan cache worker key size count (reserves.Room evicted) all = All-evict (IsMeantLine plan) (counted cache + size - cache.limit) cache.lines all
lines_reserved plan cache worker key size count reserves.Already all = all
lines_reserved plan cache worker key size count reserves.TooLarge all = all
lines_reserved plan cache worker key size count reserves.Full all = all

-- a whole draft is all chunks of what its key means
whole_meant : (plan : Plan) (draft : Draft Listing) → length draft.chunks ≡ draft.count → IsMeantDraft plan draft → AreMeant plan draft.key draft.chunks
whole_meant plan draft full meant =
    let all : List Listing = chunks_of meant.tree in
    record {
      tree = meant.tree;
      means = meant.means;
      all = meant.chunks_are ∙ ap (λ (n : ℕ). take n all) (full ∙ meant.count_is) ∙ take_all (length all) all (omega arith);
    }

lines_committed : (plan : Plan) (state : State) (worker : WorkerNo) (key : Key) → IsTrueState plan state → MayCommit (part state worker) key → All (IsMeantLine plan) (cache_after state.cache [] worker (actions.Commit key)).lines
lines_committed plan state worker key s may =
    let P : Line Listing → Type 0 = IsMeantLine plan in
    let clock : ℕ = state.cache.clock + 1 in
    let hand = busy_hand (part state worker) may.filling.task (fills key may.filling.count) may.filling.busy in
    let found : find (is_draft worker.0 key.0) state.cache.drafts ≡ Some may.draft = sym (ap (λ (h : Hand). draft_for worker h state.cache.drafts) hand) ∙ may.own in
    let meant : IsMeantDraft plan may.draft = All-found (IsMeantDraft plan) (is_draft worker.0 key.0) state.cache.drafts may.draft found s.drafts in
    let Q : Option (Draft Listing) → Type 0 = λ o. All P (state.cache.lines ++ map (line_of_draft clock) (option_to_list o)) in
    subst Q (sym found) (All-push P state.cache.lines (line_of_draft clock may.draft) s.entries (whole_meant plan may.draft may.whole.full meant))

pub lines_stay : (plan : Plan) (state : State) (worker : WorkerNo) (action : Action) → IsTrueState plan state → Allows state worker action → All (IsMeantLine plan) (cache_after state.cache (marked_for state action) worker action).lines
lines_stay plan state worker actions.Claim s can = s.entries
lines_stay plan state worker (actions.Fetch dep) s can = s.entries
lines_stay plan state worker (actions.Look task) s can = lines_looked plan state.cache worker.0 (look_reply state.cache (marked_in state task)) s.entries
lines_stay plan state worker (actions.Read key place) s can = s.entries
lines_stay plan state worker (actions.Unpin key) s can = All-update_first (IsMeantLine plan) (has_key key.0) (unpinned worker.0) (λ line meant. meant) state.cache.lines s.entries
lines_stay plan state worker (actions.Reserve key size count) s can = lines_reserved plan state.cache worker.0 key.0 size count (reserve_reply state.cache key.0 size) s.entries
lines_stay plan state worker (actions.Put key chunk) s can = s.entries
lines_stay plan state worker (actions.Commit key) s can = lines_committed plan state worker key s can
lines_stay plan state worker (actions.Drop key) s can = s.entries
lines_stay plan state worker (actions.Done task outcome) s can = s.entries

-- ---- drafts

some_tree : (means : Option Listing) → is_some means ≡ true → (tree : Listing) × (means ≡ Some tree)
some_tree None there = absurd (false≢true there)
some_tree (Some tree) there = (tree, refl)

new_meant : (plan : Plan) (worker : WorkerNo) (key : Key) (size count : ℕ) → SaysReserve plan key size count → IsMeantDraft plan (new_draft worker.0 key.0 size count)
new_meant plan worker key size count said =
    let there = some_tree (meaning plan.table key) said.has_tree in
    record {
      tree = there.0;
      means = there.1;
      size_is = said.size_is ∙ sym (size_is plan key there.0 there.1);
      count_is = said.count_is ∙ ap length (chunks_are plan key there.0 there.1);
      chunks_are = refl;
    }

drafts_reserved : (plan : Plan) (cache : CacheState Listing) (worker : WorkerNo) (key : Key) (size count : ℕ) (reserve : Reserve) → SaysReserve plan key size count → All (IsMeantDraft plan) cache.drafts → All (IsMeantDraft plan) (after_reserve cache worker.0 key.0 size count reserve).drafts
drafts_reserved plan cache worker key size count (reserves.Room evicted) said all = All-push (IsMeantDraft plan) cache.drafts (new_draft worker.0 key.0 size count) all (new_meant plan worker key size count said)
drafts_reserved plan cache worker key size count reserves.Already said all = all
drafts_reserved plan cache worker key size count reserves.TooLarge said all = all
drafts_reserved plan cache worker key size count reserves.Full said all = all

-- the first ones of some chunks, and the next
one_more : (front all : List Listing) (chunk : Listing) → front ≡ take (length front) all → slice_get all (length front) ≡ Some chunk → front ++ chunk ∷ [] ≡ take (length (front ++ chunk ∷ [])) all
one_more front all chunk is there =
    let n : ℕ = length front in
    let within : n < length all = slice_get_within all n chunk there in
    let long : length (front ++ chunk ∷ []) ≡ n + 1 = length-append front (chunk ∷ []) in
    ap (λ (xs : List Listing). xs ++ chunk ∷ []) is
    ∙ ap (λ (c : Listing). take n all ++ c ∷ []) (sym (get_or_from_slice_get all n chunk [] there))
    ∙ sym (take_more all n [] within)
    ∙ ap (λ (m : ℕ). take m all) (sym long)

drafts_put : (plan : Plan) (state : State) (worker : WorkerNo) (key : Key) (chunk : Listing) → IsTrueState plan state → SaysPut plan (progress_in state worker) key chunk → All (IsMeantDraft plan) (cache_after state.cache [] worker (actions.Put key chunk)).drafts
drafts_put plan state worker key chunk s said =
    let own = has_draft state worker key said.count s.valid (ap hand_of said.at ∙ said.hand_is) in
    let draft : Draft Listing = own.draft in
    let meant : IsMeantDraft plan draft = All-found (IsMeantDraft plan) (is_draft worker.0 key.0) state.cache.drafts draft own.found s.drafts in
    let all : List Listing = chunks_of meant.tree in
    let same : all ≡ chunks_meant plan key = sym (chunks_are plan key meant.tree (named plan draft.key key meant.tree own.key_is meant.means)) in
    let there : slice_get all (length draft.chunks) ≡ Some chunk = ap (λ (xs : List Listing). slice_get xs (length draft.chunks)) same ∙ ap (slice_get (chunks_meant plan key)) own.count_is ∙ said.next_is in
    All-changed (IsMeantDraft plan) (is_draft worker.0 key.0) (with_chunk chunk) state.cache.drafts draft own.found
    (record { tree = meant.tree; means = meant.means; size_is = meant.size_is; count_is = meant.count_is; chunks_are = one_more draft.chunks all chunk meant.chunks_are there })
    s.drafts

pub drafts_stay : (plan : Plan) (state : State) (worker : WorkerNo) (action : Action) → IsTrueState plan state → Says plan (progress_in state worker) action → All (IsMeantDraft plan) (cache_after state.cache (marked_for state action) worker action).drafts
drafts_stay plan state worker actions.Claim s said = s.drafts
drafts_stay plan state worker (actions.Fetch dep) s said = s.drafts
drafts_stay plan state worker (actions.Look task) s said = looked (look_reply state.cache (marked_in state task))
  where
    looked : (look : Look) → All (IsMeantDraft plan) (after_look state.cache worker.0 look).drafts
    looked (looks.Hit place key count) = s.drafts
    looked looks.Miss = s.drafts
drafts_stay plan state worker (actions.Read key place) s said = s.drafts
drafts_stay plan state worker (actions.Unpin key) s said = s.drafts
drafts_stay plan state worker (actions.Reserve key size count) s said = drafts_reserved plan state.cache worker key size count (reserve_reply state.cache key.0 size) said s.drafts
drafts_stay plan state worker (actions.Put key chunk) s said = drafts_put plan state worker key chunk s said
drafts_stay plan state worker (actions.Commit key) s said = All-remove_first (IsMeantDraft plan) (is_draft worker.0 key.0) state.cache.drafts s.drafts
drafts_stay plan state worker (actions.Drop key) s said = All-remove_first (IsMeantDraft plan) (is_draft worker.0 key.0) state.cache.drafts s.drafts
drafts_stay plan state worker (actions.Done task outcome) s said = s.drafts
