-- An action changes the own part of its worker as a job expects.
use Rattle.std.proofs.Common.{◌≡◌, ◌==◌, ◌&&◌, ℕ, ◌+◌, ◌<◌, Bool, true, false, cond, List, [], ◌∷◌, ◌++◌, length, find, position, slice_get, Option, Some, None, refl, sym, ap, subst, ◌∙◌, arith}
use Rattle.std.specs.Option.{option_map, option_map_or, option_and_then}
use Rattle.std.specs.List.{slice_index_or}
use Rattle.std.proofs.lemmas.Bool.{cond-true, eq-eqb, and_from}
use Rattle.std.proofs.lemmas.List.Sums.{fold_push}
use Rattle.std.proofs.lemmas.Option.{none-some, same_Some, slice_get-get_or}
use Rattle.osb_tree.specs.Trees.{Listing, tree_size}
use Rattle.osb_tree.specs.declared.numbers.Key.{Key}
use Rattle.osb_tree.specs.declared.numbers.TaskNo.{TaskNo}
use Rattle.osb_tree.specs.declared.numbers.WorkerNo.{WorkerNo}
use Rattle.osb_board.specs.Boards.{claim_of}
use Rattle.osb_board.specs.declared.tasks.Claim.{Claim}
use Rattle.osb_board.specs.declared.tasks.Claim.TheVariants as claims
use Rattle.osb_cache.specs.declared.answers.Look.{Look}
use Rattle.osb_cache.specs.declared.answers.Look.TheVariants as looks
use Rattle.osb_cache.specs.declared.answers.Reserve.{Reserve}
use Rattle.osb_cache.specs.declared.answers.Reserve.TheVariants as reserves
use Rattle.osb_cache.specs.Caches.{CacheState, Line, Draft, has_key, is_draft, is_committed, is_taken, chunks_at, pins_on, look_at, key_at, look_reply, after_look, after_reserve, reserve_reply, new_draft, with_chunk, after_put, IsSound}
use Rattle.osb_cache.specs.Laws.{own as pin_of}
use Rattle.osb_cache.proofs.Finds.{find-update_same}
use Rattle.osb_cache.proofs.Stays.{pins-look, chunks-look, drafts-reserved}
use Rattle.osb_job.specs.declared.actions.Action.{Action}
use Rattle.osb_job.specs.declared.actions.Action.TheVariants as actions
use Rattle.osb_job.specs.declared.actions.Reply.TheVariants as replies
use Rattle.osb_job.specs.declared.entries.Entry.{Entry}
use Rattle.osb_job.specs.declared.entries.Event.{Event}
use Rattle.osb_job.specs.declared.entries.Event.TheVariants as events
use Rattle.osb_job.specs.Scripts.{Hand, free, reads, fills, one_more, Block, Progress, idle, busy, turn, progress_of, word_of}
use Rattle.osb_job.specs.Allowed.{Part, IsBusy}
use Rattle.osb_job.specs.Moves.{look_event, reserve_event, event_of, puts_of, HoldsOn, Pins, Reads, Unpins, Stages, Holds}
use Rattle.osb_state.specs.States.{State, own, progress_in, hand_of, draft_for, chunks_for, part, Allows, gives, marked_in, after}
use Rattle.osb_state.specs.Kept.{Valid}
use Rattle.osb_state.specs.Laws.{OwnMoves}
use Rattle.osb_state.proofs.Entries.{entries, own-same}
use Rattle.osb_state.proofs.Boards.{deps_stay}
use Rattle.osb_state.proofs.OtherParts.{busy_hand, pinned_chunks}

-- what a part has of a cache, by what its worker has in hand
record Held (worker : WorkerNo) (cache : CacheState Listing) (hand : Hand) (part : Part) : Type 0 where
  draft : part.draft ≡ draft_for worker hand cache.drafts
  chunks : part.chunks ≡ chunks_for hand cache.lines

-- ---- what is held, by what was in hand and is now

holds_on : {worker : WorkerNo} {cache : CacheState Listing} {hand : Hand} {before now : Part} → Held worker cache hand before → Held worker cache hand now → HoldsOn before now
holds_on was is = record { draft = is.draft ∙ sym was.draft; chunks = is.chunks ∙ sym was.chunks }

-- nothing is in hand before or now
holds_none : {worker : WorkerNo} {cache : CacheState Listing} {hand : Hand} {before now : Part} → hand ≡ free → Held worker cache free before → Held worker cache hand now → HoldsOn before now
holds_none {worker} {cache} {hand} {before} {now} e was is = holds_on was (subst (λ (h : Hand). Held worker cache h now) e is)

unpins : {worker : WorkerNo} {cache cache' : CacheState Listing} {key : Key} {count : ℕ} {before now : Part} → Held worker cache (reads key count) before → Held worker cache' free now → Unpins before now
unpins was is = record { draft = is.draft ∙ sym was.draft; chunks = is.chunks }

chunks_of_found : (found : Option (Line Listing)) (chunks : List Listing) → option_map (λ line. line.chunks) found ≡ Some chunks → option_map_or (λ line. line.chunks) found [] ≡ chunks
chunks_of_found None chunks e = absurd (none-some chunks e)
chunks_of_found (Some line) chunks e = same_Some line.chunks chunks e

reads_one : {worker : WorkerNo} {cache : CacheState Listing} {key : Key} {count count' : ℕ} {before now : Part} (place : ℕ) (chunks : List Listing) → before.chunks ≡ Some chunks → place < length chunks → Held worker cache (reads key count) before → Held worker cache (reads key count') now → Reads place (slice_index_or (chunks_at key.0 cache.lines) place []) before now
reads_one {worker} {cache} {key} place chunks pinned within was is =
    let here : chunks_at key.0 cache.lines ≡ chunks = chunks_of_found (find (has_key key.0) cache.lines) chunks (sym was.chunks ∙ pinned) in
    record {
      draft = is.draft ∙ sym was.draft;
      chunks = is.chunks ∙ sym was.chunks;
      read = ap (λ (o : Option (List Listing)). option_and_then (λ pinned. slice_get pinned place) o) pinned ∙ slice_get-get_or chunks place [] within ∙ ap (λ (xs : List Listing). Some (slice_index_or xs place [])) (sym here);
    }

-- so many chunks are in the entry that a look finds
hit_count : (cache : CacheState Listing) (keys : List Key) (place count : ℕ) (key : Key) → look_reply cache keys ≡ looks.Hit place key count → length (chunks_at key.0 cache.lines) ≡ count
hit_count cache keys place count key e =
    by_place (position (λ (key : Key). is_committed key.0 cache.lines) keys) e
  where
    by_place : (o : Option ℕ) → look_at cache.lines keys o ≡ looks.Hit place key count → length (chunks_at key.0 cache.lines) ≡ count
    by_place None e = cc
    by_place (Some p) e =
        let same : key_at keys p ≡ key = cc in
        let many : length (chunks_at (key_at keys p).0 cache.lines) ≡ count = cc in
        ap (λ (k : Key). length (chunks_at k.0 cache.lines)) (sym same) ∙ many

own_pin : (worker key : ℕ) → pin_of worker key worker key ≡ 1
own_pin worker key =
    cond-true (worker == worker && key == key) 1 0 (and_from (worker == worker) (key == key) (eq-eqb worker worker refl) (eq-eqb key key refl))

pins : {worker : WorkerNo} {cache : CacheState Listing} {before now : Part} (keys : List Key) (place count : ℕ) (key : Key) → IsSound tree_size cache → look_reply cache keys ≡ looks.Hit place key count → Held worker cache free before → Held worker (after_look cache worker.0 (looks.Hit place key count)) (reads key 0) now → Pins count before now
pins {worker} {cache} keys place count key s e was is =
    let lines : Look → List (Line Listing) = λ look. (after_look cache worker.0 look).lines in
    let now : List (Line Listing) = lines (looks.Hit place key count) in
    let some : 0 < pins_on worker.0 key.0 now =
    subst (λ (look : Look). 0 < pins_on worker.0 key.0 (lines look)) e (omega (arith, own_pin worker.0 key.0, pins-look cache worker.0 keys place count key e worker.0 key.0)) in
    let same : chunks_at key.0 now ≡ chunks_at key.0 cache.lines =
    subst (λ (look : Look). chunks_at key.0 (lines look) ≡ chunks_at key.0 cache.lines) e (chunks-look tree_size cache worker.0 keys s key.0) in
    record {
      draft = is.draft ∙ sym was.draft;
      pinned = chunks_at key.0 now;
      chunks = is.chunks ∙ pinned_chunks worker.0 key 0 now some;
      count_is = ap length same ∙ hit_count cache keys place count key e;
    }

-- a key that gets room was not taken
free_key : (evicted : ℕ) (taken : Bool) (reply : Reserve) → cond taken reserves.Already reply ≡ reserves.Room evicted → taken ≡ false
free_key evicted true reply e = cc
free_key evicted false reply e = refl

stages_new : {worker : WorkerNo} {cache : CacheState Listing} {before now : Part} (key : Key) (size count evicted : ℕ) → reserve_reply cache key.0 size ≡ reserves.Room evicted → Held worker cache free before → Held worker (after_reserve cache worker.0 key.0 size count (reserves.Room evicted)) (fills key 0) now → Stages (Some (new_draft worker.0 key.0 size count)) before now
stages_new {worker} {cache} key size count evicted e was is =
    record {
      draft_is = is.draft ∙ drafts-reserved cache worker.0 key.0 size count (free_key evicted (is_taken key.0 cache) _ e);
      chunks = is.chunks ∙ sym was.chunks;
    }

stages_more : {worker : WorkerNo} {cache : CacheState Listing} {key : Key} {count count' : ℕ} {before now : Part} (chunk : Listing) (draft : Draft Listing) → before.draft ≡ Some draft → Held worker cache (fills key count) before → Held worker (after_put cache worker.0 key.0 chunk) (fills key count') now → Stages (option_map (with_chunk chunk) before.draft) before now
stages_more {worker} {cache} {key} chunk draft own was is =
    record {
      draft_is = is.draft ∙ find-update_same (is_draft worker.0 key.0) (with_chunk chunk) (λ x. refl) cache.drafts draft (sym was.draft ∙ own) ∙ ap (λ (o : Option (Draft Listing)). option_map (with_chunk chunk) o) (sym own);
      chunks = is.chunks ∙ sym was.chunks;
    }

stages_none : {worker : WorkerNo} {cache cache' : CacheState Listing} {key : Key} {count : ℕ} {before now : Part} → Held worker cache (fills key count) before → Held worker cache' free now → Stages None before now
stages_none was is = record { draft_is = is.draft; chunks = is.chunks ∙ sym was.chunks }

-- ---- by what is replied

looked : {worker : WorkerNo} {cache : CacheState Listing} {before now : Part} (keys : List Key) (task : TaskNo) (block : Block) (look : Look) → block.hand ≡ free → IsSound tree_size cache → look_reply cache keys ≡ look → Held worker cache free before → Held worker (after_look cache worker.0 look) (hand_of (turn (busy block) (look_event look))) now → Holds worker (actions.Look task) (replies.Looked look) before now
looked keys task block (looks.Hit place key count) hand s e was is = pins keys place count key s e was is
looked keys task block looks.Miss hand s e was is = holds_none hand was is

reserved : {worker : WorkerNo} {cache : CacheState Listing} {before now : Part} (key : Key) (size count : ℕ) (block : Block) (reply : Reserve) → block.hand ≡ free → reserve_reply cache key.0 size ≡ reply → Held worker cache free before → Held worker (after_reserve cache worker.0 key.0 size count reply) (hand_of (turn (busy block) (reserve_event key reply))) now → Holds worker (actions.Reserve key size count) (replies.Reserved reply) before now
reserved key size count block (reserves.Room evicted) hand e was is = stages_new key size count evicted e was is
reserved key size count block reserves.Already hand e was is = holds_none hand was is
reserved key size count block reserves.TooLarge hand e was is = holds_none hand was is
reserved key size count block reserves.Full hand e was is = holds_none hand was is

-- ---- a state and the one after it

abbrev event_in : State → WorkerNo → Action → Option Event
event_in state worker action = event_of (puts_of (part state worker)) action (gives state worker action)

-- the own entries after it
one_entry : (state : State) (worker : WorkerNo) (action : Action) (event : Event) → event_in state worker action ≡ Some event → own worker.0 (after state worker action).log ≡ own worker.0 state.log ++ record { worker = worker; event = event } ∷ []
one_entry state worker action event e =
    ap (λ (o : Option Event). own worker.0 (state.log ++ entries worker o)) e ∙ own-same worker state.log event

-- and what is in hand
hand_moves : (state : State) (worker : WorkerNo) (action : Action) (event : Event) → event_in state worker action ≡ Some event → hand_of (progress_in (after state worker action) worker) ≡ hand_of (turn (progress_in state worker) event)
hand_moves state worker action event e =
    ap (λ (xs : List Entry). hand_of (progress_of xs)) (one_entry state worker action event e) ∙ ap hand_of (fold_push (λ (p : Progress) (x : Entry). turn p x.event) idle (own worker.0 state.log) (record { worker = worker; event = event }))

held : (state : State) (worker : WorkerNo) (hand : Hand) → hand_of (progress_in state worker) ≡ hand → Held worker state.cache hand (part state worker)
held state worker hand e =
    record {
      draft = ap (λ (h : Hand). draft_for worker h state.cache.drafts) e;
      chunks = ap (λ (h : Hand). chunks_for h state.cache.lines) e;
    }

was_held : (state : State) (worker : WorkerNo) {task : TaskNo} {hand : Hand} → IsBusy (part state worker) task hand → Held worker state.cache hand (part state worker)
was_held state worker {task} {hand} in_block = held state worker hand (busy_hand (part state worker) task hand in_block)

-- after this event in a block
is_held : (state : State) (worker : WorkerNo) (action : Action) {task : TaskNo} {hand : Hand} (in_block : IsBusy (part state worker) task hand) (event : Event) (hand' : Hand) → event_in state worker action ≡ Some event → hand_of (turn (busy in_block.block) event) ≡ hand' → Held worker (after state worker action).cache hand' (part (after state worker action) worker)
is_held state worker action in_block event hand' e turned =
    held (after state worker action) worker hand' (hand_moves state worker action event e ∙ ap (λ (p : Progress). hand_of (turn p event)) in_block.at ∙ turned)

claimed : (puts : ℕ) (claim : Claim) (progress : Progress) (event : Event) → event_of puts actions.Claim (replies.Claimed claim) ≡ Some event → hand_of (turn progress event) ≡ free
claimed puts (claims.Task task) progress event e = ap (λ (ev : Event). hand_of (turn progress ev)) (sym (same_Some (events.Claim task) event e))
claimed puts claims.Idle progress event e = absurd (none-some event e)
claimed puts claims.Over progress event e = ap (λ (ev : Event). hand_of (turn progress ev)) (sym (same_Some events.Over event e))

holds : (state : State) (worker : WorkerNo) (action : Action) (event : Event) → Valid state → Allows state worker action → event_in state worker action ≡ Some event → Holds worker action (gives state worker action) (part state worker) (part (after state worker action) worker)
holds state worker actions.Claim event valid can e =
    holds_on (held state worker free (ap hand_of can)) (held (after state worker actions.Claim) worker free (hand_moves state worker actions.Claim event e ∙ claimed (puts_of (part state worker)) (claim_of state.board) (progress_in state worker) event e))
holds state worker (actions.Fetch dep) event valid can e =
    holds_on (was_held state worker can.busy) (is_held state worker (actions.Fetch dep) can.busy _ can.hand refl can.busy.hand_is)
holds state worker (actions.Look task) event valid can e =
    let look : Look = look_reply state.cache (marked_in state task) in
    looked (marked_in state task) task can.block look can.hand_is valid.sound refl (was_held state worker can) (is_held state worker (actions.Look task) can (look_event look) _ refl refl)
holds state worker (actions.Read key place) event valid can e =
    let in_block = can.reading.busy in
    reads_one place can.chunks can.pinned can.within (was_held state worker in_block) (is_held state worker (actions.Read key place) in_block (events.Read key place) (reads key (can.reading.count + 1)) refl (ap one_more in_block.hand_is))
holds state worker (actions.Unpin key) event valid can e =
    unpins (was_held state worker can.busy) (is_held state worker (actions.Unpin key) can.busy (events.Unpin key) free refl refl)
holds state worker (actions.Reserve key size count) event valid can e =
    let reply : Reserve = reserve_reply state.cache key.0 size in
    reserved key size count can.busy.block reply can.busy.hand_is refl (was_held state worker can.busy) (is_held state worker (actions.Reserve key size count) can.busy (reserve_event key reply) _ refl refl)
holds state worker (actions.Put key chunk) event valid can e =
    let in_block = can.filling.busy in
    stages_more chunk can.draft can.own (was_held state worker in_block) (is_held state worker (actions.Put key chunk) in_block (events.Put key (puts_of (part state worker))) (fills key (can.filling.count + 1)) refl (ap one_more in_block.hand_is))
holds state worker (actions.Commit key) event valid can e =
    stages_none (was_held state worker can.filling.busy) (is_held state worker (actions.Commit key) can.filling.busy (events.Commit key) free refl refl)
holds state worker (actions.Drop key) event valid can e =
    stages_none (was_held state worker can.busy) (is_held state worker (actions.Drop key) can.busy (events.Drop key) free refl refl)
holds state worker (actions.Done task outcome) event valid can e =
    holds_on (was_held state worker can) (is_held state worker (actions.Done task outcome) can (events.Done task (word_of outcome)) free refl refl)

pub own_moves : OwnMoves
own_moves state worker action event valid can is =
    record {
      deps = deps_stay state.board worker action;
      keys = refl;
      event = event;
      is = is;
      mine = one_entry state worker action event is;
      holds = holds state worker action event valid can is;
    }
