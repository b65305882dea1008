-- What holds of the shared state and its numbers, after each action.
use Rattle.std.proofs.Common.{◌≡◌, ℕ, ◌+◌, ◌-◌, ◌<◌, ◌≤◌, List, [], ◌∷◌, ◌++◌, true, length, map, find, position, sum_by, Option, Some, None, refl, sym, ap, subst, ◌∙◌, arith}
use Rattle.std.specs.List.{list_any}
use Rattle.std.specs.Option.{option_map_or, option_to_list}
use Rattle.std.proofs.lemmas.List.{length-append, map-append}
use Rattle.osb_tree.specs.Trees.{Listing}
use Rattle.osb_tree.specs.declared.numbers.Key.{Key}
use Rattle.osb_tree.specs.declared.numbers.TaskNo.{TaskNo}
use Rattle.osb_tree.specs.declared.numbers.WorkerNo.{WorkerNo}
use Rattle.osb_recipe.specs.declared.outcomes.Outcome.{Outcome}
use Rattle.osb_recipe.specs.declared.outcomes.Outcome.TheVariants as outcomes
use Rattle.osb_board.specs.declared.tasks.Task.{Task}
use Rattle.osb_board.specs.declared.tasks.Claim.{Claim}
use Rattle.osb_board.specs.declared.tasks.Claim.TheVariants.{Task as Claimed, Over}
use Rattle.osb_board.specs.Boards.{state_count, outcome_at, claim_of, after_answer, after_claim, after_done}
use Rattle.osb_cache.specs.declared.answers.Look.{Look}
use Rattle.osb_cache.specs.declared.answers.Look.TheVariants.{Hit, Miss}
use Rattle.osb_cache.specs.declared.answers.Reserve.{Reserve}
use Rattle.osb_cache.specs.declared.answers.Reserve.TheVariants.{Room, Already, TooLarge, Full}
use Rattle.osb_cache.specs.Edits.{remove_first, update_first}
use Rattle.osb_cache.specs.Caches.{CacheState, Line, Draft, has_key, is_draft, is_committed, key_at, look_at, look_reply, counted, after_look, after_unpin, reserve_reply, after_reserve, new_draft, after_put, line_of_draft, after_commit, after_drop}
use Rattle.osb_cache.proofs.Firsts.{found_any}
use Rattle.osb_cache.proofs.Lookups.{hit_committed}
use Rattle.osb_job.specs.declared.actions.Action.{Action}
use Rattle.osb_job.specs.declared.actions.Action.TheVariants as actions
use Rattle.osb_job.specs.declared.actions.Reply.TheVariants as replies
use Rattle.osb_job.specs.declared.entries.Event.TheVariants as events
use Rattle.osb_job.specs.declared.entries.Entry.{Entry}
use Rattle.osb_machine.specs.declared.stagings.Staging.{Staging}
use Rattle.osb_state.specs.States.{State, part, Allows, marked_in, marked_for, cache_after, board_after, entries_of, after}
use Rattle.osb_state.specs.Kept.{Valid}
use Rattle.osb_machine.specs.Owed.{IsShared, is_running, pin_count, draft_owes, staging_of, is_staging, one_put}
use Rattle.osb_job.specs.Scripts.{free, word_of}
use Rattle.osb_job.specs.Moves.{event_of, look_event, reserve_event, puts_of}
use Rattle.osb_state.proofs.ValidMoves.{valid_stays}
use Rattle.osb_machine.proofs.Conditions.{runs_task, has_pin, has_draft, own_draft}
use Rattle.osb_machine.proofs.StagedNumbers.{find-staged, any-staged, staged_is, put-staged, remove-staged}
use Rattle.osb_machine.proofs.Owing.{running_claimed, running_done, pins_touched, pins_unpinned, pins_evict, pins_committed, owes_reserved, owes_put, owes_removed}

abbrev claim_entries : WorkerNo → Claim → List Entry
claim_entries worker claim = map (λ event. record { worker = worker; event = event }) (option_to_list (event_of 0 actions.Claim (replies.Claimed claim)))

pub shared_now : (state : State) (worker : WorkerNo) (action : Action) (stagings more : List Staging) (due due' capacity capacity' : ℕ) (cache : CacheState Listing) (board : List (Task Outcome)) (log : List Entry) → IsShared state stagings due capacity → Allows state worker action → cache ≡ cache_after state.cache (marked_for state action) worker action → board ≡ board_after state.board worker action → log ≡ state.log ++ entries_of state worker action → more ≡ map staging_of cache.drafts → due' ≡ state_count is_running board + pin_count cache.lines + sum_by draft_owes cache.drafts → length log + due' ≤ capacity' → IsShared (record state { cache = cache; board = board; log = log }) more due' capacity'
shared_now state worker action stagings more due due' capacity capacity' cache board log shared allowed c b l staged due_is room =
    let now : State = record state { cache = cache; board = board; log = log } in
    let same : now ≡ after state worker action = λ i. record state { cache = c i; board = b i; log = l i } in
    record {
      valid = subst Valid (sym same) (valid_stays state worker action shared.valid allowed);
      staged = staged;
      due_is = due_is;
      room = room;
      opening = shared.opening;
    }

length_more : (log more : List Entry) (entry : Entry) → more ≡ log ++ entry ∷ [] → length more ≡ length log + 1
length_more log more entry e = ap length e ∙ length-append log (entry ∷ [])

-- ---- claims

pub shared_claimed : (state : State) (worker : WorkerNo) (task : TaskNo) (stagings : List Staging) (due capacity capacity' : ℕ) (board : List (Task Outcome)) (log : List Entry) → IsShared state stagings due capacity → Allows state worker actions.Claim → claim_of state.board ≡ Claimed task → board ≡ after_claim state.board worker → log ≡ state.log ++ record { worker = worker; event = events.Claim task } ∷ [] → length state.log + due + 2 ≤ capacity' → IsShared (record state { board = board; log = log }) stagings (due + 1) capacity'
shared_claimed state worker task stagings due capacity capacity' board log shared allowed claimed b l room =
    let entries : log ≡ state.log ++ entries_of state worker actions.Claim =
    l ∙ sym (ap (λ (claim : Claim). state.log ++ claim_entries worker claim) claimed) in
    shared_now state worker actions.Claim stagings stagings due (due + 1) capacity capacity' state.cache board log shared allowed refl b entries shared.staged
    (omega (arith, shared.due_is, ap (λ (tasks : List (Task Outcome)). state_count is_running tasks) b, running_claimed state.board worker task claimed))
    (omega (arith, length_more state.log log _ l, room))

pub shared_over : (state : State) (worker : WorkerNo) (stagings : List Staging) (due capacity capacity' : ℕ) (board : List (Task Outcome)) (log : List Entry) → IsShared state stagings due capacity → Allows state worker actions.Claim → claim_of state.board ≡ Over → board ≡ after_claim state.board worker → log ≡ state.log ++ record { worker = worker; event = events.Over } ∷ [] → length state.log + due + 2 ≤ capacity' → IsShared (record state { board = board; log = log }) stagings due capacity'
shared_over state worker stagings due capacity capacity' board log shared allowed claimed b l room =
    let entries : log ≡ state.log ++ entries_of state worker actions.Claim =
    l ∙ sym (ap (λ (claim : Claim). state.log ++ claim_entries worker claim) claimed) in
    let same : board ≡ state.board = b ∙ ap (λ (claim : Claim). after_answer state.board worker claim) claimed in
    shared_now state worker actions.Claim stagings stagings due due capacity capacity' state.cache board log shared allowed refl b entries shared.staged
    (omega (arith, shared.due_is, ap (λ (tasks : List (Task Outcome)). state_count is_running tasks) same))
    (omega (arith, length_more state.log log _ l, room))

-- ---- actions that hold and release nothing

pub shared_fetched : (state : State) (worker : WorkerNo) (dep : TaskNo) (outcome : Outcome) (stagings : List Staging) (due capacity capacity' : ℕ) (log : List Entry) → IsShared state stagings due capacity → Allows state worker (actions.Fetch dep) → outcome_at state.board dep.0 ≡ Some outcome → log ≡ state.log ++ record { worker = worker; event = events.Fetch dep (word_of outcome) } ∷ [] → length state.log + due + 1 ≤ capacity' → IsShared (record state { log = log }) stagings due capacity'
shared_fetched state worker dep outcome stagings due capacity capacity' log shared allowed found l room =
    let entries : log ≡ state.log ++ entries_of state worker (actions.Fetch dep) =
    l ∙ sym (ap (λ (o : Option Outcome). state.log ++ record { worker = worker; event = events.Fetch dep (word_of (option_map_or (λ (x : Outcome). x) o outcomes.NoMemory)) } ∷ []) found) in
    shared_now state worker (actions.Fetch dep) stagings stagings due due capacity capacity' state.cache state.board log shared allowed refl refl entries shared.staged shared.due_is
    (omega (arith, length_more state.log log _ l, room))

pub shared_read : (state : State) (worker : WorkerNo) (key : Key) (place : ℕ) (stagings : List Staging) (due capacity capacity' : ℕ) (log : List Entry) → IsShared state stagings due capacity → Allows state worker (actions.Read key place) → log ≡ state.log ++ record { worker = worker; event = events.Read key place } ∷ [] → length state.log + due + 1 ≤ capacity' → IsShared (record state { log = log }) stagings due capacity'
shared_read state worker key place stagings due capacity capacity' log shared allowed l room =
    shared_now state worker (actions.Read key place) stagings stagings due due capacity capacity' state.cache state.board log shared allowed refl refl l shared.staged shared.due_is
    (omega (arith, length_more state.log log _ l, room))

-- ---- ends of tasks

pub owed_done : (state : State) (worker : WorkerNo) (task : TaskNo) (outcome : Outcome) (stagings : List Staging) (due capacity : ℕ) → IsShared state stagings due capacity → Allows state worker (actions.Done task outcome) → state_count is_running (after_done state.board worker task outcome) + 1 ≡ state_count is_running state.board
owed_done state worker task outcome stagings due capacity shared allowed =
    running_done state.board worker.0 task.0 outcome (runs_task state worker task free shared.valid allowed)

pub due_done : (state : State) (worker : WorkerNo) (task : TaskNo) (outcome : Outcome) (stagings : List Staging) (due capacity : ℕ) → IsShared state stagings due capacity → Allows state worker (actions.Done task outcome) → 1 ≤ due
due_done state worker task outcome stagings due capacity shared allowed =
    omega (arith, shared.due_is, owed_done state worker task outcome stagings due capacity shared allowed)

pub shared_done : (state : State) (worker : WorkerNo) (task : TaskNo) (outcome : Outcome) (stagings : List Staging) (due capacity capacity' : ℕ) (board : List (Task Outcome)) (log : List Entry) → IsShared state stagings due capacity → Allows state worker (actions.Done task outcome) → board ≡ after_done state.board worker task outcome → log ≡ state.log ++ record { worker = worker; event = events.Done task (word_of outcome) } ∷ [] → capacity' ≡ capacity → IsShared (record state { board = board; log = log }) stagings (due - 1) capacity'
shared_done state worker task outcome stagings due capacity capacity' board log shared allowed b l same =
    let owed = owed_done state worker task outcome stagings due capacity shared allowed in
    shared_now state worker (actions.Done task outcome) stagings stagings due (due - 1) capacity capacity' state.cache board log shared allowed refl b l shared.staged
    (omega (arith, shared.due_is, owed, ap (λ (tasks : List (Task Outcome)). state_count is_running tasks) b))
    (omega (arith, shared.due_is, owed, shared.room, length_more state.log log _ l, same))

-- ---- pins

pub owed_unpin : (state : State) (worker : WorkerNo) (key : Key) (stagings : List Staging) (due capacity : ℕ) → IsShared state stagings due capacity → Allows state worker (actions.Unpin key) → pin_count (after_unpin state.cache worker.0 key.0).lines + 1 ≡ pin_count state.cache.lines
owed_unpin state worker key stagings due capacity shared allowed =
    pins_unpinned worker.0 key.0 state.cache.lines (omega (arith, shared.valid.sound.apart key.0)) (omega (arith, has_pin state worker key shared.valid allowed))

pub due_unpin : (state : State) (worker : WorkerNo) (key : Key) (stagings : List Staging) (due capacity : ℕ) → IsShared state stagings due capacity → Allows state worker (actions.Unpin key) → 1 ≤ due
due_unpin state worker key stagings due capacity shared allowed =
    omega (arith, shared.due_is, owed_unpin state worker key stagings due capacity shared allowed)

pub shared_unpinned : (state : State) (worker : WorkerNo) (key : Key) (stagings : List Staging) (due capacity capacity' : ℕ) (cache : CacheState Listing) (log : List Entry) → IsShared state stagings due capacity → Allows state worker (actions.Unpin key) → cache ≡ after_unpin state.cache worker.0 key.0 → log ≡ state.log ++ record { worker = worker; event = events.Unpin key } ∷ [] → capacity' ≡ capacity → IsShared (record state { cache = cache; log = log }) stagings (due - 1) capacity'
shared_unpinned state worker key stagings due capacity capacity' cache log shared allowed c l same =
    let owed = owed_unpin state worker key stagings due capacity shared allowed in
    shared_now state worker (actions.Unpin key) stagings stagings due (due - 1) capacity capacity' cache state.board log shared allowed c refl l
    (shared.staged ∙ sym (ap (λ (x : CacheState Listing). map staging_of x.drafts) c))
    (omega (arith, shared.due_is, owed, ap (λ (x : CacheState Listing). pin_count x.lines) c, ap (λ (x : CacheState Listing). sum_by draft_owes x.drafts) c))
    (omega (arith, shared.due_is, owed, shared.room, length_more state.log log _ l, same))

look_found : (lines : List (Line Listing)) (keys : List Key) (place chunks : ℕ) (key : Key) (at : Option ℕ) → position (λ (k : Key). is_committed k.0 lines) keys ≡ at → look_at lines keys at ≡ Hit place key chunks → (line : Line Listing) × (find (has_key key.0) lines ≡ Some line)
look_found lines keys place chunks key None e hit = cc
look_found lines keys place chunks key (Some at) e hit =
    let same : key_at keys at ≡ key = cc in
    subst (λ (k : Key). (line : Line Listing) × (find (has_key k.0) lines ≡ Some line)) same (found_any (has_key (key_at keys at).0) lines (hit_committed lines lines keys at refl e))

pub shared_hit : (state : State) (worker : WorkerNo) (task : TaskNo) (keys : List Key) (place chunks : ℕ) (key : Key) (stagings : List Staging) (due capacity capacity' : ℕ) (cache : CacheState Listing) (log : List Entry) → IsShared state stagings due capacity → Allows state worker (actions.Look task) → keys ≡ marked_in state task → look_reply state.cache keys ≡ Hit place key chunks → cache ≡ after_look state.cache worker.0 (look_reply state.cache keys) → log ≡ state.log ++ record { worker = worker; event = events.Hit key } ∷ [] → length state.log + due + 2 ≤ capacity' → IsShared (record state { cache = cache; log = log }) stagings (due + 1) capacity'
shared_hit state worker task keys place chunks key stagings due capacity capacity' cache log shared allowed marked hit c l room =
    let found = look_found state.cache.lines keys place chunks key (position (λ (k : Key). is_committed k.0 state.cache.lines) keys) refl hit in
    let after_hit : cache ≡ after_look state.cache worker.0 (Hit place key chunks) = c ∙ ap (λ (look : Look). after_look state.cache worker.0 look) hit in
    let asked : cache ≡ after_look state.cache worker.0 (look_reply state.cache (marked_in state task)) = c ∙ ap (λ (ks : List Key). after_look state.cache worker.0 (look_reply state.cache ks)) marked in
    let entry : look_reply state.cache (marked_in state task) ≡ Hit place key chunks = sym (ap (λ (ks : List Key). look_reply state.cache ks) marked) ∙ hit in
    let entries : log ≡ state.log ++ entries_of state worker (actions.Look task) = l ∙ sym (ap (λ (look : Look). state.log ++ record { worker = worker; event = look_event look } ∷ []) entry) in
    shared_now state worker (actions.Look task) stagings stagings due (due + 1) capacity capacity' cache state.board log shared allowed asked refl entries
    (shared.staged ∙ sym (ap (λ (x : CacheState Listing). map staging_of x.drafts) after_hit))
    (omega (arith, shared.due_is, ap (λ (x : CacheState Listing). pin_count x.lines) after_hit, ap (λ (x : CacheState Listing). sum_by draft_owes x.drafts) after_hit, pins_touched (state.cache.clock + 1) worker.0 key.0 state.cache.lines found.0 found.1))
    (omega (arith, length_more state.log log _ l, room))

pub shared_miss : (state : State) (worker : WorkerNo) (task : TaskNo) (keys : List Key) (stagings : List Staging) (due capacity capacity' : ℕ) (cache : CacheState Listing) (log : List Entry) → IsShared state stagings due capacity → Allows state worker (actions.Look task) → keys ≡ marked_in state task → look_reply state.cache keys ≡ Miss → cache ≡ after_look state.cache worker.0 (look_reply state.cache keys) → log ≡ state.log ++ record { worker = worker; event = events.Miss } ∷ [] → length state.log + due + 2 ≤ capacity' → IsShared (record state { cache = cache; log = log }) stagings due capacity'
shared_miss state worker task keys stagings due capacity capacity' cache log shared allowed marked miss c l room =
    let same : cache ≡ state.cache = c ∙ ap (λ (look : Look). after_look state.cache worker.0 look) miss in
    let asked : cache ≡ after_look state.cache worker.0 (look_reply state.cache (marked_in state task)) = c ∙ ap (λ (ks : List Key). after_look state.cache worker.0 (look_reply state.cache ks)) marked in
    let entry : look_reply state.cache (marked_in state task) ≡ Miss = sym (ap (λ (ks : List Key). look_reply state.cache ks) marked) ∙ miss in
    let entries : log ≡ state.log ++ entries_of state worker (actions.Look task) = l ∙ sym (ap (λ (look : Look). state.log ++ record { worker = worker; event = look_event look } ∷ []) entry) in
    shared_now state worker (actions.Look task) stagings stagings due due capacity capacity' cache state.board log shared allowed asked refl entries
    (shared.staged ∙ sym (ap (λ (x : CacheState Listing). map staging_of x.drafts) same))
    (omega (arith, shared.due_is, ap (λ (x : CacheState Listing). pin_count x.lines) same, ap (λ (x : CacheState Listing). sum_by draft_owes x.drafts) same))
    (omega (arith, length_more state.log log _ l, room))

-- ---- room for entries

abbrev pub new_staging : WorkerNo → Key → ℕ → Staging
new_staging worker key count = record { worker = worker; key = key; count = count; left = count }

staged_new : (worker : WorkerNo) (key : Key) (size count : ℕ) → new_staging worker key count ≡ staging_of (new_draft worker.0 key.0 size count)
staged_new worker key size count =
    let all : count ≡ count - 0 = omega arith in
    ap (λ (n : ℕ). record (new_staging worker key count) { left = n }) all

pub shared_room : (state : State) (worker : WorkerNo) (key : Key) (size count evicted : ℕ) (stagings more : List Staging) (due capacity capacity' : ℕ) (cache : CacheState Listing) (log : List Entry) → IsShared state stagings due capacity → Allows state worker (actions.Reserve key size count) → reserve_reply state.cache key.0 size ≡ Room evicted → cache ≡ after_reserve state.cache worker.0 key.0 size count (reserve_reply state.cache key.0 size) → log ≡ state.log ++ record { worker = worker; event = reserve_event key (reserve_reply state.cache key.0 size) } ∷ [] → more ≡ stagings ++ new_staging worker key count ∷ [] → length state.log + due + (count + 2) ≤ capacity' → IsShared (record state { cache = cache; log = log }) more (due + (count + 1)) capacity'
shared_room state worker key size count evicted stagings more due capacity capacity' cache log shared allowed reply c l m room =
    let after_room : cache ≡ after_reserve state.cache worker.0 key.0 size count (Room evicted) = c ∙ ap (λ (r : Reserve). after_reserve state.cache worker.0 key.0 size count r) reply in
    let draft : Draft Listing = new_draft worker.0 key.0 size count in
    let grown : more ≡ map staging_of (state.cache.drafts ++ draft ∷ []) =
    m ∙ ap (λ (xs : List Staging). xs ++ new_staging worker key count ∷ []) shared.staged
    ∙ ap (λ (x : Staging). map staging_of state.cache.drafts ++ x ∷ []) (staged_new worker key size count)
    ∙ sym (map-append staging_of state.cache.drafts (draft ∷ [])) in
    shared_now state worker (actions.Reserve key size count) stagings more due (due + (count + 1)) capacity capacity' cache state.board log shared allowed c refl l
    (grown ∙ sym (ap (λ (x : CacheState Listing). map staging_of x.drafts) after_room))
    (omega (arith, shared.due_is, ap (λ (x : CacheState Listing). pin_count x.lines) after_room, ap (λ (x : CacheState Listing). sum_by draft_owes x.drafts) after_room, pins_evict (counted state.cache + size - state.cache.limit) state.cache.lines, owes_reserved worker.0 key.0 size count state.cache.drafts))
    (omega (arith, length_more state.log log _ l, room))

no_room : (cache : CacheState Listing) (worker key size count : ℕ) (reply : Reserve) → ((evicted : ℕ) → reply ≡ Room evicted → ⊥) → after_reserve cache worker key size count reply ≡ cache
no_room cache worker key size count (Room evicted) none = absurd (none evicted refl)
no_room cache worker key size count Already none = refl
no_room cache worker key size count TooLarge none = refl
no_room cache worker key size count Full none = refl

pub shared_unreserved : (state : State) (worker : WorkerNo) (key : Key) (size count : ℕ) (stagings : List Staging) (due capacity capacity' : ℕ) (cache : CacheState Listing) (log : List Entry) → IsShared state stagings due capacity → Allows state worker (actions.Reserve key size count) → ((evicted : ℕ) → reserve_reply state.cache key.0 size ≡ Room evicted → ⊥) → cache ≡ after_reserve state.cache worker.0 key.0 size count (reserve_reply state.cache key.0 size) → log ≡ state.log ++ record { worker = worker; event = reserve_event key (reserve_reply state.cache key.0 size) } ∷ [] → length state.log + due + (count + 2) ≤ capacity' → IsShared (record state { cache = cache; log = log }) stagings due capacity'
shared_unreserved state worker key size count stagings due capacity capacity' cache log shared allowed none c l room =
    let same : cache ≡ state.cache = c ∙ no_room state.cache worker.0 key.0 size count (reserve_reply state.cache key.0 size) none in
    shared_now state worker (actions.Reserve key size count) stagings stagings due due capacity capacity' cache state.board log shared allowed c refl l
    (shared.staged ∙ sym (ap (λ (x : CacheState Listing). map staging_of x.drafts) same))
    (omega (arith, shared.due_is, ap (λ (x : CacheState Listing). pin_count x.lines) same, ap (λ (x : CacheState Listing). sum_by draft_owes x.drafts) same))
    (omega (arith, length_more state.log log _ l, room))

-- ---- chunks that are put

pub found_put : (state : State) (worker : WorkerNo) (key : Key) (chunk : Listing) (may : Allows state worker (actions.Put key chunk)) → find (is_draft worker.0 key.0) state.cache.drafts ≡ Some may.draft
found_put state worker key chunk may = own_draft state worker key may.draft may.filling may.own

pub owed_put : (state : State) (worker : WorkerNo) (key : Key) (chunk : Listing) → Allows state worker (actions.Put key chunk) → sum_by draft_owes (after_put state.cache worker.0 key.0 chunk).drafts + 1 ≡ sum_by draft_owes state.cache.drafts
owed_put state worker key chunk may = owes_put (is_draft worker.0 key.0) chunk state.cache.drafts may.draft (found_put state worker key chunk may) may.room.few

pub due_put : (state : State) (worker : WorkerNo) (key : Key) (chunk : Listing) (stagings : List Staging) (due capacity : ℕ) → IsShared state stagings due capacity → Allows state worker (actions.Put key chunk) → 1 ≤ due
due_put state worker key chunk stagings due capacity shared allowed = omega (arith, shared.due_is, owed_put state worker key chunk allowed)

-- the numbers of the entry
pub staging_put : (state : State) (worker : WorkerNo) (key : Key) (chunk : Listing) (stagings : List Staging) (due capacity : ℕ) → IsShared state stagings due capacity → Allows state worker (actions.Put key chunk) → (staging : Staging) → find (is_staging worker.0 key.0) stagings ≡ Some staging → (0 < staging.left) × (staging.left ≤ staging.count)
staging_put state worker key chunk stagings due capacity shared may staging found =
    let same = staged_is worker.0 key.0 state.cache.drafts may.draft stagings staging shared.staged (found_put state worker key chunk may) found in
    let few = may.room.few in
    let left = ap (λ (s : Staging). s.left) same in
    let count = ap (λ (s : Staging). s.count) same in
    (omega (arith, few, left), omega (arith, left, count))

-- the place of the chunk
pub place_put : (state : State) (worker : WorkerNo) (key : Key) (chunk : Listing) (stagings : List Staging) (due capacity place : ℕ) → IsShared state stagings due capacity → Allows state worker (actions.Put key chunk) → ((staging : Staging) → find (is_staging worker.0 key.0) stagings ≡ Some staging → place ≡ staging.count - staging.left) → place ≡ puts_of (part state worker)
place_put state worker key chunk stagings due capacity place shared may put =
    let found = ap (λ (xs : List Staging). find (is_staging worker.0 key.0) xs) shared.staged ∙ find-staged worker.0 key.0 state.cache.drafts may.draft (found_put state worker key chunk may) in
    let few = may.room.few in
    let puts : puts_of (part state worker) ≡ length may.draft.chunks = ap (λ (d : Option (Draft Listing)). option_map_or (λ (x : Draft Listing). length x.chunks) d 0) may.own in
    omega (arith, few, puts, put (staging_of may.draft) found)

pub put_after : (state : State) (worker : WorkerNo) (key : Key) (chunk : Listing) (place : ℕ) (cache : CacheState Listing) (log : List Entry) → place ≡ puts_of (part state worker) → cache ≡ after_put state.cache worker.0 key.0 chunk → log ≡ state.log ++ record { worker = worker; event = events.Put key place } ∷ [] → record state { cache = cache; log = log } ≡ after state worker (actions.Put key chunk)
put_after state worker key chunk place cache log p c l =
    let entries : log ≡ state.log ++ entries_of state worker (actions.Put key chunk) = l ∙ ap (λ (n : ℕ). state.log ++ record { worker = worker; event = events.Put key n } ∷ []) p in
    λ i. record state { cache = c i; log = entries i }

pub shared_put : (state : State) (worker : WorkerNo) (key : Key) (chunk : Listing) (place : ℕ) (stagings more : List Staging) (due capacity capacity' : ℕ) (cache : CacheState Listing) (log : List Entry) → IsShared state stagings due capacity → Allows state worker (actions.Put key chunk) → place ≡ puts_of (part state worker) → cache ≡ after_put state.cache worker.0 key.0 chunk → log ≡ state.log ++ record { worker = worker; event = events.Put key place } ∷ [] → more ≡ update_first (is_staging worker.0 key.0) one_put stagings → capacity' ≡ capacity → IsShared (record state { cache = cache; log = log }) more (due - 1) capacity'
shared_put state worker key chunk place stagings more due capacity capacity' cache log shared allowed p c l m same =
    let entries : log ≡ state.log ++ entries_of state worker (actions.Put key chunk) = l ∙ ap (λ (n : ℕ). state.log ++ record { worker = worker; event = events.Put key n } ∷ []) p in
    let owed = owed_put state worker key chunk allowed in
    shared_now state worker (actions.Put key chunk) stagings more due (due - 1) capacity capacity' cache state.board log shared allowed c refl entries
    (m ∙ ap (λ (xs : List Staging). update_first (is_staging worker.0 key.0) one_put xs) shared.staged ∙ sym (put-staged worker.0 key.0 chunk state.cache.drafts) ∙ sym (ap (λ (x : CacheState Listing). map staging_of x.drafts) c))
    (omega (arith, shared.due_is, owed, ap (λ (x : CacheState Listing). pin_count x.lines) c, ap (λ (x : CacheState Listing). sum_by draft_owes x.drafts) c))
    (omega (arith, shared.due_is, owed, shared.room, length_more state.log log _ l, same))

-- ---- entries that are made

pub found_commit : (state : State) (worker : WorkerNo) (key : Key) (may : Allows state worker (actions.Commit key)) → find (is_draft worker.0 key.0) state.cache.drafts ≡ Some may.draft
found_commit state worker key may = own_draft state worker key may.draft may.filling may.own

pub owed_commit : (state : State) (worker : WorkerNo) (key : Key) → Allows state worker (actions.Commit key) → sum_by draft_owes (after_commit state.cache worker.0 key.0).drafts + 1 ≡ sum_by draft_owes state.cache.drafts
owed_commit state worker key may =
    let full = may.whole.full in
    omega (arith, full, owes_removed (is_draft worker.0 key.0) state.cache.drafts may.draft (found_commit state worker key may))

pub due_commit : (state : State) (worker : WorkerNo) (key : Key) (stagings : List Staging) (due capacity : ℕ) → IsShared state stagings due capacity → Allows state worker (actions.Commit key) → 1 ≤ due
due_commit state worker key stagings due capacity shared allowed = omega (arith, shared.due_is, owed_commit state worker key allowed)

pub shared_commit : (state : State) (worker : WorkerNo) (key : Key) (stagings more : List Staging) (due capacity capacity' : ℕ) (cache : CacheState Listing) (log : List Entry) → IsShared state stagings due capacity → Allows state worker (actions.Commit key) → cache ≡ after_commit state.cache worker.0 key.0 → log ≡ state.log ++ record { worker = worker; event = events.Commit key } ∷ [] → more ≡ remove_first (is_staging worker.0 key.0) stagings → capacity' ≡ capacity → IsShared (record state { cache = cache; log = log }) more (due - 1) capacity'
shared_commit state worker key stagings more due capacity capacity' cache log shared may c l m same =
    let owed = owed_commit state worker key may in
    let clock : ℕ = state.cache.clock + 1 in
    let lines : pin_count cache.lines ≡ pin_count state.cache.lines =
    ap (λ (x : CacheState Listing). pin_count x.lines) c
    ∙ ap (λ (d : Option (Draft Listing)). pin_count (state.cache.lines ++ map (line_of_draft clock) (option_to_list d))) (found_commit state worker key may)
    ∙ pins_committed clock state.cache.lines may.draft in
    shared_now state worker (actions.Commit key) stagings more due (due - 1) capacity capacity' cache state.board log shared may c refl l
    (m ∙ ap (λ (xs : List Staging). remove_first (is_staging worker.0 key.0) xs) shared.staged ∙ sym (remove-staged worker.0 key.0 state.cache.drafts) ∙ sym (ap (λ (x : CacheState Listing). map staging_of x.drafts) c))
    (omega (arith, shared.due_is, owed, lines, ap (λ (x : CacheState Listing). sum_by draft_owes x.drafts) c))
    (omega (arith, shared.due_is, owed, shared.room, length_more state.log log _ l, same))

-- ---- entries that are given up

pub owed_drop : (state : State) (worker : WorkerNo) (key : Key) (stagings : List Staging) (due capacity : ℕ) (staging : Staging) → IsShared state stagings due capacity → Allows state worker (actions.Drop key) → find (is_staging worker.0 key.0) stagings ≡ Some staging → sum_by draft_owes (after_drop state.cache worker.0 key.0).drafts + (staging.left + 1) ≡ sum_by draft_owes state.cache.drafts
owed_drop state worker key stagings due capacity staging shared allowed taken =
    let found = has_draft state worker key shared.valid allowed in
    let same = staged_is worker.0 key.0 state.cache.drafts found.0 stagings staging shared.staged found.1 taken in
    omega (arith, ap (λ (s : Staging). s.left) same, owes_removed (is_draft worker.0 key.0) state.cache.drafts found.0 found.1)

pub due_drop : (state : State) (worker : WorkerNo) (key : Key) (stagings : List Staging) (due capacity : ℕ) (staging : Staging) → IsShared state stagings due capacity → Allows state worker (actions.Drop key) → find (is_staging worker.0 key.0) stagings ≡ Some staging → staging.left + 1 ≤ due
due_drop state worker key stagings due capacity staging shared allowed taken =
    omega (arith, shared.due_is, owed_drop state worker key stagings due capacity staging shared allowed taken)

pub staged_drop : (state : State) (worker : WorkerNo) (key : Key) (stagings : List Staging) (due capacity : ℕ) → IsShared state stagings due capacity → Allows state worker (actions.Drop key) → list_any (is_staging worker.0 key.0) stagings ≡ true
staged_drop state worker key stagings due capacity shared allowed =
    let found = has_draft state worker key shared.valid allowed in
    any-staged worker.0 key.0 state.cache.drafts found.0 stagings shared.staged found.1

pub some_due : (state : State) (worker : WorkerNo) (key : Key) (stagings : List Staging) (due capacity : ℕ) → IsShared state stagings due capacity → Allows state worker (actions.Drop key) → 1 ≤ due
some_due state worker key stagings due capacity shared allowed =
    let found = has_draft state worker key shared.valid allowed in
    omega (arith, shared.due_is, owes_removed (is_draft worker.0 key.0) state.cache.drafts found.0 found.1)

pub shared_drop : (state : State) (worker : WorkerNo) (key : Key) (stagings more : List Staging) (due capacity capacity' : ℕ) (staging : Staging) (cache : CacheState Listing) (log : List Entry) → IsShared state stagings due capacity → Allows state worker (actions.Drop key) → find (is_staging worker.0 key.0) stagings ≡ Some staging → cache ≡ after_drop state.cache worker.0 key.0 → log ≡ state.log ++ record { worker = worker; event = events.Drop key } ∷ [] → more ≡ remove_first (is_staging worker.0 key.0) stagings → capacity' ≡ capacity → IsShared (record state { cache = cache; log = log }) more (due - (staging.left + 1)) capacity'
shared_drop state worker key stagings more due capacity capacity' staging cache log shared allowed taken c l m same =
    let owed = owed_drop state worker key stagings due capacity staging shared allowed taken in
    shared_now state worker (actions.Drop key) stagings more due (due - (staging.left + 1)) capacity capacity' cache state.board log shared allowed c refl l
    (m ∙ ap (λ (xs : List Staging). remove_first (is_staging worker.0 key.0) xs) shared.staged ∙ sym (remove-staged worker.0 key.0 state.cache.drafts) ∙ sym (ap (λ (x : CacheState Listing). map staging_of x.drafts) c))
    (omega (arith, shared.due_is, owed, ap (λ (x : CacheState Listing). pin_count x.lines) c, ap (λ (x : CacheState Listing). sum_by draft_owes x.drafts) c))
    (omega (arith, shared.due_is, owed, shared.room, length_more state.log log _ l, same))
