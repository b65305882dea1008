-- The state that workers share: a cache, a board and the log so far, beside what is kept of the plan; and what each
-- action replies and leaves.
use Rattle.std.specs.Prelude.{ℕ, ◌==◌, Bool, true, false, not, List, [], ◌++◌, map, find, Option, None, option_map}
use Rattle.std.specs.List.{filter, slice_index_or}
use Rattle.std.specs.Option.{option_map_or, option_to_list}
use Rattle.osb_tree.specs.Trees.{Listing}
use Rattle.osb_tree.specs.declared.numbers.Key.{Key}
use Rattle.osb_tree.specs.declared.numbers.TaskNo.{TaskNo}
use Rattle.osb_tree.specs.declared.numbers.WorkerNo.{WorkerNo}
use Rattle.osb_recipe.specs.declared.outcomes.Outcome.{Outcome}
use Rattle.osb_recipe.specs.declared.outcomes.Outcome.TheVariants as outcomes
use Rattle.osb_board.specs.Boards.{claim_of, after_claim, after_done, outcome_at, is_idle}
use Rattle.osb_board.specs.declared.tasks.Task.{Task}
use Rattle.osb_cache.specs.Caches.{CacheState, Line, Draft, has_key, is_draft, chunks_at, look_reply, after_look, after_unpin, reserve_reply, after_reserve, after_put, after_commit, after_drop}
use Rattle.osb_job.specs.declared.actions.Action.{Action}
use Rattle.osb_job.specs.declared.actions.Action.TheVariants as actions
use Rattle.osb_job.specs.declared.actions.Reply.{Reply}
use Rattle.osb_job.specs.declared.actions.Reply.TheVariants as replies
use Rattle.osb_job.specs.declared.entries.Entry.{Entry}
use Rattle.osb_job.specs.Scripts.{Hand, free, reads, fills, Progress, idle, busy, over, progress_of}
use Rattle.osb_job.specs.Allowed.{Part, Allowed}
use Rattle.osb_job.specs.Moves.{event_of, puts_of}
use Rattle.osb_state.specs.declared.opened.Opened.{Opened}

pub record State : Type 0 where
  pub cache : CacheState Listing
  pub board : List (Task Outcome)
  pub marked : List (List Key)
  pub keys : ℕ
  pub opened : Opened
  pub log : List Entry

-- ---- a worker's own part

abbrev pub own : ℕ → List Entry → List Entry
own number log = filter (λ entry. entry.worker.0 == number) log

abbrev pub progress_in : State → WorkerNo → Progress
progress_in state worker = progress_of (own worker.0 state.log)

abbrev pub hand_of : Progress → Hand
hand_of idle = free
hand_of (busy block) = block.hand
hand_of over = free

abbrev pub draft_for : WorkerNo → Hand → List (Draft Listing) → Option (Draft Listing)
draft_for worker free drafts = None
draft_for worker (reads key count) drafts = None
draft_for worker (fills key count) drafts = find (is_draft worker.0 key.0) drafts

abbrev pub chunks_for : Hand → List (Line Listing) → Option (List Listing)
chunks_for free lines = None
chunks_for (reads key count) lines = option_map (λ line. line.chunks) (find (has_key key.0) lines)
chunks_for (fills key count) lines = None

abbrev pub part : State → WorkerNo → Part
part state worker = record {
  deps = map (λ task. task.deps) state.board;
  keys = state.keys;
  mine = own worker.0 state.log;
  draft = draft_for worker (hand_of (progress_in state worker)) state.cache.drafts;
  chunks = chunks_for (hand_of (progress_in state worker)) state.cache.lines;
}

abbrev pub Allows : State → WorkerNo → Action → Type 0
Allows state worker action = Allowed (part state worker) action

-- a claim has to wait where some task waits and none is ready
abbrev pub is_ready : State → Action → Bool
is_ready state actions.Claim = not (is_idle state.board)
is_ready state action = true

-- ---- plays

abbrev pub marked_in : State → TaskNo → List Key
marked_in state task = slice_index_or state.marked task.0 []

-- what a play that is not refused memory replies
abbrev pub gives : State → WorkerNo → Action → Reply
gives state worker actions.Claim = replies.Claimed (claim_of state.board)
gives state worker (actions.Fetch dep) = replies.Fetched (option_map_or (λ outcome. outcome) (outcome_at state.board dep.0) outcomes.NoMemory)
gives state worker (actions.Look task) = replies.Looked (look_reply state.cache (marked_in state task))
gives state worker (actions.Read key place) = replies.Chunk (slice_index_or (chunks_at key.0 state.cache.lines) place [])
gives state worker (actions.Reserve key size count) = replies.Reserved (reserve_reply state.cache key.0 size)
gives state worker action = replies.Plain

abbrev pub cache_after : CacheState Listing → List Key → WorkerNo → Action → CacheState Listing
cache_after cache marked worker (actions.Look task) = after_look cache worker.0 (look_reply cache marked)
cache_after cache marked worker (actions.Unpin key) = after_unpin cache worker.0 key.0
cache_after cache marked worker (actions.Reserve key size count) = after_reserve cache worker.0 key.0 size count (reserve_reply cache key.0 size)
cache_after cache marked worker (actions.Put key chunk) = after_put cache worker.0 key.0 chunk
cache_after cache marked worker (actions.Commit key) = after_commit cache worker.0 key.0
cache_after cache marked worker (actions.Drop key) = after_drop cache worker.0 key.0
cache_after cache marked worker action = cache

abbrev pub board_after : List (Task Outcome) → WorkerNo → Action → List (Task Outcome)
board_after board worker actions.Claim = after_claim board worker
board_after board worker (actions.Done task outcome) = after_done board worker task outcome
board_after board worker action = board

abbrev pub marked_for : State → Action → List Key
marked_for state (actions.Look task) = marked_in state task
marked_for state action = []

-- an idle claim leaves no entry
abbrev pub entries_of : State → WorkerNo → Action → List Entry
entries_of state worker action = map (λ event. record { worker = worker; event = event }) (option_to_list (event_of (puts_of (part state worker)) action (gives state worker action)))

-- and the state after it
abbrev pub after : State → WorkerNo → Action → State
after state worker action = record state {
  cache = cache_after state.cache (marked_for state action) worker action;
  board = board_after state.board worker action;
  log = state.log ++ entries_of state worker action;
}

-- the actions that take no memory
abbrev pub is_refusable : Action → Bool
is_refusable actions.Claim = true
is_refusable (actions.Fetch dep) = true
is_refusable (actions.Look task) = true
is_refusable (actions.Read key place) = true
is_refusable (actions.Reserve key size count) = true
is_refusable action = false
