-- What holds of every shared state, whatever entries it began with: workers hold what their own entries say, and nothing
-- else is held.
use Rattle.std.specs.Prelude.{◌≡◌, ℕ, ◌+◌, ◌<◌, ◌≤◌, ◌==◌, Bool, false, List, length, All, sum_by, count_by, if◌then◌else◌}
use Rattle.osb_tree.specs.Trees.{Listing, tree_size}
use Rattle.osb_tree.specs.Chunks.{AreOfATree}
use Rattle.osb_recipe.specs.declared.outcomes.Outcome.{Outcome}
use Rattle.osb_board.specs.Boards.{IsBoard, is_run_by, state_at}
use Rattle.osb_board.specs.declared.tasks.Task.{Task}
use Rattle.osb_cache.specs.Caches.{CacheState, Line, Draft, IsSound, is_draft, pins_on}
use Rattle.osb_job.specs.Scripts.{Hand, free, reads, fills, Progress, idle, busy, over, progress_of}
use Rattle.osb_state.specs.States.{State, own, hand_of}

-- ---- what a worker holds, by how far it is

-- how many pins it has on a key
abbrev pub pins_due : Hand → ℕ → ℕ
pins_due free key = 0
pins_due (reads held count) key = if held.0 == key then 1 else 0
pins_due (fills held count) key = 0

-- how many staged entries it has of a key
abbrev pub drafts_due : Hand → ℕ → ℕ
drafts_due free key = 0
drafts_due (reads held count) key = 0
drafts_due (fills held count) key = if held.0 == key then 1 else 0

-- how many chunks are put of it
abbrev pub puts_due : Hand → ℕ → ℕ
puts_due free key = 0
puts_due (reads held count) key = 0
puts_due (fills held count) key = if held.0 == key then count else 0

-- whether it runs a task
abbrev pub runs : Progress → ℕ → Bool
runs idle task = false
runs (busy block) task = block.task.0 == task
runs over task = false

-- ---- what holds of a cache and a board, by how far each worker is

-- how many chunks a worker has put of a key
abbrev pub puts_on : ℕ → ℕ → List (Draft Listing) → ℕ
puts_on worker key drafts = sum_by (λ draft. if is_draft worker key draft then length draft.chunks else 0) drafts

-- an entry of a key of the plan, which is the chunks of a tree
pub record IsEntry (keys : ℕ) (line : Line Listing) : Type 0 where
  pub known : line.key < keys
  pub tree : AreOfATree line.chunks

-- at this bound of the clock
pub record IsKept (cache : CacheState Listing) (board : List (Task Outcome)) (progress : ℕ → Progress) (keys bound : ℕ) : Type 0 where
  pub sound : IsSound tree_size cache
  pub clocked : cache.clock ≤ bound
  pub entries : All (IsEntry keys) cache.lines
  pub drafts : All (λ draft. draft.key < keys) cache.drafts
  pub pinned : (worker key : ℕ) → pins_on worker key cache.lines ≡ pins_due (hand_of (progress worker)) key
  pub drafted : (worker key : ℕ) → count_by (is_draft worker key) cache.drafts ≡ drafts_due (hand_of (progress worker)) key
  pub put : (worker key : ℕ) → puts_on worker key cache.drafts ≡ puts_due (hand_of (progress worker)) key
  pub board_is : IsBoard board
  pub running : (worker task : ℕ) → state_at (is_run_by worker) board task ≡ runs (progress worker) task

abbrev pub progress_by : State → ℕ → Progress
progress_by state worker = progress_of (own worker state.log)

-- the clock is at most the number of entries that it began with and of those of the log, together
abbrev pub Valid : State → Type 0
Valid state = IsKept state.cache state.board (progress_by state) state.keys (state.opened.kept + state.opened.evicted + length state.log)
