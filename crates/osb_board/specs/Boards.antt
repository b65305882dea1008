-- A board: the tasks of a plan by number, the tasks that each one waits for, and how far each one is.
use Rattle.std.specs.Prelude.{◌≡◌, ◌≢◌, ℕ, zero, suc, ◌<◌, ◌≤◌, Bool, true, false, not, ◌&&◌, ◌==◌, if◌then◌else◌, List, [], ◌∷◌, map, All, Any, count_by, position, Option, Some, None}
use Rattle.std.specs.List.{list_any, list_all, slice_get, slice_index_or}
use Rattle.std.specs.Option.{option_map_or, option_and_then}
use Rattle.osb_tree.specs.declared.numbers.TaskNo.{TaskNo}
use Rattle.osb_tree.specs.declared.numbers.WorkerNo.{WorkerNo}
use Rattle.osb_board.specs.declared.tasks.Task.{Task}
use Rattle.osb_board.specs.declared.tasks.TaskState.{TaskState}
use Rattle.osb_board.specs.declared.tasks.TaskState.TheVariants.{Waiting, Running, Done}
use Rattle.osb_board.specs.declared.tasks.Claim.{Claim}
use Rattle.osb_board.specs.declared.tasks.Claim.TheVariants.{Task as Claimed, Idle, Over}

abbrev pub is_waiting : {O : Type 0} → TaskState O → Bool
is_waiting Waiting = true
is_waiting (Running worker) = false
is_waiting (Done outcome) = false

abbrev pub is_run_by : {O : Type 0} → ℕ → TaskState O → Bool
is_run_by number Waiting = false
is_run_by number (Running worker) = worker.0 == number
is_run_by number (Done outcome) = false

abbrev pub is_done : {O : Type 0} → TaskState O → Bool
is_done Waiting = false
is_done (Running worker) = false
is_done (Done outcome) = true

abbrev pub outcome_of : {O : Type 0} → TaskState O → Option O
outcome_of Waiting = None
outcome_of (Running worker) = None
outcome_of (Done outcome) = Some outcome

-- whether a board has a task of this number, and its state passes the test
abbrev pub state_at : {O : Type 0} → (TaskState O → Bool) → List (Task O) → ℕ → Bool
state_at test board number = option_map_or (λ task. test task.state) (slice_get board number) false

-- how many tasks are in a state that passes the test
abbrev pub state_count : {O : Type 0} → (TaskState O → Bool) → List (Task O) → ℕ
state_count test board = count_by (λ task. test task.state) board

-- some task is in a state that passes the test
abbrev pub has_state : {O : Type 0} → (TaskState O → Bool) → List (Task O) → Bool
has_state test board = list_any (λ task. test task.state) board

-- the outcome of the task of this number, where it is done
abbrev pub outcome_at : {O : Type 0} → List (Task O) → ℕ → Option O
outcome_at board number = option_and_then (λ task. outcome_of task.state) (slice_get board number)

-- all dependencies of a task are done
abbrev pub has_done_deps : {O : Type 0} → List (Task O) → Task O → Bool
has_done_deps board task = list_all (λ dep. state_at is_done board dep.0) task.deps

abbrev pub is_ready : {O : Type 0} → List (Task O) → Task O → Bool
is_ready board task = is_waiting task.state && has_done_deps board task

-- whether a board has a task of this number, and it is ready
abbrev pub is_ready_at : {O : Type 0} → List (Task O) → ℕ → Bool
is_ready_at board number = option_map_or (is_ready board) (slice_get board number) false

-- what a claim answers where some task waits, by the least task that is ready
abbrev pub ready_claim : Option ℕ → Claim
ready_claim None = Idle
ready_claim (Some number) = Claimed (record { 0 = number })

abbrev pub claim_of : {O : Type 0} → List (Task O) → Claim
claim_of board = if has_state is_waiting board then ready_claim (position (is_ready board) board) else Over

-- some task waits, and none is ready
abbrev pub is_idle : {O : Type 0} → List (Task O) → Bool
is_idle board = has_state is_waiting board && not (list_any (is_ready board) board)

-- the board with the task of this number in this state
abbrev pub with_state : {O : Type 0} → ℕ → TaskState O → List (Task O) → List (Task O)
with_state number state [] = []
with_state zero state (task ∷ tasks) = record task { state = state } ∷ tasks
with_state (suc number) state (task ∷ tasks) = task ∷ with_state number state tasks

-- the board after this answer to a claim of the worker
abbrev pub after_answer : {O : Type 0} → List (Task O) → WorkerNo → Claim → List (Task O)
after_answer board worker (Claimed task) = with_state task.0 (Running worker) board
after_answer board worker Idle = board
after_answer board worker Over = board

abbrev pub after_claim : {O : Type 0} → List (Task O) → WorkerNo → List (Task O)
after_claim board worker = after_answer board worker (claim_of board)

abbrev pub after_done : {O : Type 0} → List (Task O) → WorkerNo → TaskNo → O → List (Task O)
after_done board worker task outcome = with_state task.0 (Done outcome) board

-- the board of tasks with these dependencies, before any claim
abbrev pub new_board : {O : Type 0} → List (List TaskNo) → List (Task O)
new_board deps = map (λ deps. record { deps = deps; state = Waiting }) deps

-- the outcomes by task
abbrev pub outcomes : {O : Type 0} → List (Task O) → List (Option O)
outcomes board = map (λ task. outcome_of task.state) board

-- each dependency is lower than its task
abbrev pub AreLower : List (List TaskNo) → Type 0
AreLower deps = (task : ℕ) → All (λ dep. dep.0 < task) (slice_index_or deps task [])

-- the dependencies of a task that waits no more are done
abbrev pub HasDoneDeps : {O : Type 0} → List (Task O) → Type 0
HasDoneDeps board = All (λ task. is_waiting task.state ≡ false → has_done_deps board task ≡ true) board

-- what holds of each board; a worker runs one task at most
pub record IsBoard {O : Type 0} (board : List (Task O)) : Type 0 where
  pub lower : AreLower (map (λ task. task.deps) board)
  pub ready : HasDoneDeps board
  pub single : (worker : ℕ) → state_count (is_run_by worker) board ≤ 1

-- some task waits, none is ready, and a worker other than this one runs a task
pub record IsHeldUp {O : Type 0} (worker : ℕ) (board : List (Task O)) : Type 0 where
  pub waits : Any (λ task. is_waiting task.state ≡ true) board
  pub unready : All (λ task. is_ready board task ≡ false) board
  pub other : ℕ
  pub differs : other ≢ worker
  pub task : ℕ
  pub runs : state_at (is_run_by other) board task ≡ true
