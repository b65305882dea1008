-- What later crates rest on: what a claim answers, and what the calls change and keep.
use Rattle.std.specs.Prelude.{◌≡◌, ◌↔◌, ℕ, ◌<◌, Bool, true, false, ◌==◌, if◌then◌else◌, List, map}
use Rattle.osb_tree.specs.declared.numbers.TaskNo.{TaskNo}
use Rattle.osb_tree.specs.declared.numbers.WorkerNo.{WorkerNo}
use Rattle.osb_board.specs.declared.tasks.Task.{Task}
use Rattle.osb_board.specs.declared.tasks.TaskState.{TaskState}
use Rattle.osb_board.specs.declared.tasks.TaskState.TheVariants.{Running, Done}
use Rattle.osb_board.specs.declared.tasks.Claim.TheVariants.{Task as Claimed, Idle}
use Rattle.osb_board.specs.Boards.{is_run_by, outcome_of, state_at, state_count, outcome_at, is_ready_at, claim_of, is_idle, after_claim, after_done, new_board, AreLower, IsBoard, IsHeldUp}

-- this task is ready, and no lower one is
pub record IsLeastReady {O : Type 0} (board : List (Task O)) (number : ℕ) : Type 0 where
  pub ready : is_ready_at board number ≡ true
  pub before : (task : ℕ) → task < number → is_ready_at board task ≡ false

-- a claimed task is the least that is ready
abbrev pub ClaimIsLeast : Type 0 → Type 0
ClaimIsLeast O = (board : List (Task O)) (task : TaskNo) → claim_of board ≡ Claimed task → IsLeastReady board task.0

-- where the claim of a worker that runs no task is idle, another worker runs one
abbrev pub IdleIsHeldUp : Type 0 → Type 0
IdleIsHeldUp O =
    (board : List (Task O)) (worker : WorkerNo) → IsBoard board → state_count (is_run_by worker.0) board ≡ 0 → claim_of board ≡ Idle → IsHeldUp worker.0 board

-- a board is idle exactly where a claim is
abbrev pub IdleBoardIsIdleClaim : Type 0 → Type 0
IdleBoardIsIdleClaim O = (board : List (Task O)) → (is_idle board ≡ true) ↔ (claim_of board ≡ Idle)

-- a worker runs no task exactly where it runs none of the numbers
abbrev pub RunsNone : Type 0 → Type 0
RunsNone O = (board : List (Task O)) (worker : ℕ) → (state_count (is_run_by worker) board ≡ 0) ↔ ((task : ℕ) → state_at (is_run_by worker) board task ≡ false)

-- the task of this number is in this state now, and nothing else has changed
pub record ChangesOne {O : Type 0} (before now : List (Task O)) (number : ℕ) (state : TaskState O) : Type 0 where
  pub deps : map (λ task. task.deps) now ≡ map (λ task. task.deps) before
  pub states : (test : TaskState O → Bool) (task : ℕ) → state_at test now task ≡ (if task == number then test state else state_at test before task)
  pub outcomes : (task : ℕ) → outcome_at now task ≡ (if task == number then outcome_of state else outcome_at before task)

abbrev pub ClaimChangesOne : Type 0 → Type 0
ClaimChangesOne O =
    (board : List (Task O)) (worker : WorkerNo) (task : TaskNo) → claim_of board ≡ Claimed task → ChangesOne board (after_claim board worker) task.0 (Running worker)

abbrev pub DoneChangesOne : Type 0 → Type 0
DoneChangesOne O =
    (board : List (Task O)) (worker : WorkerNo) (task : TaskNo) (outcome : O) → state_at (is_run_by worker.0) board task.0 ≡ true → ChangesOne board (after_done board worker task outcome) task.0 (Done outcome)

-- what holds of each board holds of a new one, and stays under claims and ends
pub record BoardsStay (O : Type 0) : Type 0 where
  pub new : (deps : List (List TaskNo)) → AreLower deps → IsBoard {O = O} (new_board deps)
  pub claim : (board : List (Task O)) (worker : WorkerNo) → IsBoard board → state_count (is_run_by worker.0) board ≡ 0 → IsBoard (after_claim board worker)
  pub done : (board : List (Task O)) (worker : WorkerNo) (task : TaskNo) (outcome : O) → IsBoard board → state_at (is_run_by worker.0) board task.0 ≡ true → IsBoard (after_done board worker task outcome)
