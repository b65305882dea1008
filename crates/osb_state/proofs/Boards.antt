-- What an action leaves of the board.
use Rattle.std.proofs.Common.{◌≡◌, List, map, refl}
use Rattle.osb_tree.specs.declared.numbers.TaskNo.{TaskNo}
use Rattle.osb_tree.specs.declared.numbers.WorkerNo.{WorkerNo}
use Rattle.osb_recipe.specs.declared.outcomes.Outcome.{Outcome}
use Rattle.osb_board.specs.declared.tasks.Task.{Task}
use Rattle.osb_board.specs.declared.tasks.TaskState.TheVariants.{Running, Done}
use Rattle.osb_board.specs.declared.tasks.Claim.{Claim}
use Rattle.osb_board.specs.declared.tasks.Claim.TheVariants as claims
use Rattle.osb_board.specs.Boards.{claim_of, after_answer}
use Rattle.osb_board.proofs.States.{deps-with_state}
use Rattle.osb_job.specs.declared.actions.Action.{Action}
use Rattle.osb_job.specs.declared.actions.Action.TheVariants as actions
use Rattle.osb_state.specs.States.{board_after}

abbrev pub deps_of : List (Task Outcome) → List (List TaskNo)
deps_of board = map (λ task. task.deps) board

deps_answer : (board : List (Task Outcome)) (worker : WorkerNo) (claim : Claim) → deps_of (after_answer board worker claim) ≡ deps_of board
deps_answer board worker (claims.Task task) = deps-with_state task.0 (Running worker) board
deps_answer board worker claims.Idle = refl
deps_answer board worker claims.Over = refl

-- the dependencies of tasks stay
pub deps_stay : (board : List (Task Outcome)) (worker : WorkerNo) (action : Action) → deps_of (board_after board worker action) ≡ deps_of board
deps_stay board worker actions.Claim = deps_answer board worker (claim_of board)
deps_stay board worker (actions.Fetch dep) = refl
deps_stay board worker (actions.Look task) = refl
deps_stay board worker (actions.Read key place) = refl
deps_stay board worker (actions.Unpin key) = refl
deps_stay board worker (actions.Reserve key size count) = refl
deps_stay board worker (actions.Put key chunk) = refl
deps_stay board worker (actions.Commit key) = refl
deps_stay board worker (actions.Drop key) = refl
deps_stay board worker (actions.Done task outcome) = deps-with_state task.0 (Done outcome) board
