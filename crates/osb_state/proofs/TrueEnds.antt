-- In a true state the script's actions keep the ends of tasks what is meant, and those that are told.
use Rattle.std.proofs.Common.{◌≡◌, ℕ, ◌==◌, Bool, true, false, cond, List, Option, Some, None, inl, inr, refl, sym, ap, subst, ◌∙◌}
use Rattle.std.specs.Prelude.{slice_get, option_and_then}
use Rattle.std.specs.Option.{option_map_or}
use Rattle.std.proofs.lemmas.Bool.{false≢true, eqb-true, eq-eqb, and_parts}
use Rattle.std.proofs.lemmas.Option.{none-some, same_Some}
use Rattle.osb_tree.specs.declared.numbers.TaskNo.{TaskNo}
use Rattle.osb_tree.specs.declared.numbers.WorkerNo.{WorkerNo}
use Rattle.osb_recipe.specs.Meanings.{meant}
use Rattle.osb_recipe.specs.Plans.{IsSound}
use Rattle.osb_recipe.specs.Tables.{IsTable}
use Rattle.osb_recipe.specs.declared.outcomes.Outcome.{Outcome}
use Rattle.osb_recipe.specs.declared.plans.Plan.{Plan}
use Rattle.osb_board.specs.declared.tasks.Task.{Task}
use Rattle.osb_board.specs.declared.tasks.TaskState.{TaskState}
use Rattle.osb_board.specs.declared.tasks.TaskState.TheVariants.{Waiting, Running, Done}
use Rattle.osb_board.specs.declared.tasks.Claim.{Claim}
use Rattle.osb_board.specs.declared.tasks.Claim.TheVariants as claims
use Rattle.osb_board.specs.Boards.{is_waiting, is_run_by, outcome_of, state_at, outcome_at, has_done_deps, is_ready, is_ready_at, claim_of, after_answer}
use Rattle.osb_board.specs.Laws.{ChangesOne}
use Rattle.osb_board.proofs.Changes.{claim_is_least, claim_changes_one, done_changes_one}
use Rattle.osb_job.specs.declared.actions.Action.{Action}
use Rattle.osb_job.specs.declared.actions.Action.TheVariants as actions
use Rattle.osb_job.specs.Scripts.{Hand, free, Progress, chain_at}
use Rattle.osb_job.specs.Allowed.{IsBusy}
use Rattle.osb_state.specs.States.{State, progress_in, part, Allows, board_after}
use Rattle.osb_state.specs.Kept.{runs, Valid}
use Rattle.osb_state.specs.Truth.{IsEnd, IsTrueState}
use Rattle.osb_state.proofs.Blocked.{told_blocked}
use Rattle.osb_state.proofs.Said.{SaysDone, Says}

-- ---- a task that waits or runs has no end

running_state : (worker : ℕ) (state : TaskState Outcome) → is_run_by worker state ≡ true → outcome_of state ≡ None
running_state worker Waiting runs = refl
running_state worker (Running number) runs = refl
running_state worker (Done outcome) runs = absurd (false≢true runs)

running_option : (worker : ℕ) (task : Option (Task Outcome)) → option_map_or (λ t. is_run_by worker t.state) task false ≡ true → option_and_then (λ t. outcome_of t.state) task ≡ None
running_option worker None runs = refl
running_option worker (Some task) runs = running_state worker task.state runs

running_none : (board : List (Task Outcome)) (worker task : ℕ) → state_at (is_run_by worker) board task ≡ true → outcome_at board task ≡ None
running_none board worker task runs = running_option worker (slice_get board task) runs

waiting_state : (state : TaskState Outcome) → is_waiting state ≡ true → outcome_of state ≡ None
waiting_state Waiting waits = refl
waiting_state (Running number) waits = refl
waiting_state (Done outcome) waits = absurd (false≢true waits)

ready_option : (board : List (Task Outcome)) (task : Option (Task Outcome)) → option_map_or (is_ready board) task false ≡ true → option_and_then (λ t. outcome_of t.state) task ≡ None
ready_option board None ready = refl
ready_option board (Some task) ready = waiting_state task.state (and_parts (is_waiting task.state) (has_done_deps board task) ready).0

ready_none : (board : List (Task Outcome)) (task : ℕ) → is_ready_at board task ≡ true → outcome_at board task ≡ None
ready_none board task ready = ready_option board (slice_get board task) ready

-- a worker in a block runs its task
pub runs_its : (state : State) (worker : WorkerNo) (task : TaskNo) (hand : Hand) → Valid state → IsBusy (part state worker) task hand → state_at (is_run_by worker.0) state.board task.0 ≡ true
runs_its state worker task hand valid busy =
    valid.running worker.0 task.0 ∙ ap (λ (p : Progress). runs p task.0) busy.at ∙ ap (λ (t : TaskNo). t.0 == task.0) busy.task_is ∙ eq-eqb task.0 task.0 refl

-- ---- what a change of the board keeps

pub record KeepsEnds (plan : Plan) (before now : List (Task Outcome)) : Type 0 where
  pub stay : (task : ℕ) (outcome : Outcome) → outcome_at before task ≡ Some outcome → outcome_at now task ≡ Some outcome
  pub ends : ((task : ℕ) (outcome : Outcome) → outcome_at before task ≡ Some outcome → IsEnd plan task outcome) → (task : ℕ) (outcome : Outcome) → outcome_at now task ≡ Some outcome → IsEnd plan task outcome

keeps_all : (plan : Plan) (board : List (Task Outcome)) → KeepsEnds plan board board
keeps_all plan board = record { stay = λ task outcome at. at; ends = λ old. old }

-- a task that had no end is in this state now
keeps_one : (plan : Plan) (before now : List (Task Outcome)) (number : ℕ) (state : TaskState Outcome) → ChangesOne before now number state → outcome_at before number ≡ None
    → ((outcome : Outcome) → outcome_of state ≡ Some outcome → IsEnd plan number outcome) → KeepsEnds plan before now
keeps_one plan before now number state changes none new =
    record {
      stay = λ task outcome at. changes.outcomes task ∙ stays task outcome at (task == number) refl;
      ends = λ old task outcome at. ends old task outcome (task == number) refl (sym (changes.outcomes task) ∙ at);
    }
  where
    stays : (task : ℕ) (outcome : Outcome) → outcome_at before task ≡ Some outcome → (b : Bool) → (task == number) ≡ b → cond b (outcome_of state) (outcome_at before task) ≡ Some outcome
    stays task outcome at true e = absurd (none-some outcome (sym (ap (outcome_at before) (eqb-true task number e) ∙ none) ∙ at))
    stays task outcome at false e = at

    ends : ((task : ℕ) (outcome : Outcome) → outcome_at before task ≡ Some outcome → IsEnd plan task outcome) → (task : ℕ) (outcome : Outcome) (b : Bool) → (task == number) ≡ b → cond b (outcome_of state) (outcome_at before task) ≡ Some outcome → IsEnd plan task outcome
    ends old task outcome true e at = subst (λ (n : ℕ). IsEnd plan n outcome) (sym (eqb-true task number e)) (new outcome at)
    ends old task outcome false e at = old task outcome at

claim_keeps : (plan : Plan) (board : List (Task Outcome)) (worker : WorkerNo) (claim : Claim) → claim_of board ≡ claim → KeepsEnds plan board (after_answer board worker claim)
claim_keeps plan board worker (claims.Task task) e =
    keeps_one plan board (after_answer board worker (claims.Task task)) task.0 (Running worker)
    (subst (λ (claim : Claim). ChangesOne board (after_answer board worker claim) task.0 (Running worker)) e (claim_changes_one Outcome board worker task e))
    (ready_none board task.0 (claim_is_least Outcome board task e).ready)
    (λ outcome at. absurd (none-some outcome at))
claim_keeps plan board worker claims.Idle e = keeps_all plan board
claim_keeps plan board worker claims.Over e = keeps_all plan board

-- ---- the script's ends

said_end : (plan : Plan) (state : State) (worker : WorkerNo) (task : TaskNo) (outcome : Outcome) → IsSound plan → IsTable plan.table → IsTrueState plan state → SaysDone plan (progress_in state worker) task outcome → IsEnd plan task.0 outcome
said_end plan state worker task outcome sound table s said = elim said.ends [
  | inl plain ↦ elim plain [
    | inl means ↦ inl (means ∙ here)
    | inr memory ↦ inr memory
  ]
  | inr blocked ↦ inl (blocked.is ∙ sym (told_blocked plan state said.block sound table s.ends (s.told worker.0 said.block said.at) blocked.memory blocked.without) ∙ here)
]
  where
    here : meant plan.table (chain_at plan said.block.task) ≡ meant plan.table (chain_at plan task)
    here = ap (λ (t : TaskNo). meant plan.table (chain_at plan t)) said.task_is

done_keeps : (plan : Plan) (state : State) (worker : WorkerNo) (task : TaskNo) (outcome : Outcome) (hand : Hand) → IsSound plan → IsTable plan.table → IsTrueState plan state → IsBusy (part state worker) task hand → SaysDone plan (progress_in state worker) task outcome
    → KeepsEnds plan state.board (board_after state.board worker (actions.Done task outcome))
done_keeps plan state worker task outcome hand sound table s busy said =
    let running = runs_its state worker task hand s.valid busy in
    keeps_one plan state.board (board_after state.board worker (actions.Done task outcome)) task.0 (Done outcome) (done_changes_one Outcome state.board worker task outcome running) (running_none state.board worker.0 task.0 running)
    (λ other at. subst (IsEnd plan task.0) (same_Some outcome other at) (said_end plan state worker task outcome sound table s said))

pub keeps_ends : (plan : Plan) (state : State) (worker : WorkerNo) (action : Action) → IsSound plan → IsTable plan.table → IsTrueState plan state → Allows state worker action → Says plan (progress_in state worker) action → KeepsEnds plan state.board (board_after state.board worker action)
keeps_ends plan state worker actions.Claim sound table s can said = claim_keeps plan state.board worker (claim_of state.board) refl
keeps_ends plan state worker (actions.Fetch dep) sound table s can said = keeps_all plan state.board
keeps_ends plan state worker (actions.Look task) sound table s can said = keeps_all plan state.board
keeps_ends plan state worker (actions.Read key place) sound table s can said = keeps_all plan state.board
keeps_ends plan state worker (actions.Unpin key) sound table s can said = keeps_all plan state.board
keeps_ends plan state worker (actions.Reserve key size count) sound table s can said = keeps_all plan state.board
keeps_ends plan state worker (actions.Put key chunk) sound table s can said = keeps_all plan state.board
keeps_ends plan state worker (actions.Commit key) sound table s can said = keeps_all plan state.board
keeps_ends plan state worker (actions.Drop key) sound table s can said = keeps_all plan state.board
keeps_ends plan state worker (actions.Done task outcome) sound table s can said = done_keeps plan state worker task outcome free sound table s can said
