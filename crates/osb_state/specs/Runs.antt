-- The machine over numbers and lists: the state after a log, and the run of a schedule.
use Rattle.std.specs.Prelude.{◌≡◌, ℕ, ◌<◌, ◌==◌, ◌&&◌, ◌||◌, Bool, true, false, not, List, [], ◌∷◌, length, Option, Some, None, if◌then◌else◌}
use Rattle.std.specs.List.{slice_index_or}
use Rattle.osb_tree.specs.declared.numbers.Key.{Key}
use Rattle.osb_tree.specs.declared.numbers.TaskNo.{TaskNo}
use Rattle.osb_tree.specs.declared.numbers.WorkerNo.{WorkerNo}
use Rattle.osb_recipe.specs.Meanings.{meant}
use Rattle.osb_recipe.specs.declared.outcomes.Outcome.{Outcome}
use Rattle.osb_recipe.specs.declared.outcomes.Outcome.TheVariants as outcomes
use Rattle.osb_recipe.specs.declared.plans.Plan.{Plan}
use Rattle.osb_job.specs.declared.actions.Action.{Action}
use Rattle.osb_job.specs.declared.actions.Action.TheVariants as actions
use Rattle.osb_job.specs.declared.actions.Flag.{Flag}
use Rattle.osb_job.specs.declared.actions.Flag.TheVariants.{Fine, ActRefused, WorkRefused}
use Rattle.osb_job.specs.declared.entries.Word.{Word}
use Rattle.osb_job.specs.declared.entries.Word.TheVariants as words
use Rattle.osb_job.specs.declared.entries.Event.{Event}
use Rattle.osb_job.specs.declared.entries.Event.TheVariants as events
use Rattle.osb_job.specs.declared.entries.Entry.{Entry}
use Rattle.osb_job.specs.Scripts.{Progress, idle, busy, over, next, chain_at, chunks_meant, size_meant}
use Rattle.osb_state.specs.States.{State, progress_in, is_ready, is_refusable, entries_of, after}

-- ---- the state after a log, whose entries tell its actions

abbrev pub task_of : Progress → TaskNo
task_of idle = record { 0 = 0 }
task_of (busy block) = block.task
task_of over = record { 0 = 0 }

abbrev pub reserve_of : Plan → Key → Action
reserve_of plan key = actions.Reserve key (size_meant plan key) (length (chunks_meant plan key))

-- the outcome of a task that ended with a word
abbrev pub outcome_of : Plan → TaskNo → Word → Outcome
outcome_of plan task words.Tree = meant plan.table (chain_at plan task)
outcome_of plan task words.Fault = meant plan.table (chain_at plan task)
outcome_of plan task words.Blocked = meant plan.table (chain_at plan task)
outcome_of plan task words.NoMemory = outcomes.NoMemory

-- the action of an event of a worker that is so far: sizes, chunks and outcomes are those that the plan means
abbrev pub action_of : Plan → Progress → Event → Action
action_of plan progress (events.Claim task) = actions.Claim
action_of plan progress events.Over = actions.Claim
action_of plan progress (events.Fetch dep word) = actions.Fetch dep
action_of plan progress (events.Hit key) = actions.Look (task_of progress)
action_of plan progress events.Miss = actions.Look (task_of progress)
action_of plan progress (events.Read key place) = actions.Read key place
action_of plan progress (events.Unpin key) = actions.Unpin key
action_of plan progress (events.Room key evicted) = reserve_of plan key
action_of plan progress (events.Already key) = reserve_of plan key
action_of plan progress (events.TooLarge key) = reserve_of plan key
action_of plan progress (events.Full key) = reserve_of plan key
action_of plan progress (events.Put key place) = actions.Put key (slice_index_or (chunks_meant plan key) place [])
action_of plan progress (events.Commit key) = actions.Commit key
action_of plan progress (events.Drop key) = actions.Drop key
action_of plan progress (events.Done task word) = actions.Done task (outcome_of plan task word)

abbrev pub replay : Plan → State → List Entry → State
replay plan state [] = state
replay plan state (entry ∷ log) = replay plan (after state entry.worker (action_of plan (progress_in state entry.worker) entry.event)) log

-- ---- the run of a schedule

-- the state, and by worker whether memory was refused in its block
pub record Course : Type 0 where
  pub state : State
  pub refused : ℕ → Bool

abbrev pub change : (ℕ → Bool) → WorkerNo → Bool → ℕ → Bool
change refused worker now other = if other == worker.0 then now else refused other

abbrev pub is_done : Action → Bool
is_done (actions.Done task outcome) = true
is_done action = false

abbrev pub is_act_refused : Flag → Action → Bool
is_act_refused Fine action = false
is_act_refused ActRefused action = is_refusable action
is_act_refused WorkRefused action = false

abbrev pub is_work_refused : Flag → Bool
is_work_refused Fine = false
is_work_refused ActRefused = false
is_work_refused WorkRefused = true

-- an idle claim changes nothing; a refused action is no entry; what takes no memory is not refused
abbrev pub acted : Course → WorkerNo → Flag → Action → Course
acted course worker flag action =
    if not (is_ready course.state action) then course
    else if is_act_refused flag action then record { state = course.state; refused = change course.refused worker true }
    else record {
      state = after course.state worker action;
      refused = change course.refused worker (is_work_refused flag || (not (is_done action) && course.refused worker.0));
    }

abbrev pub acts : Course → WorkerNo → Flag → Option Action → Course
acts course worker flag None = course
acts course worker flag (Some action) = acted course worker flag action

abbrev pub step : Plan → Course → WorkerNo × Flag → Course
step plan course turn = acts course turn.0 turn.1 (next plan (progress_in course.state turn.0) (course.refused turn.0.0))

abbrev pub run : Plan → Course → List (WorkerNo × Flag) → Course
run plan course [] = course
run plan course (turn ∷ schedule) = run plan (step plan course turn) schedule

-- ---- which logs are runs of so many workers: in each block a worker goes by the script, from where memory was refused on
-- by what the script says then

pub data IsRunFrom (plan : Plan) (workers : ℕ) : State → (ℕ → Bool) → List Entry → Type 0 where
  ends : (state : State) (refused : ℕ → Bool) → IsRunFrom plan workers state refused []
  goes_on : (state : State) (refused : ℕ → Bool) (action : Action) (entry : Entry) (log : List Entry) → entry.worker.0 < workers → next plan (progress_in state entry.worker) (refused entry.worker.0) ≡ Some action → entries_of state entry.worker action ≡ entry ∷ []
      → IsRunFrom plan workers (after state entry.worker action) (change refused entry.worker (not (is_done action) && refused entry.worker.0)) log → IsRunFrom plan workers state refused (entry ∷ log)
  gives_up : (state : State) (refused : ℕ → Bool) (worker : WorkerNo) (log : List Entry) → IsRunFrom plan workers state (change refused worker true) log → IsRunFrom plan workers state refused log
