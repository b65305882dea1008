-- What `run_schedule` gives.
use Rattle.std.specs.Prelude.{◌≡◌, ◌≢◌, ℕ, ◌<◌, true, false, List, [], ◌∷◌, length, map, All, Option, Some, None, slice_get, slice_set}
use Rattle.std.specs.List.{zip}
use Rattle.std.specs.Map.{keys_of}
use Rattle.osb_tree.specs.Trees.{Listing, tree_size}
use Rattle.osb_tree.specs.Chunks.{AreOfATree}
use Rattle.osb_tree.specs.declared.numbers.WorkerNo.{WorkerNo}
use Rattle.osb_recipe.specs.declared.plans.Plan.{Plan}
use Rattle.osb_cache.specs.Caches.{CanOpen}
use Rattle.osb_cache.specs.declared.answers.Stored.{Stored}
use Rattle.osb_job.specs.declared.actions.Action.{Action}
use Rattle.osb_job.specs.declared.actions.Flag.{Flag}
use Rattle.osb_job.specs.declared.actions.Flag.TheVariants.{Fine, ActRefused, WorkRefused}
use Rattle.osb_job.specs.declared.places.Place.{Place}
use Rattle.osb_job.specs.Jobs.{JobState, wants}
use Rattle.osb_job.specs.Scripts.{next}
use Rattle.osb_state.specs.States.{State, progress_in, is_refusable}
use Rattle.osb_state.specs.Runs.{Course, step, run}
use Rattle.osb_state.specs.Openings.{opened_state}
use Rattle.osb_state.specs.Truth.{IsTrueOpening}
use Rattle.osb_state.specs.Turns.{Acts, Turns, GoesBy}

-- a state as it is opened with some entries of the plan's keys, each the chunks of a tree, and a limit
pub record IsOpening (plan : Plan) (opening : List (Stored Listing)) (limit : ℕ) (state : State) : Type 0 where
  pub can_open : CanOpen tree_size limit opening
  pub known : All (λ stored. stored.key.0 < length plan.table.recipes) opening
  pub trees : All (λ stored. AreOfATree stored.chunks) opening
  pub is : state ≡ opened_state plan opening limit

-- where each entry of the opening is what its key means
abbrev pub FromTrueOpening : Plan → State → (List (Stored Listing) → ℕ → Type 0) → Type 0
FromTrueOpening plan state Holds = (opening : List (Stored Listing)) (limit : ℕ) → IsOpening plan opening limit state → IsTrueOpening plan opening → Holds opening limit

-- as which flag one counts at a turn whose job wants this: memory may be refused where no flag says so; an action that takes
-- none is never refused
abbrev pub Counts : Option Action → Flag → Flag → Type 0
Counts wanted Fine met = Unit {0}
Counts None ActRefused met = Unit {0}
Counts (Some action) ActRefused met = is_refusable action ≡ true → met ≡ ActRefused
Counts wanted WorkRefused met = met ≢ Fine

pub record Turned (plan : Plan) (worker : WorkerNo) (flag : Flag) (state state' : State) (place place' : Place) : Type 0 where
  pub met : Flag
  pub counts : Counts (wants place) flag met
  pub turns : Turns plan worker met state state' place place'

-- the same of a job that has asked, where its action need not wait
pub record Acted (plan : Plan) (worker : WorkerNo) (flag : Flag) (state state' : State) (place place' : Place) (action : Action) : Type 0 where
  pub met : Flag
  pub counts : Counts (Some action) flag met
  pub acts : Acts plan worker met state state' place place' action

abbrev pub places_of : List JobState → List Place
places_of jobs = map (λ job. job.place) jobs

-- jobs stand by the numbers of their workers
abbrev pub HaveNumbers : List JobState → Type 0
HaveNumbers jobs = (number : ℕ) (job : JobState) → slice_get jobs number ≡ Some job → job.worker.0 ≡ number

-- ---- a whole schedule

-- each turn is made by its worker, one after the other: from a state with its jobs to one at the end
pub data Runs (plan : Plan) (end : State) (last : List Place) : State → List Place → List (WorkerNo × Flag) → Type 0 where
  stops : Runs plan end last end last []
  goes_on : (state state' : State) (places : List Place) (place place' : Place) (worker : WorkerNo) (flag : Flag) (schedule : List (WorkerNo × Flag)) → slice_get places worker.0 ≡ Some place → Turned plan worker flag state state' place place'
      → Runs plan end last state' (slice_set places worker.0 place') schedule → Runs plan end last state places ((worker, flag) ∷ schedule)

-- the flags that were met, one for each turn of a course
abbrev pub CountAlong : Plan → Course → List (WorkerNo × Flag) → List Flag → Type 0
CountAlong plan course [] [] = Unit {0}
CountAlong plan course (turn ∷ schedule) (met ∷ mets) =
    Counts (next plan (progress_in course.state turn.0) (course.refused turn.0.0)) turn.1 met × CountAlong plan (step plan course (turn.0, met)) schedule mets
CountAlong plan course schedule mets = ⊥

abbrev pub start : Plan → List (Stored Listing) → ℕ → Course
start plan opening limit = record { state = opened_state plan opening limit; refused = λ worker. false }

-- from a true opening, the state is that of the run under the flags that were met
pub record IsRunBy (plan : Plan) (opening : List (Stored Listing)) (limit : ℕ) (schedule : List (WorkerNo × Flag)) (state : State) (places : List Place) : Type 0 where
  pub mets : List Flag
  pub counts : CountAlong plan (start plan opening limit) schedule mets
  pub is : (run plan (start plan opening limit) (zip (keys_of schedule) mets)).state ≡ state
  pub goes : GoesBy plan (run plan (start plan opening limit) (zip (keys_of schedule) mets)) places
