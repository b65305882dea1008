-- How many stages a worker runs.
use Rattle.std.specs.Prelude.{◌≡◌, ℕ, ◌+◌, ◌≤◌, Bool, true, false, List, [], ◌∷◌, Some, is_none, if◌then◌else◌}
use Rattle.std.specs.List.{list_all}
use Rattle.osb_tree.specs.declared.numbers.Key.{Key}
use Rattle.osb_recipe.specs.Meanings.{meaning}
use Rattle.osb_recipe.specs.Plans.{IsSound}
use Rattle.osb_recipe.specs.Tables.{IsTable}
use Rattle.osb_recipe.specs.declared.plans.Plan.{Plan}
use Rattle.osb_job.specs.declared.actions.Action.{Action}
use Rattle.osb_job.specs.declared.actions.Reply.{Reply}
use Rattle.osb_job.specs.declared.entries.Entry.{Entry}
use Rattle.osb_job.specs.declared.entries.Event.{Event}
use Rattle.osb_job.specs.declared.entries.Event.TheVariants as events
use Rattle.osb_job.specs.declared.places.Place.{Place}
use Rattle.osb_job.specs.declared.places.Place.TheVariants.{Outside}
use Rattle.osb_job.specs.Scripts.{Block, Progress, idle, busy, over, turn, is_tree, chain_at, left_after}
use Rattle.osb_job.specs.Jobs.{wants, asked, taken, refused, Fits, IsPlace}
use Rattle.osb_job.specs.Moves.{event_of, refused_after, IsTrue}

-- the stages of some keys, up to and with the first that makes no tree
abbrev pub stages_up_to : Plan → List Key → ℕ
stages_up_to plan [] = 0
stages_up_to plan (key ∷ keys) = 1 + (if is_none (meaning plan.table key) then 0 else stages_up_to plan keys)

-- the most stages of a block: those of its chain behind the hit, where it has fetched trees only
abbrev pub stages_in : Plan → Block → ℕ
stages_in plan block = if list_all is_tree block.words then stages_up_to plan (left_after block.looked (chain_at plan block.task)) else 0

abbrev pub stages_ended : Plan → Progress → Event → ℕ
stages_ended plan (busy block) (events.Done task word) = stages_in plan block
stages_ended plan progress event = 0

-- those of the blocks that end in some entries of a worker, which was so far before them
abbrev pub stages_run : Plan → Progress → List Entry → ℕ
stages_run plan progress [] = 0
stages_run plan progress (entry ∷ entries) = stages_ended plan progress entry.event + stages_run plan (turn progress entry.event) entries

-- ---- what a job has run since its last claim

abbrev pub since : Event → ℕ → ℕ
since (events.Done task word) steps = 0
since event steps = steps

-- a job with no more than so many stages run in its block: it goes on with a reply that is true, or memory is refused to
-- its action, or to the work behind the reply
pub data Spends (plan : Plan) : Place → Progress → Bool → ℕ → Type 0 where
  begins : Spends plan Outside idle false 0
  goes_on : (place place' : Place) (progress : Progress) (off : Bool) (action : Action) (reply : Reply) (puts : ℕ) (event : Event) (steps : ℕ) → Spends plan place progress off steps → wants place ≡ Some action → event_of puts action reply ≡ Some event → Fits plan (asked place) reply → IsTrue plan (asked place) reply
      → place' ≡ (taken plan (asked place) reply).place → IsPlace place' → Spends plan place' (turn progress event) (refused_after event off) (since event (steps + (taken plan (asked place) reply).steps))
  gives_up : (place place' : Place) (progress : Progress) (off : Bool) (steps : ℕ) → Spends plan place progress off steps → place' ≡ refused place → Spends plan place' progress true steps
  breaks_off : (place place' : Place) (progress : Progress) (off : Bool) (action : Action) (reply : Reply) (puts : ℕ) (event : Event) (steps : ℕ) → Spends plan place progress off steps → wants place ≡ Some action → event_of puts action reply ≡ Some event → Fits plan (asked place) reply → IsTrue plan (asked place) reply
      → place' ≡ refused (taken plan (asked place) reply).place → Spends plan place' (turn progress event) true (since event (steps + (taken plan (asked place) reply).steps))

abbrev pub IsSpent : Plan → Progress → ℕ → Type 0
IsSpent plan idle steps = steps ≡ 0
IsSpent plan (busy block) steps = steps ≤ stages_in plan block
IsSpent plan over steps = steps ≡ 0

-- it runs no more stages than its block has
abbrev pub BlocksAreSpent : Type 0
BlocksAreSpent =
    (plan : Plan) (place : Place) (progress : Progress) (off : Bool) (steps : ℕ) → IsSound plan → IsTable plan.table → Spends plan place progress off steps → IsSpent plan progress steps
