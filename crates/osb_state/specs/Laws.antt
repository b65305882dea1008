-- What the turnstile asks of the shared state, and what a job asks of its own actions.
use Rattle.std.specs.Prelude.{◌≡◌, ◌≢◌, Some}
use Rattle.osb_tree.specs.declared.numbers.WorkerNo.{WorkerNo}
use Rattle.osb_job.specs.declared.actions.Action.{Action}
use Rattle.osb_job.specs.declared.entries.Event.{Event}
use Rattle.osb_job.specs.Moves.{Moves, event_of, puts_of}
use Rattle.osb_state.specs.States.{State, part, Allows, gives, after}
use Rattle.osb_state.specs.Kept.{Valid}

-- an allowed action keeps what holds
abbrev pub ValidStays : Type 0
ValidStays = (state : State) (worker : WorkerNo) (action : Action) → Valid state → Allows state worker action → Valid (after state worker action)

-- an allowed action of another worker leaves the own part as it is
abbrev pub PartStays : Type 0
PartStays = (state : State) (worker other : WorkerNo) (action : Action) → Valid state → Allows state worker action → other ≢ worker → part (after state worker action) other ≡ part state other

-- an own action that is an entry changes the own part as a job expects it
abbrev pub OwnMoves : Type 0
OwnMoves =
    (state : State) (worker : WorkerNo) (action : Action) (event : Event) → Valid state → Allows state worker action
    → event_of (puts_of (part state worker)) action (gives state worker action) ≡ Some event → Moves worker action (gives state worker action) (part state worker) (part (after state worker action) worker)
