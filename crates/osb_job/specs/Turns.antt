-- What the code of a job says of its parts.
use Rattle.std.specs.Prelude.{◌≡◌, ◌⊎◌}
use Rattle.osb_job.specs.declared.places.Place.{Place}
use Rattle.osb_job.specs.declared.places.Place.TheVariants.{Reserving, Filling, Putting, Ending, Ended}
use Rattle.osb_job.specs.Jobs.{refused}

-- no stage was run: the place is the one that is due, or memory was refused
abbrev pub IsMade : Place → Place → Type 0
IsMade next place = (place ≡ next) ⊎ (place ≡ refused next)

-- nothing that a job hands out goes with its next action
abbrev pub KeepsAll : Place → Type 0
KeepsAll (Filling setup key tree run parts) = ⊥
KeepsAll (Putting setup key tree run parts) = ⊥
KeepsAll (Ending task outcome) = ⊥
KeepsAll Ended = ⊥
KeepsAll place = Unit {0}

-- the tree of a marked key is stored
abbrev pub Stores : Place → Type 0
Stores (Reserving setup key tree run) = Unit {0}
Stores (Filling setup key tree run parts) = Unit {0}
Stores (Putting setup key tree run parts) = Unit {0}
Stores place = ⊥
