-- What a run is seen by: its objects of the outside, before it and after it.
use Rattle.std.specs.Prelude.{ℕ, List, Option}
use Rattle.osb_base.specs.Shelves.{Files}
use Rattle.osb_base.specs.Fetchers.{FetcherState}
use Rattle.osb_answers.specs.Exports.{Count, ExporterSeen}

-- what the shelf holds, where it tells
pub record ShelfSeen : Type 0 where
  pub files : Option Files
  pub faults : Count

-- the fetchers in the list
pub record FetchersSeen : Type 0 where
  pub before : List FetcherState
  pub now : List FetcherState

-- the bytes that the keeper holds or none, where it tells
pub record KeeperSeen : Type 0 where
  pub before : Option (Option (List ℕ))
  pub now : Option (Option (List ℕ))
  pub faults : Count

-- the bytes of the sink, where it tells
pub record SinkSeen : Type 0 where
  pub before : Option (List ℕ)
  pub now : Option (List ℕ)
  pub faults : Count

-- all but the shelf, with the stages that were run
pub record Seen : Type 0 where
  pub fetchers : FetchersSeen
  pub keeper : KeeperSeen
  pub exporter : ExporterSeen
  pub sink : SinkSeen
  pub stages : Count
