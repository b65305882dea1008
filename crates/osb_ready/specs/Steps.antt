-- What the steps of preparing a build give.
use Rattle.std.specs.Prelude.{◌≡◌, ◌≢◌, ℕ, List, Result, Err}
use Rattle.osb_base.specs.Fetchers.{FetcherState}
use Rattle.osb_sources.specs.Rounds.{Gathers, SomeRose}
use Rattle.osb_sources.specs.declared.answers.SourceAnswer.{SourceAnswer}
use Rattle.osb_sources.specs.declared.answers.SourceAnswer.TheVariants.{Fault}
use Rattle.osb_plan.specs.declared.builds.Build.{Build}
use Rattle.osb_ready.specs.Readying.{Asked}
use Rattle.osb_ready.specs.declared.unbuilt.Unbuilt.{Unbuilt}
use Rattle.osb_ready.specs.declared.unbuilt.Unbuilt.TheVariants.{Source, NoMemory}

-- the fetchers before, those left, and a build by what was gathered of some items
pub record IsReadied (asked : Asked) (ready_by : Result (List (List ℕ)) SourceAnswer → Result Build Unbuilt) (before now : List FetcherState) (ready : Result Build Unbuilt) : Type 0 where
  pub gathered : Result (List (List ℕ)) SourceAnswer
  pub gathers : Gathers asked.items asked.digests before now gathered
  pub due : ready ≢ Err NoMemory → ready ≡ ready_by gathered
  pub cause : (digest : List ℕ) → ready ≡ Err (Source (Fault digest)) → SomeRose before now
