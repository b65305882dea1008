-- The builds of a run: prepared one after another, and what comes of each.
use Rattle.std.specs.Prelude.{◌≡◌, ◌≢◌, ℕ, ◌+◌, List, [], ◌∷◌, slice_get, Some, Result, Ok, Err}
use Rattle.osb_tree.specs.declared.numbers.TaskNo.{TaskNo}
use Rattle.osb_base.specs.Fetchers.{FetcherState}
use Rattle.osb_recipe.specs.declared.outcomes.Outcome.{Outcome}
use Rattle.osb_recipe.specs.declared.plans.Plan.{Plan}
use Rattle.osb_plan.specs.Bridge.{IsReady}
use Rattle.osb_plan.specs.declared.builds.Build.{Build}
use Rattle.osb_words.specs.declared.requests.Settings.{Settings}
use Rattle.osb_ready.specs.Readying.{Reply, IsPrepared}
use Rattle.osb_ready.specs.Ends.{AreTaskEnds}
use Rattle.osb_ready.specs.Trees.{IsOfBuild, exports_due}
use Rattle.osb_ready.specs.declared.exports.Export.{Export}
use Rattle.osb_ready.specs.declared.unbuilt.Unbuilt.{Unbuilt}
use Rattle.osb_ready.specs.declared.unbuilt.Unbuilt.TheVariants.{NoMemory}

-- ---- before the plan

-- builds are prepared one after another, from what the shelf gave for each; what fetchers one leaves the next finds
pub data ArePrepared (settings : Settings) : List FetcherState → List Reply → List (Result Build Unbuilt) → List FetcherState → Type 0 where
  all_prepared : (fetchers : List FetcherState) → ArePrepared settings fetchers [] [] fetchers
  one_prepared : (before between now : List FetcherState) (given : Reply) (ready : Result Build Unbuilt) (reads : List Reply) (builds : List (Result Build Unbuilt))
      → IsPrepared settings given before between ready → ArePrepared settings between reads builds now → ArePrepared settings before (given ∷ reads) (ready ∷ builds) now

-- the place that a build has among those that are planned, the next of which has this one; or why it is none of them
abbrev pub place_of : ℕ → Result Build Unbuilt → Result ℕ Unbuilt
place_of next (Ok build) = Ok next
place_of next (Err why) = Err why

abbrev pub next_after : ℕ → Result Build Unbuilt → ℕ
next_after next (Ok build) = next + 1
next_after next (Err why) = next

abbrev pub places_from : ℕ → List (Result Build Unbuilt) → List (Result ℕ Unbuilt)
places_from next [] = []
places_from next (ready ∷ readies) = place_of next ready ∷ places_from (next_after next ready) readies

-- ---- after the plan's run

-- want of memory may stand in the place of what is due
abbrev pub MayCome : Result (List Export) Unbuilt → Result (List Export) Unbuilt → Type 0
MayCome due came = came ≢ Err NoMemory → came ≡ due

-- what comes of the build at a place among the planned ones, by the outcomes of the plan's tasks
abbrev pub IsCameAt : List (List ℕ) → List Build → Plan → List Outcome → Result ℕ Unbuilt → Result (List Export) Unbuilt → Type 0
IsCameAt names planned plan outcomes (Err why) came = came ≡ Err why
IsCameAt names planned plan outcomes (Ok place) came =
    IsOfBuild came
    × ((build : Build) (numbers : List TaskNo) → slice_get planned place ≡ Some build → slice_get plan.builds place ≡ Some numbers → IsReady build → AreTaskEnds plan build numbers outcomes → MayCome (exports_due names build) came)

-- what comes of a build; of one that is planned what is due, if what it rests on is true
abbrev pub IsCame : List (List ℕ) → Type 0 → Result Build Unbuilt → Result (List Export) Unbuilt → Type 0
IsCame names truth (Err why) came = came ≡ Err why
IsCame names truth (Ok build) came = IsOfBuild came × (truth → MayCome (exports_due names build) came)
