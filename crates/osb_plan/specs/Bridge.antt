-- What the tasks of a plan mean is what building each manifest alone gives.
use Rattle.std.specs.Prelude.{◌≡◌, ℕ, ◌≤◌, List, [], ◌∷◌, map, length, slice_get, Option, Some, option_map}
use Rattle.std.specs.List.{All}
use Rattle.std.specs.Map.{keys_of}
use Rattle.sha2.specs.Sha256.{sha256}
use Rattle.osb_tree.specs.declared.numbers.TaskNo.{TaskNo}
use Rattle.osb_recipe.specs.Tables.{TableData, IsTable}
use Rattle.osb_recipe.specs.Meanings.{meant}
use Rattle.osb_recipe.specs.declared.outcomes.Outcome.{Outcome}
use Rattle.osb_recipe.specs.declared.plans.Plan.{Plan}
use Rattle.osb_manifest.specs.Manifests.{IsWellFormed}
use Rattle.osb_manifest.specs.Needed.{needed_places}
use Rattle.osb_manifest.specs.Wanted.{wanted}
use Rattle.osb_manifest.specs.Solo.{Built, solo}
use Rattle.osb_plan.specs.declared.builds.Build.{Build}
use Rattle.osb_plan.specs.Planning.{Chains, chains_of_builds, table_with_builds}

-- a blob is what its digest says, and no larger than an item may be
pub record IsItem (blob : List ℕ × List ℕ) : Type 0 where
  pub digest : sha256 blob.1 ≡ blob.0
  pub small : length blob.1 ≤ 16777216

-- a build as it is made: the pipelines that some exports of a manifest need, with the items that these want
pub record IsReady (build : Build) : Type 0 where
  pub formed : IsWellFormed build.manifest
  pub exports : List (List ℕ)
  pub needed : build.needed ≡ needed_places build.manifest exports
  pub wanted : keys_of build.blobs ≡ wanted build.manifest build.needed
  pub items : All IsItem build.blobs

-- the meanings of chains, by the places of their pipelines
abbrev pub meant_by : TableData → Chains → Built
meant_by table chains = map (λ chain. (chain.0, meant table chain.1)) chains

-- whatever else a table holds, the chains of builds mean what building each alone gives
abbrev pub ChainsMeanPipelines : Type 0
ChainsMeanPipelines =
    (table : TableData) (builds : List Build) → IsTable table → All IsReady builds
    → map (meant_by (table_with_builds table builds)) (chains_of_builds table builds) ≡ map (λ build. solo build.manifest build.needed build.blobs) builds

-- ---- the same of a plan

-- what a task of a plan means, by its number
abbrev pub task_meaning : Plan → TaskNo → Option Outcome
task_meaning plan number = option_map (λ task. meant plan.table task.chain) (slice_get plan.tasks number.0)

-- the tasks of builds mean what building each manifest alone gives, place by place
abbrev pub AreMeant : Plan → List Build → List (List TaskNo) → Type 0
AreMeant plan [] [] = Unit {0}
AreMeant plan (build ∷ builds) (numbers ∷ more) = (map (task_meaning plan) numbers ≡ map (λ built. Some built.1) (solo build.manifest build.needed build.blobs)) × AreMeant plan builds more
AreMeant plan builds more = ⊥

abbrev pub BridgesTo : List Build → Plan → Type 0
BridgesTo builds plan = AreMeant plan builds plan.builds
