-- What holds while builds are planned: what a stage refers to is there.
use Rattle.std.specs.Prelude.{ℕ, ◌<◌, List, length}
use Rattle.std.specs.List.{All, AllByRecursion}
use Rattle.osb_recipe.specs.Recipes.{IsReadFrom, IsRefBelow}
use Rattle.osb_recipe.specs.Interning.{place_in}
use Rattle.osb_recipe.specs.Tables.{same_bytes, last_of}
use Rattle.osb_manifest.specs.Solo.{Blobs}
use Rattle.osb_manifest.specs.declared.manifests.Pipeline.{Pipeline}
use Rattle.osb_manifest.specs.declared.manifests.Stage.{Stage}
use Rattle.osb_plan.specs.Planning.{Chains}

-- what was gathered is among the blobs of a table
abbrev pub HasBlobs : List (List ℕ) → Blobs → Type 0
HasBlobs blobs gathered = All (λ held. place_in same_bytes blobs held.1 < length blobs) gathered

-- the pipelines that are planned end with keys of a table
abbrev pub AreEndsBelow : ℕ → Chains → Type 0
AreEndsBelow keys chains = All (λ chain. IsRefBelow keys (last_of chain.1)) chains

abbrev pub IsReadStage : Stage → Type 0
IsReadStage stage = IsReadFrom stage.kind stage.options_text

abbrev pub IsReadPipeline : Pipeline → Type 0
IsReadPipeline pipeline = AllByRecursion IsReadStage pipeline.stages
