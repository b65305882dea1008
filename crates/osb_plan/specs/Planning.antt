-- How builds are planned: which recipes their stages have, and which tasks their pipelines are. Each step is said twice,
-- by the table that it leaves and by the keys that it gives.
use Rattle.std.specs.Prelude.{ℕ, ◌+◌, ◌==◌, Bool, false, List, [], ◌∷◌, ◌++◌, map, filter, reverse, slice_get, unwrap_or, Option, Some, None, option_map, if◌then◌else◌}
use Rattle.std.specs.Option.{option_map_or}
use Rattle.std.specs.List.{flat_map}
use Rattle.std.specs.Map.{values_of, lookup}
use Rattle.std.specs.Cmp.Lexicographic.{pointwise}
use Rattle.osb_tree.specs.declared.numbers.Key.{Key}
use Rattle.osb_tree.specs.declared.numbers.TaskNo.{TaskNo}
use Rattle.osb_recipe.specs.Recipes.{Origin, same_recipe}
use Rattle.osb_recipe.specs.Interning.{place_in, interned, interned_all}
use Rattle.osb_recipe.specs.Tables.{TableData, same_bytes, last_of}
use Rattle.osb_recipe.specs.Plans.{has_key, no_of, deps_of}
use Rattle.osb_recipe.specs.declared.references.TreeRef.{TreeRef}
use Rattle.osb_recipe.specs.declared.references.TreeRef.TheVariants.{Empty, Of}
use Rattle.osb_recipe.specs.declared.references.InputRecipe.{InputRecipe}
use Rattle.osb_recipe.specs.declared.references.InputRecipe.TheVariants as recipes
use Rattle.osb_recipe.specs.declared.plans.Task.{Task}
use Rattle.osb_recipe.specs.declared.plans.Plan.{Plan}
use Rattle.osb_manifest.specs.Solo.{Blobs, items_given}
use Rattle.osb_manifest.specs.declared.manifests.Pipeline.{Pipeline}
use Rattle.osb_manifest.specs.declared.manifests.Stage.{Stage}
use Rattle.osb_manifest.specs.declared.manifests.Input.{Input}
use Rattle.osb_manifest.specs.declared.manifests.Input.TheVariants.{Tree, Files}
use Rattle.osb_plan.specs.declared.builds.Build.{Build}

-- the pipelines that are planned, by their places, each with the keys of its stages
abbrev pub Chains : Type 0
Chains = List (ℕ × List Key)

-- the tree of the pipeline at a place
abbrev pub ref_at : Chains → ℕ → TreeRef
ref_at chains place = option_map_or last_of (lookup (λ held. held == place) chains) Empty

-- ---- one stage

-- blobs are there already, so that their numbers are those of equal ones
abbrev pub input_recipe : Blobs → Chains → List (List ℕ) → Input → InputRecipe
input_recipe gathered chains blobs (Tree place options) = recipes.Tree (ref_at chains place)
input_recipe gathered chains blobs (Files files) = recipes.Files (map (place_in same_bytes blobs) (items_given gathered files))

abbrev pub stage_recipe : Blobs → Chains → List (List ℕ) → Option ℕ → TreeRef → Stage → Origin
stage_recipe gathered chains blobs build base stage = record {
  kind = stage.kind;
  options_text = stage.options_text;
  build = option_map (ref_at chains) build;
  base = base;
  inputs = map (λ input. (input.0, input_recipe gathered chains blobs input.1)) stage.inputs;
}

abbrev pub key_of : TableData → Origin → Key
key_of table recipe = record { 0 = place_in same_recipe table.recipes recipe }

abbrev pub with_recipe : TableData → Origin → TableData
with_recipe table recipe = record { recipes = interned same_recipe table.recipes recipe; blobs = table.blobs }

-- ---- the stages of one pipeline, each over the tree of the one before

abbrev pub keys_of_stages : (TreeRef → Stage → Origin) → TreeRef → TableData → List Stage → List Key
keys_of_stages recipe base table [] = []
keys_of_stages recipe base table (stage ∷ stages) =
    key_of table (recipe base stage) ∷ keys_of_stages recipe (Of (key_of table (recipe base stage))) (with_recipe table (recipe base stage)) stages

abbrev pub table_with_stages : (TreeRef → Stage → Origin) → TreeRef → TableData → List Stage → TableData
table_with_stages recipe base table [] = table
table_with_stages recipe base table (stage ∷ stages) = table_with_stages recipe (Of (key_of table (recipe base stage))) (with_recipe table (recipe base stage)) stages

abbrev pub pipeline_keys : Blobs → Chains → TableData → Pipeline → List Key
pipeline_keys gathered chains table pipeline = keys_of_stages (stage_recipe gathered chains table.blobs pipeline.build) Empty table pipeline.stages

abbrev pub table_with_pipeline : Blobs → Chains → TableData → Pipeline → TableData
table_with_pipeline gathered chains table pipeline = table_with_stages (stage_recipe gathered chains table.blobs pipeline.build) Empty table pipeline.stages

-- ---- the pipelines at some places

abbrev pub chains_with : Blobs → TableData → Chains → ℕ → Option Pipeline → Chains
chains_with gathered table chains place None = chains
chains_with gathered table chains place (Some pipeline) = chains ++ (place, pipeline_keys gathered chains table pipeline) ∷ []

abbrev pub table_with : Blobs → TableData → Chains → Option Pipeline → TableData
table_with gathered table chains None = table
table_with gathered table chains (Some pipeline) = table_with_pipeline gathered chains table pipeline

abbrev pub chains_after : List Pipeline → Blobs → TableData → Chains → List ℕ → Chains
chains_after pipelines gathered table chains [] = chains
chains_after pipelines gathered table chains (place ∷ places) =
    chains_after pipelines gathered (table_with gathered table chains (slice_get pipelines place)) (chains_with gathered table chains place (slice_get pipelines place)) places

abbrev pub table_after : List Pipeline → Blobs → TableData → Chains → List ℕ → TableData
table_after pipelines gathered table chains [] = table
table_after pipelines gathered table chains (place ∷ places) =
    table_after pipelines gathered (table_with gathered table chains (slice_get pipelines place)) (chains_with gathered table chains place (slice_get pipelines place)) places

-- ---- builds: what was gathered, and then the needed pipelines

abbrev pub with_blobs : TableData → Blobs → TableData
with_blobs table gathered = record { recipes = table.recipes; blobs = interned_all same_bytes table.blobs (values_of gathered) }

abbrev pub build_chains : TableData → Build → Chains
build_chains table build = chains_after (values_of build.manifest.pipelines) build.blobs (with_blobs table build.blobs) [] build.needed

abbrev pub table_with_build : TableData → Build → TableData
table_with_build table build = table_after (values_of build.manifest.pipelines) build.blobs (with_blobs table build.blobs) [] build.needed

abbrev pub chains_of_builds : TableData → List Build → List Chains
chains_of_builds table [] = []
chains_of_builds table (build ∷ builds) = build_chains table build ∷ chains_of_builds (table_with_build table build) builds

abbrev pub table_with_builds : TableData → List Build → TableData
table_with_builds table [] = table
table_with_builds table (build ∷ builds) = table_with_builds (table_with_build table build) builds

-- ---- tasks: equal chains are one, numbered by its first appearance

abbrev pub same_chain : List Key → List Key → Bool
same_chain a b = pointwise (λ x y. x.0 == y.0) a b

abbrev pub task_chains : List Chains → List (List Key)
task_chains builds = interned_all same_chain [] (flat_map (λ chains. values_of chains) builds)

abbrev pub task_numbers : List (List Key) → Chains → List TaskNo
task_numbers tasks chains = map (λ chain. no_of (place_in same_chain tasks chain)) (values_of chains)

abbrev pub has_mark : List Bool → ℕ → Bool
has_mark marks place = unwrap_or (slice_get marks place) false

abbrev pub key_if : Bool → Key → List Key
key_if kept key = if kept then key ∷ [] else []

-- the keys of a chain whose stages have a mark, where the places of the stages count from a first one
abbrev pub marked_from : List Bool → ℕ → List Key → List Key
marked_from marks place [] = []
marked_from marks place (key ∷ keys) = key_if (has_mark marks place) key ++ marked_from marks (place + 1) keys

-- by the marks of the pipelines' stages
abbrev pub build_marked : List (List Bool) → Chains → List Key
build_marked marks chains = flat_map (λ chain. marked_from (unwrap_or (slice_get marks chain.0) []) 0 chain.1) chains

abbrev pub marks_of : Option Build → List (List Bool)
marks_of None = []
marks_of (Some build) = build.marks

-- the keys that some build marks, where the numbers of the builds count from a first one
abbrev pub marked_by : List Build → ℕ → List Chains → List Key
marked_by builds number [] = []
marked_by builds number (chains ∷ more) = build_marked (marks_of (slice_get builds number)) chains ++ marked_by builds (number + 1) more

abbrev pub task_of : TableData → List (List Key) → List Key → List Key → Task
task_of table tasks marked chain = record { chain = chain; marked = filter (has_key marked) (reverse chain); deps = deps_of table tasks chain }

abbrev pub plan_of : TableData → List Build → List Chains → List (List Key) → Plan
plan_of table builds chains tasks = record {
  table = table;
  tasks = map (task_of table tasks (marked_by builds 0 chains)) tasks;
  builds = map (task_numbers tasks) chains;
}

-- the plan of builds, over a table that may have recipes already
unfoldable pub planned : TableData → List Build → Plan
planned table builds = plan_of (table_with_builds table builds) builds (chains_of_builds table builds) (task_chains (chains_of_builds table builds))
