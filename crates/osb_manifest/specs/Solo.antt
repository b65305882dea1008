-- What building a manifest by itself gives: for each pipeline that is needed its tree, the fault of a stage, or that
-- what it is built with has no tree.
use Rattle.std.specs.Prelude.{ℕ, ◌==◌, List, [], ◌∷◌, ◌++◌, slice_get, Option, Some, None, option_map, option_and_then}
use Rattle.std.specs.List.{filter_map}
use Rattle.std.specs.Map.{keys_of, values_of, lookup}
use Rattle.std.specs.Cmp.Lexicographic.{pointwise}
use Rattle.osb_tree.specs.Trees.{Listing}
use Rattle.osb_recipe.specs.Pairs.{both}
use Rattle.osb_recipe.specs.Works.{Given, a_tree, some_items, Work, tree_of, run_all}
use Rattle.osb_recipe.specs.declared.outcomes.Outcome.{Outcome}
use Rattle.osb_manifest.specs.declared.manifests.Manifest.{Manifest}
use Rattle.osb_manifest.specs.declared.manifests.Pipeline.{Pipeline}
use Rattle.osb_manifest.specs.declared.manifests.Stage.{Stage}
use Rattle.osb_manifest.specs.declared.manifests.Input.{Input}
use Rattle.osb_manifest.specs.declared.manifests.Input.TheVariants.{Tree, Files}

-- what was gathered, by digest
abbrev pub Blobs : Type 0
Blobs = List (List ℕ × List ℕ)

-- the outcomes of pipelines that are built, by their places
abbrev pub Built : Type 0
Built = List (ℕ × Outcome)

abbrev pub tree_at : Built → ℕ → Option Listing
tree_at built place = option_and_then tree_of (lookup (λ held. held == place) built)

-- ---- one stage, as it can run where all that it is built with has trees

-- the items of an input, by rising digest
abbrev pub items_given : Blobs → List (List ℕ × List ℕ) → List (List ℕ)
items_given blobs files = filter_map (λ digest. lookup (pointwise ◌==◌ digest) blobs) (keys_of files)

abbrev pub input_given : Built → Blobs → Input → Option Given
input_given built blobs (Tree place options) = option_map a_tree (tree_at built place)
input_given built blobs (Files files) = Some (some_items (items_given blobs files))

abbrev pub inputs_given : Built → Blobs → List (List ℕ × Input) → Option (List (List ℕ × Given))
inputs_given built blobs [] = Some []
inputs_given built blobs (input ∷ inputs) = both (λ given others. (input.0, given) ∷ others) (input_given built blobs input.1) (inputs_given built blobs inputs)

-- the tree in which a pipeline's stages run, if any
abbrev pub build_given : Built → Option ℕ → Option (Option Listing)
build_given built None = Some None
build_given built (Some place) = option_map Some (tree_at built place)

abbrev pub stage_work : Built → Blobs → Option ℕ → Stage → Option Work
stage_work built blobs build stage = both (λ tree inputs. record { kind = stage.kind; build = tree; inputs = inputs }) (build_given built build) (inputs_given built blobs stage.inputs)

abbrev pub works : Built → Blobs → Option ℕ → List Stage → Option (List Work)
works built blobs build [] = Some []
works built blobs build (stage ∷ stages) = both (λ work others. work ∷ others) (stage_work built blobs build stage) (works built blobs build stages)

-- ---- one pipeline

abbrev pub pipeline_outcome : Built → Blobs → Pipeline → Outcome
pipeline_outcome built blobs pipeline = run_all (works built blobs pipeline.build pipeline.stages)

-- ---- the needed pipelines

abbrev pub with_pipeline : Blobs → ℕ → Option Pipeline → Built → Built
with_pipeline blobs place None built = built
with_pipeline blobs place (Some pipeline) built = built ++ (place, pipeline_outcome built blobs pipeline) ∷ []

-- the outcomes of the pipelines at some places, one after another
abbrev pub outcomes_after : List Pipeline → Blobs → Built → List ℕ → Built
outcomes_after pipelines blobs built [] = built
outcomes_after pipelines blobs built (place ∷ places) = outcomes_after pipelines blobs (with_pipeline blobs place (slice_get pipelines place) built) places

abbrev pub solo : Manifest → List ℕ → Blobs → Built
solo manifest places blobs = outcomes_after (values_of manifest.pipelines) blobs [] places
