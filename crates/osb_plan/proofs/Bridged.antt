-- The chains of builds mean what building each manifest alone gives, and the tables stay tables.
use Rattle.std.proofs.Common.{◌≡◌, ℕ, ◌<◌, ◌≤◌, true, List, [], ◌∷◌, ◌++◌, map, length, Option, Some, None, All, refl, sym, ap, ap₂, ◌∙◌, subst, arith, length-append}
use Rattle.std.specs.Prelude.{option_map}
use Rattle.std.specs.List.{AllByRecursion, flat_map}
use Rattle.std.specs.Map.{keys_of, values_of}
use Rattle.std.proofs.lemmas.List.{append-nil, map-append}
use Rattle.std.proofs.lemmas.List.Elements.{All-from_recursion, recursion_from_All}
use Rattle.osb_tree.specs.declared.numbers.Key.{Key}
use Rattle.osb_recipe.specs.Works.{run_all}
use Rattle.osb_recipe.specs.Recipes.{IsReadFrom, IsRefBelow, IsBuildBelow, IsInputBelow}
use Rattle.osb_recipe.specs.Interning.{place_in, interned_all}
use Rattle.osb_recipe.specs.Kinds.{kind_of, type_text}
use Rattle.osb_recipe.specs.Tables.{TableData, same_bytes, IsTable, Extends, IsChain}
use Rattle.osb_recipe.specs.Meanings.{meant}
use Rattle.osb_recipe.specs.declared.outcomes.Outcome.{Outcome}
use Rattle.osb_recipe.specs.declared.references.InputRecipe.{InputRecipe}
use Rattle.osb_recipe.specs.declared.references.TreeRef.TheVariants.{Empty}
use Rattle.osb_recipe.proofs.Exact.{same_bytes-self}
use Rattle.osb_recipe.proofs.Growing.{below_ref, AreRecipes-more_blobs}
use Rattle.osb_recipe.proofs.KindTypes.{kind_type}
use Rattle.osb_manifest.specs.declared.manifests.Pipeline.{Pipeline}
use Rattle.osb_manifest.specs.declared.manifests.Stage.{Stage}
use Rattle.osb_manifest.specs.declared.manifests.Input.{Input}
use Rattle.osb_manifest.specs.declared.manifests.Input.TheVariants.{Tree, Files}
use Rattle.osb_manifest.specs.Manifests.{IsStage, IsPipeline}
use Rattle.osb_manifest.specs.Needed.{inputs_need, build_needs, needs_of, has_place}
use Rattle.osb_manifest.specs.Solo.{Blobs, Built, items_given, pipeline_outcome, with_pipeline, outcomes_after, solo}
use Rattle.osb_plan.specs.declared.builds.Build.{Build}
use Rattle.osb_plan.specs.Planning.{Chains, ref_at, input_recipe, stage_recipe, pipeline_keys, table_with_pipeline, chains_with, table_with, chains_after, table_after, with_blobs, build_chains, table_with_build, chains_of_builds, table_with_builds}
use Rattle.osb_plan.specs.Bridge.{IsReady, meant_by, ChainsMeanPipelines}
use Rattle.osb_recipe.proofs.Chains.{meanings_stay_law}
use Rattle.osb_plan.proofs.Extending.{extends_itself, extends_twice, chain_stays}
use Rattle.osb_plan.proofs.Interned.{Holds, interned_all-longer, interned_all-holds}
use Rattle.osb_plan.proofs.Lists.{all_left, all_right, all_both, all_weaker, all_of_each}
use Rattle.osb_plan.proofs.Preceding.{AreAmong, AreMet, ready_is_met}
use Rattle.osb_plan.proofs.SameWorks.{AreChains, ref_below, items_all, same_works}
use Rattle.osb_plan.proofs.StageTables.{IsFit, HaveRecipes, grown, chain_of_recipes}

-- chains that mean what was built
pub record MeanBuilt (table : TableData) (chains : Chains) (built : Built) : Type 0 where
  pub chained : AreChains table chains
  pub same : meant_by table chains ≡ built

abbrev pub AreHeld : TableData → Blobs → Type 0
AreHeld table gathered = AllByRecursion (Holds same_bytes table.blobs) (values_of gathered)

-- ---- in a later table

chains_stay : (table later : TableData) (chains : Chains) → Extends table later → AreChains table chains → AreChains later chains
chains_stay table later [] more chained = tt
chains_stay table later (chain ∷ chains) more chained = (chain_stays table later Empty chain.1 more chained.0, chains_stay table later chains more chained.1)

same_meant : (table later : TableData) (chains : Chains) → IsTable table → IsTable later → Extends table later → AreChains table chains → meant_by later chains ≡ meant_by table chains
same_meant table later [] is is_later more chained = refl
same_meant table later (chain ∷ chains) is is_later more chained =
    ap₂ (λ outcome rest. (chain.0, outcome) ∷ rest) (meanings_stay_law table later chain.1 is is_later more chained.0) (same_meant table later chains is is_later more chained.1)

mean_later : (table later : TableData) (chains : Chains) (built : Built) → IsTable table → IsTable later → Extends table later → MeanBuilt table chains built → MeanBuilt later chains built
mean_later table later chains built is is_later more mean =
    record { chained = chains_stay table later chains more mean.chained; same = same_meant table later chains is is_later more mean.chained ∙ mean.same }

-- ---- a stage's recipe may come into the table

pub read_stage : (place : ℕ) (stage : Stage) → IsStage place stage → IsReadFrom stage.kind stage.options_text
read_stage place stage is =
    let typed : type_text stage.kind ≡ stage.type_text = kind_type stage.type_text is.options stage.kind is.kind in
    record { options = is.options; object = is.object; shallow = is.shallow; text = is.text; kind = ap (λ name. kind_of name is.options) typed ∙ is.kind }

numbers_below : (blobs items : List (List ℕ)) → AllByRecursion (Holds same_bytes blobs) items → AllByRecursion (λ number. number < length blobs) (map (place_in same_bytes blobs) items)
numbers_below blobs [] held = tt
numbers_below blobs (item ∷ items) held = (held.0, numbers_below blobs items held.1)

module _ (table : TableData) (chains : Chains) (gathered : Blobs) (chained : AreChains table chains) (held : AreHeld table gathered) where
  module _ (many : ℕ) (more : length table.recipes ≤ many) where
    ref_within : (place : ℕ) → IsRefBelow many (ref_at chains place)
    ref_within place = below_ref (length table.recipes) many (ref_at chains place) more (ref_below table chains place chained)

    build_within : (build : Option ℕ) → IsBuildBelow many (option_map (ref_at chains) build)
    build_within None = tt
    build_within (Some place) = ref_within place

    input_within : (input : Input) → IsInputBelow many (length table.blobs) (input_recipe gathered chains table.blobs input)
    input_within (Tree place options) = ref_within place
    input_within (Files files) =
        let items = items_given gathered files in
        All-from_recursion (λ number. number < length table.blobs) (map (place_in same_bytes table.blobs) items) (numbers_below table.blobs items (items_all (Holds same_bytes table.blobs) gathered files held))

    inputs_within : (inputs : List (List ℕ × Input)) → AllByRecursion (λ (input : List ℕ × InputRecipe). IsInputBelow many (length table.blobs) input.1) (map (λ input. (input.0, input_recipe gathered chains table.blobs input.1)) inputs)
    inputs_within [] = tt
    inputs_within (input ∷ inputs) = (input_within input.1, inputs_within inputs)

  fit_stage : (build : Option ℕ) (place : ℕ) (stage : Stage) → IsStage place stage → IsFit (stage_recipe gathered chains table.blobs build) (length table.recipes) (length table.blobs) stage
  fit_stage build place stage is = record {
    below = λ base many more base_below. record {
      build = build_within many more build;
      base = base_below;
      inputs = All-from_recursion (λ (input : List ℕ × InputRecipe). IsInputBelow many (length table.blobs) input.1) (map (λ input. (input.0, input_recipe gathered chains table.blobs input.1)) stage.inputs) (inputs_within many more stage.inputs);
    };
    read = λ base. read_stage place stage is;
    based = λ base. refl;
  }

-- ---- a pipeline

mean_with : (table : TableData) (chains : Chains) (built : Built) (place : ℕ) (keys : List Key) (outcome : Outcome) → MeanBuilt table chains built → IsChain table keys → meant table keys ≡ outcome → MeanBuilt table (chains ++ (place, keys) ∷ []) (built ++ (place, outcome) ∷ [])
mean_with table chains built place keys outcome mean chain same = record {
  chained = all_both (λ chain. IsChain table chain.1) chains ((place, keys) ∷ []) mean.chained (chain, tt);
  same = map-append (λ chain. (chain.0, meant table chain.1)) chains ((place, keys) ∷ []) ∙ ap₂ (λ before o. before ++ (place, o) ∷ []) mean.same same;
}

-- from a table to a later one, in which chains mean what was built
pub record IsReached (gathered : Blobs) (table later : TableData) (chains : Chains) (built : Built) : Type 0 where
  pub extends : Extends table later
  pub is : IsTable later
  pub held : AreHeld later gathered
  pub mean : MeanBuilt later chains built

pipeline_reached : (gathered : Blobs) (table : TableData) (chains : Chains) (built : Built) (place : ℕ) (pipeline : Pipeline) → IsTable table → AreHeld table gathered → MeanBuilt table chains built → IsPipeline place pipeline → AreAmong (keys_of chains) (needs_of pipeline)
    → IsReached gathered table (table_with_pipeline gathered chains table pipeline) (chains ++ (place, pipeline_keys gathered chains table pipeline) ∷ []) (built ++ (place, pipeline_outcome built gathered pipeline) ∷ [])
pipeline_reached gathered table chains built place pipeline is held mean formed met =
    let Done : ℕ → Type 0 = λ need. has_place (keys_of chains) need ≡ true in
    let recipe = stage_recipe gathered chains table.blobs pipeline.build in
    let later = table_with_pipeline gathered chains table pipeline in
    let keys = pipeline_keys gathered chains table pipeline in
    let stage_needs = flat_map (λ stage. inputs_need stage.inputs) pipeline.stages in
    let fits = all_weaker (IsStage place) (IsFit recipe (length table.recipes) (length table.blobs)) (λ stage formed. fit_stage table chains gathered mean.chained held pipeline.build place stage formed) pipeline.stages formed.stages in
    let all = grown recipe (length table.recipes) (length table.blobs) pipeline.stages Empty table fits is (omega arith) refl tt in
    let there = mean_later table later chains built is all.is all.extends mean in
    let Held : List (List ℕ) → Type 0 = λ blobs. AllByRecursion (Holds same_bytes blobs) (values_of gathered) in
    let held_later : AreHeld later gathered = subst Held (sym all.blobs) held in
    let Have : List (List ℕ) → Type 0 = λ blobs. HaveRecipes (stage_recipe gathered chains blobs pipeline.build) later Empty keys pipeline.stages in
    let build_done = all_left Done (build_needs pipeline.build) stage_needs met in
    let stages_done = all_of_each Done (λ stage. inputs_need stage.inputs) pipeline.stages (all_right Done (build_needs pipeline.build) stage_needs met) in
    let works = same_works later chains gathered all.is there.chained held_later pipeline.build build_done pipeline.stages Empty keys stages_done (subst Have (sym all.blobs) all.have) in
    let outcome : meant later keys ≡ pipeline_outcome built gathered pipeline = ap run_all works ∙ ap (λ before. pipeline_outcome before gathered pipeline) there.same in
    let chain : IsChain later keys = chain_of_recipes recipe (length table.recipes) (length table.blobs) pipeline.stages Empty later keys fits all.have in
    record { extends = all.extends; is = all.is; held = held_later; mean = mean_with later chains built place keys (pipeline_outcome built gathered pipeline) there chain outcome }

-- ---- the pipelines at some places

further : (gathered : Blobs) (table later latest : TableData) (chains : Chains) (built : Built) → Extends table later → IsReached gathered later latest chains built → IsReached gathered table latest chains built
further gathered table later latest chains built more reached = record { extends = extends_twice table later latest more reached.extends; is = reached.is; held = reached.held; mean = reached.mean }

places_reached : (pipelines : List Pipeline) (gathered : Blobs) (places : List ℕ) (table : TableData) (chains : Chains) (built : Built) → IsTable table → AreHeld table gathered → MeanBuilt table chains built → AreMet pipelines (keys_of chains) places
    → IsReached gathered table (table_after pipelines gathered table chains places) (chains_after pipelines gathered table chains places) (outcomes_after pipelines gathered built places)
places_reached pipelines gathered [] table chains built is held mean met = record { extends = extends_itself table; is = is; held = held; mean = mean }
places_reached pipelines gathered (place ∷ places) table chains built is held mean met =
    let Reaches : Option Pipeline → Type 0 = λ found.
    IsReached gathered table (table_after pipelines gathered (table_with gathered table chains found) (chains_with gathered table chains place found) places)
    (chains_after pipelines gathered (table_with gathered table chains found) (chains_with gathered table chains place found) places)
    (outcomes_after pipelines gathered (with_pipeline gathered place found built) places) in
    let Met : List ℕ → Type 0 = λ done. AreMet pipelines done places in
    let pipeline = met.0.pipeline in
    let next = table_with_pipeline gathered chains table pipeline in
    let keys = pipeline_keys gathered chains table pipeline in
    let chains_next = chains ++ (place, keys) ∷ [] in
    let built_next = built ++ (place, pipeline_outcome built gathered pipeline) ∷ [] in
    let here = pipeline_reached gathered table chains built place pipeline is held mean met.0.formed met.0.needs in
    let done : keys_of chains_next ≡ keys_of chains ++ place ∷ [] = map-append (λ chain. chain.0) chains ((place, keys) ∷ []) in
    let rest = places_reached pipelines gathered places next chains_next built_next here.is here.held here.mean (subst Met (sym done) met.1) in
    subst Reaches (sym met.0.there)
    (further gathered table next (table_after pipelines gathered next chains_next places) (chains_after pipelines gathered next chains_next places) (outcomes_after pipelines gathered built_next places) here.extends rest)

-- ---- a build

blobs_reached : (gathered : Blobs) (table : TableData) → IsTable table → IsReached gathered table (with_blobs table gathered) [] []
blobs_reached gathered table is =
    let longer = interned_all-longer same_bytes table.blobs (values_of gathered) in
    let wider : length table.blobs ≤ length (interned_all same_bytes table.blobs (values_of gathered)) = omega (arith, ap length longer.added, length-append table.blobs longer.more) in
    record {
      extends = record { recipes = []; blobs = longer.more; more_recipes = sym (append-nil table.recipes); more_blobs = longer.added };
      is = record { below = AreRecipes-more_blobs 0 (length table.blobs) (length (interned_all same_bytes table.blobs (values_of gathered))) table.recipes wider is.below; read = is.read };
      held = interned_all-holds same_bytes same_bytes-self table.blobs (values_of gathered);
      mean = record { chained = tt; same = refl };
    }

pub build_reached : (table : TableData) (build : Build) → IsTable table → IsReady build → IsReached build.blobs table (table_with_build table build) (build_chains table build) (solo build.manifest build.needed build.blobs)
build_reached table build is ready =
    let first = with_blobs table build.blobs in
    let pipelines = values_of build.manifest.pipelines in
    let gathered = blobs_reached build.blobs table is in
    further build.blobs table first (table_with_build table build) (build_chains table build) (solo build.manifest build.needed build.blobs) gathered.extends
    (places_reached pipelines build.blobs build.needed first [] [] gathered.is gathered.held gathered.mean (ready_is_met build ready))

-- ---- builds

-- from a table to a later one, in which the chains of builds mean what building each alone gives
pub record AreReached (table later : TableData) (chains : List Chains) (builds : List Build) : Type 0 where
  pub extends : Extends table later
  pub is : IsTable later
  pub chained : AllByRecursion (AreChains later) chains
  pub same : map (meant_by later) chains ≡ map (λ build. solo build.manifest build.needed build.blobs) builds

pub builds_reached : (builds : List Build) (table : TableData) → IsTable table → AllByRecursion IsReady builds → AreReached table (table_with_builds table builds) (chains_of_builds table builds) builds
builds_reached [] table is ready = record { extends = extends_itself table; is = is; chained = tt; same = refl }
builds_reached (build ∷ builds) table is ready =
    let next = table_with_build table build in
    let latest = table_with_builds next builds in
    let here = build_reached table build is ready.0 in
    let rest = builds_reached builds next here.is ready.1 in
    let mean = mean_later next latest (build_chains table build) (solo build.manifest build.needed build.blobs) here.is rest.is rest.extends here.mean in
    record {
      extends = extends_twice table next latest here.extends rest.extends;
      is = rest.is;
      chained = (mean.chained, rest.chained);
      same = ap₂ (λ built others. built ∷ others) mean.same rest.same;
    }

pub chains_mean_pipelines : ChainsMeanPipelines
chains_mean_pipelines table builds is ready = (builds_reached builds table is (recursion_from_All IsReady builds ready)).same

pub planned_table : (table : TableData) (builds : List Build) → IsTable table → All IsReady builds → IsTable (table_with_builds table builds)
planned_table table builds is ready = (builds_reached builds table is (recursion_from_All IsReady builds ready)).is

pub planned_extends : (table : TableData) (builds : List Build) → IsTable table → All IsReady builds → Extends table (table_with_builds table builds)
planned_extends table builds is ready = (builds_reached builds table is (recursion_from_All IsReady builds ready)).extends
