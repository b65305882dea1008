-- The stages of a pipeline make links of a table, each over the one before.
use Rattle.std.proofs.Common.{◌≡◌, ℕ, ◌<◌, ◌≤◌, List, [], ◌∷◌, map, length, Option, Some, None, option_map, refl, sym, ap, ◌∙◌, subst, arith, length-append}
use Rattle.std.specs.Prelude.{slice_get}
use Rattle.std.specs.List.{AllByRecursion}
use Rattle.std.specs.List.Sorted.{IsStrictlySortedBy}
use Rattle.std.specs.Map.{keys_of, values_of}
use Rattle.std.proofs.lemmas.List.Elements.{All-from_recursion}
use Rattle.std.proofs.lemmas.Option.{slice_get_within}
use Rattle.osb_tree.specs.declared.numbers.Key.{Key}
use Rattle.osb_recipe.specs.Kinds.{kind_of}
use Rattle.osb_recipe.specs.Recipes.{Origin, IsRefBelow, IsBuildBelow, IsInputBelow, IsBelow}
use Rattle.osb_recipe.specs.Tables.{TableData, IsReadRecipe, IsTable, Extends}
use Rattle.osb_recipe.specs.declared.references.TreeRef.{TreeRef}
use Rattle.osb_recipe.specs.declared.references.TreeRef.TheVariants.{Empty, Of}
use Rattle.osb_recipe.specs.declared.references.InputRecipe.{InputRecipe}
use Rattle.osb_recipe.specs.declared.references.InputRecipe.TheVariants as recipes
use Rattle.osb_manifest.specs.Manifests.{IsInput, IsStage, name_cmp}
use Rattle.osb_manifest.specs.Solo.{Blobs}
use Rattle.osb_manifest.specs.declared.manifests.Stage.{Stage}
use Rattle.osb_manifest.specs.declared.manifests.Input.{Input}
use Rattle.osb_manifest.specs.declared.manifests.Input.TheVariants.{Tree, Files}
use Rattle.osb_plan.specs.Bridge.{IsItem}
use Rattle.osb_plan.specs.Planning.{Chains, ref_at, input_recipe, stage_recipe, key_of, with_recipe, keys_of_stages, table_with_stages}
use Rattle.osb_plan.proofs.LaterTables.{Extends-itself, Extends-later, Extends-with_recipe, IsTable-with_recipe, recipe_at-with_recipe}
use Rattle.osb_plan.proofs.Links.{Meets, BuildMeets, InputMeets, AreAt, InputHasFiles, IsEnd, IsOver, IsLink, AreLinks, IsLink-later}
use Rattle.osb_plan.proofs.GivenItems.{HasBlob, HasFiles-given}
use Rattle.osb_plan.proofs.TypesOfKinds.{type_of_stage}

-- ---- what a stage's recipe refers to is below

module _ (keys : ℕ) (P : Key → Type 0) (below : (key : Key) → P key → key.0 < keys) where
  ref_below : (ref : TreeRef) → Meets P ref → IsRefBelow keys ref
  ref_below Empty meets = tt
  ref_below (Of key) meets = below key meets

  build_below : (ref : Option TreeRef) → BuildMeets P ref → IsBuildBelow keys ref
  build_below None meets = tt
  build_below (Some ref) meets = ref_below ref meets

  numbers_below : (blobs : List (List ℕ)) (numbers : List ℕ) (items : List (List ℕ)) → AreAt blobs numbers items → AllByRecursion (λ number. number < length blobs) numbers
  numbers_below blobs [] items there = tt
  numbers_below blobs (number ∷ numbers) [] there = absurd there
  numbers_below blobs (number ∷ numbers) (item ∷ items) there = (slice_get_within blobs number item there.0, numbers_below blobs numbers items there.1)

  input_below : (blobs : List (List ℕ)) (input : InputRecipe) → InputMeets P input → InputHasFiles blobs input → IsInputBelow keys (length blobs) input
  input_below blobs (recipes.Tree ref) meets has = ref_below ref meets
  input_below blobs (recipes.Files numbers) meets has = All-from_recursion (λ (number : ℕ). number < length blobs) numbers (numbers_below blobs numbers has.items has.there)

  inputs_below : (blobs : List (List ℕ)) (inputs : List (List ℕ × InputRecipe)) → AllByRecursion (λ input. InputMeets P input.1) inputs → AllByRecursion (λ input. InputHasFiles blobs input.1) inputs → AllByRecursion (λ input. IsInputBelow keys (length blobs) input.1) inputs
  inputs_below blobs [] meets has = tt
  inputs_below blobs (input ∷ inputs) meets has = (input_below blobs input.1 meets.0 has.0, inputs_below blobs inputs meets.1 has.1)

below_over : (keys : ℕ) (chains : List (List Key)) (blobs : List (List ℕ)) (recipe : Origin) → ((key : Key) → IsEnd chains key → key.0 < keys) → IsRefBelow keys recipe.base → IsOver chains blobs recipe → IsBelow keys (length blobs) recipe
below_over keys chains blobs recipe below base over = record {
  build = build_below keys (IsEnd chains) below recipe.build over.build;
  base = base;
  inputs = All-from_recursion (λ (input : List ℕ × InputRecipe). IsInputBelow keys (length blobs) input.1) recipe.inputs (inputs_below keys (IsEnd chains) below blobs recipe.inputs over.trees over.files);
}

-- ---- the recipe of a well-formed stage

module _ (gathered : Blobs) (chains : Chains) (blobs : List (List ℕ)) (ends : List (List Key)) (items : AllByRecursion IsItem gathered) (there : AllByRecursion (HasBlob blobs) (values_of gathered)) (meets : (place : ℕ) → Meets (IsEnd ends) (ref_at chains place)) where
  abbrev recipe_with : Input → InputRecipe
  recipe_with input = input_recipe gathered chains blobs input

  abbrev named_with : List ℕ × Input → List ℕ × InputRecipe
  named_with input = (input.0, recipe_with input.1)

  same_names : (inputs : List (List ℕ × Input)) → keys_of (map named_with inputs) ≡ keys_of inputs
  same_names [] = refl
  same_names (input ∷ inputs) = ap (λ (names : List (List ℕ)). input.0 ∷ names) (same_names inputs)

  input_files : (i : ℕ) (input : Input) → IsInput i input → InputHasFiles blobs (recipe_with input)
  input_files i (Tree place options) is = tt
  input_files i (Files files) is = HasFiles-given gathered blobs files items there is

  inputs_files : (i : ℕ) (inputs : List (List ℕ × Input)) → AllByRecursion (IsInput i) (values_of inputs) → AllByRecursion (λ input. InputHasFiles blobs input.1) (map named_with inputs)
  inputs_files i [] are = tt
  inputs_files i (input ∷ inputs) are = (input_files i input.1 are.0, inputs_files i inputs are.1)

  input_trees : (input : Input) → InputMeets (IsEnd ends) (recipe_with input)
  input_trees (Tree place options) = meets place
  input_trees (Files files) = tt

  inputs_trees : (inputs : List (List ℕ × Input)) → AllByRecursion (λ input. InputMeets (IsEnd ends) input.1) (map named_with inputs)
  inputs_trees [] = tt
  inputs_trees (input ∷ inputs) = (input_trees input.1, inputs_trees inputs)

  build_tree : (build : Option ℕ) → BuildMeets (IsEnd ends) (option_map (ref_at chains) build)
  build_tree None = tt
  build_tree (Some place) = meets place

  over_stage : (i : ℕ) (build : Option ℕ) (base : TreeRef) (stage : Stage) → IsStage i stage → IsOver ends blobs (stage_recipe gathered chains blobs build base stage)
  over_stage i build base stage is = record {
    named = subst (λ (names : List (List ℕ)). IsStrictlySortedBy name_cmp names) (sym (same_names stage.inputs)) is.named;
    files = inputs_files i stage.inputs is.inputs;
    build = build_tree build;
    trees = inputs_trees stage.inputs;
  }

  read_stage : (i : ℕ) (build : Option ℕ) (base : TreeRef) (stage : Stage) → IsStage i stage → IsReadRecipe (stage_recipe gathered chains blobs build base stage)
  read_stage i build base stage is = record {
    options = is.options;
    object = is.object;
    shallow = is.shallow;
    text = is.text;
    kind = ap (λ (text : List ℕ). kind_of text is.options) (type_of_stage i stage is) ∙ is.kind;
  }

  -- ---- the stages, one after another

  pub record AreMade (base : TreeRef) (table made : TableData) (keys : List Key) : Type 0 where
    pub is_table : IsTable made
    pub later : Extends table made
    pub same_blobs : made.blobs ≡ blobs
    pub links : AreLinks ends made base keys

  pub AreMade-stages : (i : ℕ) (build : Option ℕ) (base : TreeRef) (table : TableData) (stages : List Stage) → IsTable table → table.blobs ≡ blobs → ((key : Key) → IsEnd ends key → key.0 < length table.recipes) → IsRefBelow (length table.recipes) base → AllByRecursion (IsStage i) stages
      → AreMade base table (table_with_stages (stage_recipe gathered chains blobs build) base table stages) (keys_of_stages (stage_recipe gathered chains blobs build) base table stages)
  AreMade-stages i build base table [] is same below under are = record { is_table = is; later = Extends-itself table; same_blobs = same; links = tt }
  AreMade-stages i build base table (stage ∷ stages) is same below under are =
      let recipe : Origin = stage_recipe gathered chains blobs build base stage in
      let next : TableData = with_recipe table recipe in
      let key : Key = key_of table recipe in
      let read : IsReadRecipe recipe = read_stage i build base stage are.0 in
      let over : IsOver ends table.blobs recipe = subst (λ (held : List (List ℕ)). IsOver ends held recipe) (sym same) (over_stage i build base stage are.0) in
      let next_is : IsTable next = IsTable-with_recipe table recipe is (below_over (length table.recipes) ends table.blobs recipe below under over) read in
      let at : slice_get next.recipes key.0 ≡ Some recipe = recipe_at-with_recipe table recipe is read in
      let grown : Extends table next = Extends-with_recipe table recipe in
      let long : length table.recipes ≤ length next.recipes = omega (arith, ap length grown.more_recipes, length-append table.recipes grown.recipes) in
      let rest = AreMade-stages i build (Of key) next stages next_is same (λ end is_end. omega (arith, below end is_end)) (slice_get_within next.recipes key.0 recipe at) are.1 in
      let link : IsLink ends next base key = record { recipe = recipe; at = at; base_is = refl; over = over } in
      record {
        is_table = rest.is_table;
        later = Extends-later table next (table_with_stages (stage_recipe gathered chains blobs build) (Of key) next stages) grown rest.later;
        same_blobs = rest.same_blobs;
        links = (IsLink-later next (table_with_stages (stage_recipe gathered chains blobs build) (Of key) next stages) rest.later ends base key link, rest.links);
      }
