-- The recipes of stages are the stages that can run: the chains so far mean what was built so far.
use Rattle.std.proofs.Common.{◌≡◌, ℕ, ◌==◌, Bool, true, false, true≢false, cond, ◌||◌, List, [], ◌∷◌, map, length, Option, Some, None, refl, sym, ap, ap₂, ◌∙◌}
use Rattle.std.specs.Prelude.{option_map, option_and_then}
use Rattle.std.specs.Option.{IfSome, option_map_or}
use Rattle.std.specs.List.{AllByRecursion, cons_option}
use Rattle.std.specs.Map.{keys_of, values_of, lookup}
use Rattle.std.specs.Cmp.Lexicographic.{pointwise}
use Rattle.osb_tree.specs.declared.numbers.Key.{Key}
use Rattle.osb_recipe.specs.FilesTrees.{blobs_at}
use Rattle.osb_recipe.specs.Pairs.{both}
use Rattle.osb_recipe.specs.Works.{a_tree, some_items, tree_of}
use Rattle.osb_recipe.specs.Recipes.{IsRefBelow}
use Rattle.osb_recipe.specs.Interning.{place_in}
use Rattle.osb_recipe.specs.Tables.{TableData, same_bytes, IsTable, IsChain, last_of}
use Rattle.osb_recipe.specs.Meanings.{meanings, tree_at, build_at, input_at, inputs_at, work_of, works_at, meant}
use Rattle.osb_recipe.specs.declared.references.TreeRef.{TreeRef}
use Rattle.osb_recipe.specs.declared.references.TreeRef.TheVariants.{Empty, Of}
use Rattle.osb_recipe.proofs.Exact.{exact_bytes}
use Rattle.osb_manifest.specs.declared.manifests.Stage.{Stage}
use Rattle.osb_manifest.specs.declared.manifests.Input.{Input}
use Rattle.osb_manifest.specs.declared.manifests.Input.TheVariants.{Tree, Files}
use Rattle.osb_manifest.specs.Needed.{input_needs, inputs_need, build_needs, has_place}
use Rattle.osb_manifest.specs.Solo.{Blobs, Built, items_given, input_given, inputs_given, build_given, stage_work, works}
use Rattle.osb_manifest.specs.Solo as alone
use Rattle.osb_plan.specs.Planning.{Chains, ref_at, input_recipe, stage_recipe}
use Rattle.osb_plan.specs.Bridge.{meant_by}
use Rattle.osb_recipe.proofs.Chains.{last_key_law}
use Rattle.osb_plan.proofs.Extending.{last_below}
use Rattle.osb_plan.proofs.Interned.{Holds, stands}
use Rattle.osb_plan.proofs.Lists.{all_of_each}
use Rattle.osb_plan.proofs.Preceding.{AreAmong}
use Rattle.osb_plan.proofs.StageTables.{HaveRecipes}

-- ---- trees

abbrev pub AreChains : TableData → Chains → Type 0
AreChains table chains = AllByRecursion (λ chain. IsChain table chain.1) chains

tree_step : (table : TableData) (b : Bool) (chain : List Key) (place : ℕ) (chains : Chains) (others : Bool) → IsTable table → IsChain table chain
    → (others ≡ true → tree_at (meanings table) (ref_at chains place) ≡ alone.tree_at (meant_by table chains) place) → (b || others) ≡ true
    → tree_at (meanings table) (option_map_or last_of (cond b (Some chain) (lookup (λ held. held == place) chains)) Empty) ≡ option_and_then tree_of (cond b (Some (meant table chain)) (lookup (λ held. held == place) (meant_by table chains)))
tree_step table true chain place chains others is chained next e = sym (last_key_law table chain is chained)
tree_step table false chain place chains others is chained next e = next e

-- the tree of a place's last key is what was built there
pub same_tree : (table : TableData) (chains : Chains) (place : ℕ) → IsTable table → AreChains table chains → has_place (keys_of chains) place ≡ true → tree_at (meanings table) (ref_at chains place) ≡ alone.tree_at (meant_by table chains) place
same_tree table [] place is chained e = absurd (true≢false (sym e))
same_tree table (chain ∷ chains) place is chained e = tree_step table (chain.0 == place) chain.1 place chains (has_place (keys_of chains) place) is chained.0 (same_tree table chains place is chained.1) e

ref_step : (keys : ℕ) (b : Bool) (chain : List Key) (rest : Option (List Key)) → IsRefBelow keys (last_of chain) → IsRefBelow keys (option_map_or last_of rest Empty) → IsRefBelow keys (option_map_or last_of (cond b (Some chain) rest) Empty)
ref_step keys true chain rest here next = here
ref_step keys false chain rest here next = next

pub ref_below : (table : TableData) (chains : Chains) (place : ℕ) → AreChains table chains → IsRefBelow (length table.recipes) (ref_at chains place)
ref_below table [] place chained = tt
ref_below table (chain ∷ chains) place chained = ref_step (length table.recipes) (chain.0 == place) chain.1 (lookup (λ held. held == place) chains) (last_below table Empty chain.1 chained.0) (ref_below table chains place chained.1)

-- ---- items

value_step : {X : Type 0} (P : X → Type 0) (b : Bool) (value : X) (rest : Option X) → P value → IfSome rest P → IfSome (cond b (Some value) rest) P
value_step P true value rest here next = here
value_step P false value rest here next = next

value_found : {K X : Type 0} (P : X → Type 0) (test : K → Bool) (entries : List (K × X)) → AllByRecursion P (values_of entries) → IfSome (lookup test entries) P
value_found P test [] all = tt
value_found P test (entry ∷ entries) all = value_step P (test entry.0) entry.1 (lookup test entries) all.0 (value_found P test entries all.1)

some_step : {X : Type 0} (P : X → Type 0) (item : Option X) (items : List X) → IfSome item P → AllByRecursion P items → AllByRecursion P (cons_option item items)
some_step P None items here next = next
some_step P (Some item) items here next = (here, next)

-- the items of an input are gathered
pub items_all : (P : List ℕ → Type 0) (gathered : Blobs) (files : List (List ℕ × List ℕ)) → AllByRecursion P (values_of gathered) → AllByRecursion P (items_given gathered files)
items_all P gathered [] all = tt
items_all P gathered (file ∷ files) all =
    some_step P (lookup (pointwise ◌==◌ file.0) gathered) (items_given gathered files) (value_found P (pointwise ◌==◌ file.0) gathered all) (items_all P gathered files all)

-- they stand under their numbers
blobs_stand : (blobs items : List (List ℕ)) → AllByRecursion (Holds same_bytes blobs) items → blobs_at blobs (map (place_in same_bytes blobs) items) ≡ items
blobs_stand blobs [] held = refl
blobs_stand blobs (item ∷ items) held = ap₂ (λ o rest. cons_option o rest) (stands same_bytes exact_bytes blobs item held.0) (blobs_stand blobs items held.1)

-- ---- works

module _ (table : TableData) (chains : Chains) (gathered : Blobs) (is : IsTable table) (chained : AreChains table chains) (held : AllByRecursion (Holds same_bytes table.blobs) (values_of gathered)) where
  abbrev built : Built
  built = meant_by table chains

  abbrev AreDone : List ℕ → Type 0
  AreDone needs = AreAmong (keys_of chains) needs

  same_input_given : (input : Input) → AreDone (input_needs input) → input_at (meanings table) table.blobs (input_recipe gathered chains table.blobs input) ≡ input_given built gathered input
  same_input_given (Tree place options) done = ap (option_map a_tree) (same_tree table chains place is chained done.0)
  same_input_given (Files files) done = ap (λ items. Some (some_items items)) (blobs_stand table.blobs (items_given gathered files) (items_all (Holds same_bytes table.blobs) gathered files held))

  same_inputs : (inputs : List (List ℕ × Input)) → AllByRecursion (λ input. AreDone (input_needs input.1)) inputs
      → inputs_at (meanings table) table.blobs (map (λ input. (input.0, input_recipe gathered chains table.blobs input.1)) inputs) ≡ inputs_given built gathered inputs
  same_inputs [] done = refl
  same_inputs (input ∷ inputs) done = ap₂ (both (λ given others. (input.0, given) ∷ others)) (same_input_given input.1 done.0) (same_inputs inputs done.1)

  same_build_given : (build : Option ℕ) → AreDone (build_needs build) → build_at (meanings table) (option_map (ref_at chains) build) ≡ build_given built build
  same_build_given None done = refl
  same_build_given (Some place) done = ap (option_map Some) (same_tree table chains place is chained done.0)

  module _ (build : Option ℕ) (build_done : AreDone (build_needs build)) where
    same_work : (base : TreeRef) (stage : Stage) → AreDone (inputs_need stage.inputs) → work_of (meanings table) table.blobs (stage_recipe gathered chains table.blobs build base stage) ≡ stage_work built gathered build stage
    same_work base stage done =
        ap₂ (both (λ tree inputs. record { kind = stage.kind; build = tree; inputs = inputs })) (same_build_given build build_done)
        (same_inputs stage.inputs (all_of_each (λ need. has_place (keys_of chains) need ≡ true) (λ input. input_needs input.1) stage.inputs done))

    pub same_works : (stages : List Stage) (base : TreeRef) (keys : List Key) → AllByRecursion (λ stage. AreDone (inputs_need stage.inputs)) stages → HaveRecipes (stage_recipe gathered chains table.blobs build) table base keys stages
        → works_at table keys ≡ works built gathered build stages
    same_works [] base [] done have = refl
    same_works (stage ∷ stages) base (key ∷ keys) done have =
        ap₂ (both (λ work others. work ∷ others)) (ap (option_and_then (work_of (meanings table) table.blobs)) have.0 ∙ same_work base stage done.0) (same_works stages (Of key) keys done.1 have.1)
    same_works [] base (key ∷ keys) done have = absurd have
    same_works (stage ∷ stages) base [] done have = absurd have
