-- Stages that can run with the trees that are found, and are then the stages that are meant.
use Rattle.std.proofs.Common.{◌≡◌, ◌==◌, arith, ℕ, true, List, [], ◌∷◌, ◌++◌, Option, Some, None, refl, sym, ap, ap₂, ◌∙◌, subst}
use Rattle.std.specs.Prelude.{slice_get, option_map, option_and_then}
use Rattle.std.specs.List.{flat_map}
use Rattle.std.proofs.lemmas.Bool.{or_left, or_right}
use Rattle.std.proofs.lemmas.Bool.Decides.{nat_tests}
use Rattle.std.proofs.lemmas.List.Folds.{list_any-append}
use Rattle.osb_tree.specs.Trees.{Listing, empty_tree}
use Rattle.osb_tree.specs.declared.numbers.Key.{Key}
use Rattle.osb_recipe.specs.Pairs.{both}
use Rattle.osb_recipe.specs.FilesTrees.{blobs_at}
use Rattle.osb_recipe.specs.Works.{Given, a_tree, some_items, Work}
use Rattle.osb_recipe.specs.Recipes.{Origin}
use Rattle.osb_recipe.specs.Tables.{TableData, IsChainFrom}
use Rattle.osb_recipe.specs.Meanings.{Found, tree_at, build_at, input_at, inputs_at, work_of, meanings, work_at, works_at}
use Rattle.osb_recipe.specs.Plans.{ref_keys, build_keys, input_keys, recipe_needs, needs_of, has_key}
use Rattle.osb_recipe.specs.declared.references.TreeRef.{TreeRef}
use Rattle.osb_recipe.specs.declared.references.TreeRef.TheVariants.{Empty, Of}
use Rattle.osb_recipe.specs.declared.references.InputRecipe.{InputRecipe}
use Rattle.osb_recipe.specs.declared.references.InputRecipe.TheVariants.{Tree, Files}
use Rattle.osb_tasks.specs.Running.{work_found}

-- ---- the same is there in both

pub record Alike {X : Type 0} (a b : Option X) : Type 0 where
  pub value : X
  pub first : a ≡ Some value
  pub second : b ≡ Some value

alike-map : {X Y : Type 0} (f : X → Y) (a b : Option X) → Alike a b → Alike (option_map f a) (option_map f b)
alike-map f a b alike = record { value = f alike.value; first = ap (option_map f) alike.first; second = ap (option_map f) alike.second }

alike-both : {X Y Z : Type 0} (f : X → Y → Z) (a b : Option X) (c d : Option Y) → Alike a b → Alike c d → Alike (both f a c) (both f b d)
alike-both f a b c d one two = record {
  value = f one.value two.value;
  first = ap₂ (both f) one.first two.first;
  second = ap₂ (both f) one.second two.second;
}

-- ---- what holds of some keys

abbrev pub OnKeys : (Key → Type 0) → List Key → Type 0
OnKeys P keys = (key : Key) → has_key keys key ≡ true → P key

on-left : (P : Key → Type 0) (keys more : List Key) → OnKeys P (keys ++ more) → OnKeys P keys
on-left P keys more holds key h =
    holds key (list_any-append (λ (held : Key). held.0 == key.0) keys more ∙ or_left (has_key keys key) (has_key more key) h)

on-right : (P : Key → Type 0) (keys more : List Key) → OnKeys P (keys ++ more) → OnKeys P more
on-right P keys more holds key h =
    holds key (list_any-append (λ (held : Key). held.0 == key.0) keys more ∙ or_right (has_key keys key) (has_key more key) h)

pub has_key-self : (key : Key) → has_key (key ∷ []) key ≡ true
has_key-self key = grind (arith, nat_tests)

-- ---- a stage

-- the tree of a key is found, and is the one that is meant
abbrev pub AlikeAt : Found → Found → Key → Type 0
AlikeAt found means key = Alike (tree_at found (Of key)) (tree_at means (Of key))

ref_alike : (found means : Found) (ref : TreeRef) → OnKeys (AlikeAt found means) (ref_keys ref) → Alike (tree_at found ref) (tree_at means ref)
ref_alike found means Empty alike = record { value = empty_tree; first = refl; second = refl }
ref_alike found means (Of key) alike = alike key (has_key-self key)

build_alike : (found means : Found) (build : Option TreeRef) → OnKeys (AlikeAt found means) (build_keys build) → Alike (build_at found build) (build_at means build)
build_alike found means None alike = record { value = None; first = refl; second = refl }
build_alike found means (Some ref) alike =
    alike-map (λ (tree : Listing). Some tree) (tree_at found ref) (tree_at means ref) (ref_alike found means ref alike)

input_alike : (found means : Found) (blobs : List (List ℕ)) (input : InputRecipe) → OnKeys (AlikeAt found means) (input_keys input) → Alike (input_at found blobs input) (input_at means blobs input)
input_alike found means blobs (Tree ref) alike = alike-map a_tree (tree_at found ref) (tree_at means ref) (ref_alike found means ref alike)
input_alike found means blobs (Files numbers) alike = record { value = some_items (blobs_at blobs numbers); first = refl; second = refl }

abbrev keys_of_input : List ℕ × InputRecipe → List Key
keys_of_input input = input_keys input.1

inputs_alike : (found means : Found) (blobs : List (List ℕ)) (inputs : List (List ℕ × InputRecipe)) → OnKeys (AlikeAt found means) (flat_map keys_of_input inputs) → Alike (inputs_at found blobs inputs) (inputs_at means blobs inputs)
inputs_alike found means blobs [] alike = record { value = []; first = refl; second = refl }
inputs_alike found means blobs (input ∷ inputs) alike =
    let Holds : Key → Type 0 = AlikeAt found means in
    let one = input_alike found means blobs input.1 (on-left Holds (input_keys input.1) (flat_map keys_of_input inputs) alike) in
    let more = inputs_alike found means blobs inputs (on-right Holds (input_keys input.1) (flat_map keys_of_input inputs) alike) in
    alike-both (λ (given : Given) (others : List (List ℕ × Given)). (input.0, given) ∷ others)
    (input_at found blobs input.1) (input_at means blobs input.1) (inputs_at found blobs inputs) (inputs_at means blobs inputs) one more

work_alike : (found means : Found) (blobs : List (List ℕ)) (recipe : Origin) → OnKeys (AlikeAt found means) (recipe_needs (Some recipe)) → Alike (work_of found blobs recipe) (work_of means blobs recipe)
work_alike found means blobs recipe alike =
    let Holds : Key → Type 0 = AlikeAt found means in
    let build = build_alike found means recipe.build (on-left Holds (build_keys recipe.build) (flat_map keys_of_input recipe.inputs) alike) in
    let inputs = inputs_alike found means blobs recipe.inputs (on-right Holds (build_keys recipe.build) (flat_map keys_of_input recipe.inputs) alike) in
    alike-both (λ (one : Option Listing) (more : List (List ℕ × Given)). let work : Work = record { kind = recipe.kind; build = one; inputs = more } in work)
    (build_at found recipe.build) (build_at means recipe.build) (inputs_at found blobs recipe.inputs) (inputs_at means blobs recipe.inputs) build inputs

key_alike : (table : TableData) (found : Found) (key : Key) (recipe : Origin) → slice_get table.recipes key.0 ≡ Some recipe → OnKeys (AlikeAt found (meanings table)) (recipe_needs (slice_get table.recipes key.0))
    → Alike (work_found found table.blobs table.recipes key) (work_at table key)
key_alike table found key recipe at =
    let Fits : Option Origin → Type 0 = λ there. OnKeys (AlikeAt found (meanings table)) (recipe_needs there) → Alike (option_and_then (work_of found table.blobs) there) (option_and_then (work_of (meanings table) table.blobs) there) in
    subst Fits (sym at) (work_alike found (meanings table) table.blobs recipe)

-- ---- the stages of a chain

abbrev pub CanRun : TableData → Found → List Key → Type 0
CanRun table found [] = Unit {0}
CanRun table found (key ∷ keys) = Alike (work_found found table.blobs table.recipes key) (work_at table key) × CanRun table found keys

pub can_run : (table : TableData) (found : Found) (base : TreeRef) (chain : List Key) → IsChainFrom table base chain → OnKeys (AlikeAt found (meanings table)) (needs_of table chain) → CanRun table found chain
can_run table found base [] linked alike = tt
can_run table found base (key ∷ keys) linked alike =
    let Holds : Key → Type 0 = AlikeAt found (meanings table) in
    let needs = recipe_needs (slice_get table.recipes key.0) in
    (key_alike table found key linked.0.0 linked.0.1 (on-left Holds needs (needs_of table keys) alike), can_run table found (Of key) keys linked.1 (on-right Holds needs (needs_of table keys) alike))

pub works_there : (table : TableData) (found : Found) (chain : List Key) → CanRun table found chain → (works : List Work) × (works_at table chain ≡ Some works)
works_there table found [] can = ([], refl)
works_there table found (key ∷ keys) can =
    let more = works_there table found keys can.1 in
    (can.0.value ∷ more.0, ap₂ (both (λ (work : Work) (works : List Work). work ∷ works)) can.0.second more.1)
