-- What is found of the tasks before means what their recipes mean, so a task makes what is meant.
use Rattle.std.proofs.Common.{◌≡◌, ◌||◌, arith, ℕ, Bool, true, false, List, [], ◌∷◌, ◌++◌, Option, Some, None, refl, ap, ap₂, ◌∙◌}
use Rattle.std.specs.Prelude.{◌==◌, slice_get, option_map, option_and_then}
use Rattle.std.specs.List.{flat_map}
use Rattle.std.proofs.lemmas.List.Folds.{list_any-append}
use Rattle.std.proofs.lemmas.Bool.Decides.{nat_tests}
use Rattle.osb_tree.specs.Trees.{Listing}
use Rattle.osb_tree.specs.declared.numbers.Key.{Key}
use Rattle.osb_recipe.specs.Pairs.{both}
use Rattle.osb_recipe.specs.Works.{Given, a_tree, Work, run_all}
use Rattle.osb_recipe.specs.Recipes.{Origin}
use Rattle.osb_recipe.specs.Tables.{TableData}
use Rattle.osb_recipe.specs.Meanings.{Found, tree_at, build_at, input_at, inputs_at, work_of, meanings, work_at, works_at, meant}
use Rattle.osb_recipe.specs.Plans.{ref_keys, build_keys, input_keys, recipe_needs, needs_of, has_key}
use Rattle.osb_recipe.specs.declared.references.TreeRef.{TreeRef}
use Rattle.osb_recipe.specs.declared.references.TreeRef.TheVariants.{Empty, Of}
use Rattle.osb_recipe.specs.declared.references.InputRecipe.{InputRecipe}
use Rattle.osb_recipe.specs.declared.references.InputRecipe.TheVariants.{Tree, Files}
use Rattle.osb_tasks.specs.Running.{work_found, works_found, outcome_found}

-- the trees of some keys are found alike
abbrev pub AgreeOn : List Key → Found → Found → Type 0
AgreeOn keys found other = (key : Key) → has_key keys key ≡ true → tree_at other (Of key) ≡ tree_at found (Of key)

or-true : (b : Bool) → (b || true) ≡ true
or-true true = refl
or-true false = refl

agree-left : (keys more : List Key) (found other : Found) → AgreeOn (keys ++ more) found other → AgreeOn keys found other
agree-left keys more found other agree key h =
    agree key (list_any-append (λ (held : Key). held.0 == key.0) keys more ∙ ap (λ (b : Bool). b || has_key more key) h)

agree-right : (keys more : List Key) (found other : Found) → AgreeOn (keys ++ more) found other → AgreeOn more found other
agree-right keys more found other agree key h =
    agree key (list_any-append (λ (held : Key). held.0 == key.0) keys more ∙ ap (λ (b : Bool). has_key keys key || b) h ∙ or-true (has_key keys key))

has_key-self : (key : Key) → has_key (key ∷ []) key ≡ true
has_key-self key = grind (arith, nat_tests)

ref_agree : (found other : Found) (ref : TreeRef) → AgreeOn (ref_keys ref) found other → tree_at other ref ≡ tree_at found ref
ref_agree found other Empty agree = refl
ref_agree found other (Of key) agree = agree key (has_key-self key)

build_agree : (found other : Found) (build : Option TreeRef) → AgreeOn (build_keys build) found other → build_at other build ≡ build_at found build
build_agree found other None agree = refl
build_agree found other (Some ref) agree = ap (λ (tree : Option Listing). option_map Some tree) (ref_agree found other ref agree)

input_agree : (found other : Found) (blobs : List (List ℕ)) (input : InputRecipe) → AgreeOn (input_keys input) found other → input_at other blobs input ≡ input_at found blobs input
input_agree found other blobs (Tree ref) agree = ap (λ (tree : Option Listing). option_map a_tree tree) (ref_agree found other ref agree)
input_agree found other blobs (Files numbers) agree = refl

abbrev keys_of_input : List ℕ × InputRecipe → List Key
keys_of_input input = input_keys input.1

inputs_agree : (found other : Found) (blobs : List (List ℕ)) (inputs : List (List ℕ × InputRecipe)) → AgreeOn (flat_map keys_of_input inputs) found other → inputs_at other blobs inputs ≡ inputs_at found blobs inputs
inputs_agree found other blobs [] agree = refl
inputs_agree found other blobs (input ∷ inputs) agree =
    ap₂ (λ (given : Option Given) (others : Option (List (List ℕ × Given))). both (λ one more. (input.0, one) ∷ more) given others)
    (input_agree found other blobs input.1 (agree-left (input_keys input.1) (flat_map keys_of_input inputs) found other agree))
    (inputs_agree found other blobs inputs (agree-right (input_keys input.1) (flat_map keys_of_input inputs) found other agree))

work_agree : (found other : Found) (blobs : List (List ℕ)) (recipe : Origin) → AgreeOn (recipe_needs (Some recipe)) found other → work_of other blobs recipe ≡ work_of found blobs recipe
work_agree found other blobs recipe agree =
    ap₂ (λ (build : Option (Option Listing)) (inputs : Option (List (List ℕ × Given))). both (λ one more. let work : Work = record { kind = recipe.kind; build = one; inputs = more } in work) build inputs)
    (build_agree found other recipe.build (agree-left (build_keys recipe.build) (flat_map keys_of_input recipe.inputs) found other agree))
    (inputs_agree found other blobs recipe.inputs (agree-right (build_keys recipe.build) (flat_map keys_of_input recipe.inputs) found other agree))

key_agree : (found : Found) (table : TableData) (key : Key) → AgreeOn (recipe_needs (slice_get table.recipes key.0)) (meanings table) found → work_found found table.blobs table.recipes key ≡ work_at table key
key_agree found table key agree = by (slice_get table.recipes key.0) agree
  where
    by : (there : Option Origin) → AgreeOn (recipe_needs there) (meanings table) found → option_and_then (work_of found table.blobs) there ≡ option_and_then (work_of (meanings table) table.blobs) there
    by None agree = refl
    by (Some recipe) agree = work_agree (meanings table) found table.blobs recipe agree

works_agree : (found : Found) (table : TableData) (chain : List Key) → AgreeOn (needs_of table chain) (meanings table) found → works_found found table.blobs table.recipes chain ≡ works_at table chain
works_agree found table [] agree = refl
works_agree found table (key ∷ keys) agree =
    ap₂ (λ (work : Option Work) (works : Option (List Work)). both (λ one more. one ∷ more) work works)
    (key_agree found table key (agree-left (recipe_needs (slice_get table.recipes key.0)) (needs_of table keys) (meanings table) found agree))
    (works_agree found table keys (agree-right (recipe_needs (slice_get table.recipes key.0)) (needs_of table keys) (meanings table) found agree))

pub outcome_meant : (found : Found) (table : TableData) (chain : List Key) → AgreeOn (needs_of table chain) (meanings table) found → outcome_found found table.blobs table.recipes chain ≡ meant table chain
outcome_meant found table chain agree = ap run_all (works_agree found table chain agree)
