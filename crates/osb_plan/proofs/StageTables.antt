-- The tables that the stages of a pipeline leave, and where their recipes stand in them.
use Rattle.std.proofs.Common.{◌≡◌, ℕ, ◌≤◌, Bool, true, false, cond, List, [], ◌∷◌, ◌++◌, length, nat_lt, Some, refl, sym, subst, arith}
use Rattle.std.specs.Prelude.{slice_get}
use Rattle.std.specs.List.{AllByRecursion}
use Rattle.std.proofs.lemmas.List.{append-nil}
use Rattle.std.proofs.lemmas.Option.{slice_get_within}
use Rattle.osb_tree.specs.declared.numbers.Key.{Key}
use Rattle.osb_recipe.specs.Recipes.{Origin, IsRefBelow, IsBelow, same_recipe}
use Rattle.osb_recipe.specs.Interning.{place_in, interned}
use Rattle.osb_recipe.specs.Tables.{TableData, IsTable, IsReadRecipe, Extends, IsChainFrom}
use Rattle.osb_recipe.specs.declared.references.TreeRef.{TreeRef}
use Rattle.osb_recipe.specs.declared.references.TreeRef.TheVariants.{Of}
use Rattle.osb_recipe.proofs.Exact.{exact_recipe}
use Rattle.osb_recipe.proofs.Growing.{table_with_recipe}
use Rattle.osb_recipe.proofs.Interning.{interned-longer, interned-place}
use Rattle.osb_manifest.specs.declared.manifests.Stage.{Stage}
use Rattle.osb_plan.specs.Planning.{key_of, with_recipe, keys_of_stages, table_with_stages}
use Rattle.osb_plan.proofs.Extending.{extends_itself, extends_twice, recipe_stays, no_fewer_recipes}

-- ---- one recipe

pub with_recipe_extends : (table : TableData) (recipe : Origin) → Extends table (with_recipe table recipe)
with_recipe_extends table recipe =
    let longer = interned-longer same_recipe table.recipes recipe in
    record { recipes = longer.more; blobs = []; more_recipes = longer.added; more_blobs = sym (append-nil table.blobs) }

table_step : (b : Bool) (table : TableData) (recipe : Origin) → IsTable table → IsBelow (length table.recipes) (length table.blobs) recipe → IsReadRecipe recipe → IsTable (record { recipes = cond b table.recipes (table.recipes ++ recipe ∷ []); blobs = table.blobs })
table_step true table recipe is below read = is
table_step false table recipe is below read = table_with_recipe table.recipes (table.recipes ++ recipe ∷ []) table.blobs recipe refl is below read

pub with_recipe_table : (table : TableData) (recipe : Origin) → IsTable table → IsBelow (length table.recipes) (length table.blobs) recipe → IsReadRecipe recipe → IsTable (with_recipe table recipe)
with_recipe_table table recipe is below read = table_step (nat_lt (place_in same_recipe table.recipes recipe) (length table.recipes)) table recipe is below read

-- the recipe stands under its key
pub recipe_at_key : (table : TableData) (recipe : Origin) → IsTable table → IsReadRecipe recipe → slice_get (interned same_recipe table.recipes recipe) (place_in same_recipe table.recipes recipe) ≡ Some recipe
recipe_at_key table recipe is read = interned-place same_recipe IsReadRecipe (λ a b first second e. exact_recipe a b first second e) table.recipes recipe is.read read

-- ---- the recipes of some stages

-- a stage's recipe may come into a table of so many recipes and blobs
pub record IsFit (recipe : TreeRef → Stage → Origin) (keys blobs : ℕ) (stage : Stage) : Type 0 where
  pub below : (base : TreeRef) (many : ℕ) → keys ≤ many → IsRefBelow many base → IsBelow many blobs (recipe base stage)
  pub read : (base : TreeRef) → IsReadRecipe (recipe base stage)
  pub based : (base : TreeRef) → (recipe base stage).base ≡ base

-- keys have the recipes of stages, each over the one before
abbrev pub HaveRecipes : (TreeRef → Stage → Origin) → TableData → TreeRef → List Key → List Stage → Type 0
HaveRecipes recipe table base [] [] = Unit {0}
HaveRecipes recipe table base (key ∷ keys) (stage ∷ stages) = (slice_get table.recipes key.0 ≡ Some (recipe base stage)) × HaveRecipes recipe table (Of key) keys stages
HaveRecipes recipe table base [] (stage ∷ stages) = ⊥
HaveRecipes recipe table base (key ∷ keys) [] = ⊥

-- what the stages leave of a table
pub record IsGrown (recipe : TreeRef → Stage → Origin) (base : TreeRef) (stages : List Stage) (table later : TableData) (keys : List Key) : Type 0 where
  pub extends : Extends table later
  pub blobs : later.blobs ≡ table.blobs
  pub is : IsTable later
  pub have : HaveRecipes recipe later base keys stages

pub grown : (recipe : TreeRef → Stage → Origin) (few blobs : ℕ) (stages : List Stage) (base : TreeRef) (table : TableData) → AllByRecursion (IsFit recipe few blobs) stages → IsTable table → few ≤ length table.recipes → blobs ≡ length table.blobs → IsRefBelow (length table.recipes) base
    → IsGrown recipe base stages table (table_with_stages recipe base table stages) (keys_of_stages recipe base table stages)
grown recipe few blobs [] base table fit is more same below = record { extends = extends_itself table; blobs = refl; is = is; have = tt }
grown recipe few blobs (stage ∷ stages) base table fit is more same below =
    let here = recipe base stage in
    let next = with_recipe table here in
    let key = key_of table here in
    let extends : Extends table next = with_recipe_extends table here in
    let read : IsReadRecipe here = fit.0.read base in
    let Below : ℕ → Type 0 = λ n. IsBelow (length table.recipes) n here in
    let table_next : IsTable next = with_recipe_table table here is (subst Below same (fit.0.below base (length table.recipes) more below)) read in
    let at : slice_get next.recipes key.0 ≡ Some here = recipe_at_key table here is read in
    let wider : length table.recipes ≤ length next.recipes = no_fewer_recipes table next extends in
    let enough : few ≤ length next.recipes = omega arith in
    let rest = grown recipe few blobs stages (Of key) next fit.1 table_next enough same (slice_get_within next.recipes key.0 here at) in
    let latest = table_with_stages recipe (Of key) next stages in
    record {
      extends = extends_twice table next latest extends rest.extends;
      blobs = rest.blobs;
      is = rest.is;
      have = (recipe_stays next latest key.0 here rest.extends at, rest.have);
    }

-- such keys are a chain
pub chain_of_recipes : (recipe : TreeRef → Stage → Origin) (few blobs : ℕ) (stages : List Stage) (base : TreeRef) (table : TableData) (keys : List Key) → AllByRecursion (IsFit recipe few blobs) stages → HaveRecipes recipe table base keys stages → IsChainFrom table base keys
chain_of_recipes recipe few blobs [] base table [] fit have = tt
chain_of_recipes recipe few blobs (stage ∷ stages) base table (key ∷ keys) fit have =
    ((recipe base stage, have.0, fit.0.based base), chain_of_recipes recipe few blobs stages (Of key) table keys fit.1 have.1)
chain_of_recipes recipe few blobs [] base table (key ∷ keys) fit have = absurd have
chain_of_recipes recipe few blobs (stage ∷ stages) base table [] fit have = absurd have
