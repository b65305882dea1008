-- Tables that grow stay tables.
use Rattle.std.proofs.Common.{◌≡◌, ℕ, ◌+◌, ◌<◌, ◌≤◌, List, [], ◌∷◌, ◌++◌, length, Option, Some, None, sym, ap, subst, arith, length-append}
use Rattle.std.specs.Prelude.{slice_get}
use Rattle.std.specs.List.{AllByRecursion}
use Rattle.std.proofs.lemmas.List.Elements.{All-weaker}
use Rattle.osb_recipe.specs.Recipes.{Origin, IsRefBelow, IsBuildBelow, IsInputBelow, IsBelow}
use Rattle.osb_recipe.specs.Tables.{AreRecipes, IsReadRecipe, IsTable}
use Rattle.osb_recipe.proofs.Interning.{slice_get-pushed, AllByRecursion-pushed}
use Rattle.osb_recipe.specs.declared.references.TreeRef.{TreeRef}
use Rattle.osb_recipe.specs.declared.references.TreeRef.TheVariants.{Empty, Of}
use Rattle.osb_recipe.specs.declared.references.InputRecipe.{InputRecipe}
use Rattle.osb_recipe.specs.declared.references.InputRecipe.TheVariants.{Tree, Files}

-- ---- what is below few is below many

pub below_ref : (few many : ℕ) (ref : TreeRef) → few ≤ many → IsRefBelow few ref → IsRefBelow many ref
below_ref few many Empty more below = tt
below_ref few many (Of key) more below = omega arith

below_build : (few many : ℕ) (ref : Option TreeRef) → few ≤ many → IsBuildBelow few ref → IsBuildBelow many ref
below_build few many None more below = tt
below_build few many (Some ref) more below = below_ref few many ref more below

below_input : (keys blobs few many : ℕ) (input : InputRecipe) → keys ≤ few → blobs ≤ many → IsInputBelow keys blobs input → IsInputBelow few many input
below_input keys blobs few many (Tree ref) more wide below = below_ref keys few ref more below
below_input keys blobs few many (Files numbers) more wide below = All-weaker (λ (n : ℕ). n < blobs) (λ (n : ℕ). n < many) (λ n h. omega arith) numbers below

pub below_recipe : (keys blobs few many : ℕ) (recipe : Origin) → keys ≤ few → blobs ≤ many → IsBelow keys blobs recipe → IsBelow few many recipe
below_recipe keys blobs few many recipe more wide below = record {
  build = below_build keys few recipe.build more below.build;
  base = below_ref keys few recipe.base more below.base;
  inputs = All-weaker (λ (input : List ℕ × InputRecipe). IsInputBelow keys blobs input.1) (λ (input : List ℕ × InputRecipe). IsInputBelow few many input.1) (λ input h. below_input keys blobs few many input.1 more wide h) recipe.inputs below.inputs;
}

-- ---- recipes and blobs that are added

pub AreRecipes-more_blobs : (key few many : ℕ) (recipes : List Origin) → few ≤ many → AreRecipes key few recipes → AreRecipes key many recipes
AreRecipes-more_blobs key few many [] wide all = tt
AreRecipes-more_blobs key few many (recipe ∷ recipes) wide all = (below_recipe key few key many recipe (omega arith) wide all.0, AreRecipes-more_blobs (key + 1) few many recipes wide all.1)

pub AreRecipes-pushed : (key blobs : ℕ) (recipes : List Origin) (recipe : Origin) → AreRecipes key blobs recipes → IsBelow (key + length recipes) blobs recipe → AreRecipes key blobs (recipes ++ recipe ∷ [])
AreRecipes-pushed key blobs [] recipe all below = (subst (λ (n : ℕ). IsBelow n blobs recipe) (omega arith) below, tt)
AreRecipes-pushed key blobs (first ∷ recipes) recipe all below = (all.0, AreRecipes-pushed (key + 1) blobs recipes recipe all.1 (subst (λ (n : ℕ). IsBelow n blobs recipe) (omega arith) below))

pub pushed_at : {X : Type 0} (items pushed : List X) (item : X) (place : ℕ) → pushed ≡ items ++ item ∷ [] → place ≡ length items → slice_get pushed place ≡ Some item
pushed_at items pushed item place is last = rw (is, last) (slice_get-pushed items item)

pub table_with_blob : (recipes : List Origin) (blobs pushed : List (List ℕ)) (blob : List ℕ) → pushed ≡ blobs ++ blob ∷ [] → IsTable (record { recipes = recipes; blobs = blobs }) → IsTable (record { recipes = recipes; blobs = pushed })
table_with_blob recipes blobs pushed blob is table =
    record { below = AreRecipes-more_blobs 0 (length blobs) (length pushed) recipes (omega (arith, ap length is, length-append blobs (blob ∷ []))) table.below; read = table.read }

pub table_with_recipe : (recipes pushed : List Origin) (blobs : List (List ℕ)) (recipe : Origin) → pushed ≡ recipes ++ recipe ∷ [] → IsTable (record { recipes = recipes; blobs = blobs }) → IsBelow (length recipes) (length blobs) recipe → IsReadRecipe recipe → IsTable (record { recipes = pushed; blobs = blobs })
table_with_recipe recipes pushed blobs recipe is table below read =
    let Below : List Origin → Type 0 = λ rs. AreRecipes 0 (length blobs) rs in
    let Read : List Origin → Type 0 = λ rs. AllByRecursion IsReadRecipe rs in
    let At : ℕ → Type 0 = λ n. IsBelow n (length blobs) recipe in
    let last : length recipes ≡ 0 + length recipes = omega arith in
    record {
      below = subst Below (sym is) (AreRecipes-pushed 0 (length blobs) recipes recipe table.below (subst At last below));
      read = subst Read (sym is) (AllByRecursion-pushed IsReadRecipe recipes recipe table.read read);
    }
