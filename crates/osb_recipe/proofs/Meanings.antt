-- What recipes mean stays, whatever is added behind them.
use Rattle.std.proofs.Common.{◌≡◌, ℕ, ◌+◌, ◌<◌, zero, suc, List, [], ◌∷◌, ◌++◌, length, Option, Some, None, refl, sym, ap, ap₂, ◌∙◌, subst, arith, append_assoc, append-nil, length-append}
use Rattle.std.specs.Prelude.{slice_get, option_map, option_and_then}
use Rattle.std.specs.List.{All, cons_option}
use Rattle.std.specs.Result.{result_ok}
use Rattle.std.proofs.lemmas.List.Elements.{All-head, All-tail}
use Rattle.osb_tree.specs.Trees.{Listing}
use Rattle.osb_tree.specs.declared.numbers.Key.{Key}
use Rattle.osb_recipe.specs.Pairs.{both}
use Rattle.osb_recipe.specs.FilesTrees.{blobs_at}
use Rattle.osb_recipe.specs.Works.{Given, a_tree, some_items, Work, does}
use Rattle.osb_recipe.specs.Recipes.{Origin, IsRefBelow, IsBuildBelow, IsInputBelow, IsBelow}
use Rattle.osb_recipe.specs.Tables.{TableData, AreRecipes, IsTable, Extends}
use Rattle.osb_recipe.specs.Meanings.{Found, tree_at, build_at, input_at, inputs_at, work_of, tree_made, meanings_after, meanings}
use Rattle.osb_recipe.specs.declared.references.TreeRef.{TreeRef}
use Rattle.osb_recipe.specs.declared.references.TreeRef.TheVariants.{Empty, Of}
use Rattle.osb_recipe.specs.declared.references.InputRecipe.{InputRecipe}
use Rattle.osb_recipe.specs.declared.references.InputRecipe.TheVariants.{Tree, Files}
use Rattle.osb_recipe.proofs.Interning.{IsLonger}

-- ---- lists that agree below a number

abbrev pub AgreeBelow : {X : Type 0} → ℕ → List X → List X → Type 0
AgreeBelow count items other = (i : ℕ) → i < count → slice_get other i ≡ slice_get items i

pub agree-itself : {X : Type 0} (count : ℕ) (items : List X) → AgreeBelow count items items
agree-itself count items i within = refl

-- a longer list agrees with the one that it begins with
pub agree-more : {X : Type 0} (items more : List X) → AgreeBelow (length items) items (items ++ more)
agree-more [] more i within = absurd (omega arith)
agree-more (x ∷ items) more zero within = refl
agree-more (x ∷ items) more (suc i) within = agree-more items more i (omega arith)

-- ---- what is read of recipes below a number is read of all lists that agree there

pub tree_at-agree : (keys : ℕ) (found other : Found) → AgreeBelow keys found other → (ref : TreeRef) → IsRefBelow keys ref → tree_at other ref ≡ tree_at found ref
tree_at-agree keys found other agree Empty below = refl
tree_at-agree keys found other agree (Of key) below = ap (option_and_then (λ (tree : Option Listing). tree)) (agree key.0 below)

build_at-agree : (keys : ℕ) (found other : Found) → AgreeBelow keys found other → (ref : Option TreeRef) → IsBuildBelow keys ref → build_at other ref ≡ build_at found ref
build_at-agree keys found other agree None below = refl
build_at-agree keys found other agree (Some ref) below = ap (λ (tree : Option Listing). option_map Some tree) (tree_at-agree keys found other agree ref below)

pub blobs_at-agree : (count : ℕ) (blobs other : List (List ℕ)) → AgreeBelow count blobs other → (numbers : List ℕ) → All (λ number. number < count) numbers → blobs_at other numbers ≡ blobs_at blobs numbers
blobs_at-agree count blobs other agree [] below = refl
blobs_at-agree count blobs other agree (number ∷ numbers) below =
    let Below : ℕ → Type 0 = λ n. n < count in
    ap₂ cons_option (agree number (All-head Below number numbers below)) (blobs_at-agree count blobs other agree numbers (All-tail Below number numbers below))

input_at-agree : (keys count : ℕ) (found other : Found) (blobs longer : List (List ℕ)) → AgreeBelow keys found other → AgreeBelow count blobs longer → (input : InputRecipe) → IsInputBelow keys count input → input_at other longer input ≡ input_at found blobs input
input_at-agree keys count found other blobs longer agree alike (Tree ref) below = ap (λ (tree : Option Listing). option_map a_tree tree) (tree_at-agree keys found other agree ref below)
input_at-agree keys count found other blobs longer agree alike (Files numbers) below = ap (λ (items : List (List ℕ)). Some (some_items items)) (blobs_at-agree count blobs longer alike numbers below)

inputs_at-agree : (keys count : ℕ) (found other : Found) (blobs longer : List (List ℕ)) → AgreeBelow keys found other → AgreeBelow count blobs longer → (inputs : List (List ℕ × InputRecipe)) → All (λ input. IsInputBelow keys count input.1) inputs → inputs_at other longer inputs ≡ inputs_at found blobs inputs
inputs_at-agree keys count found other blobs longer agree alike [] below = refl
inputs_at-agree keys count found other blobs longer agree alike (input ∷ inputs) below =
    let Below : List ℕ × InputRecipe → Type 0 = λ one. IsInputBelow keys count one.1 in
    ap₂ (λ (given : Option Given) (others : Option (List (List ℕ × Given))). both (λ one more. (input.0, one) ∷ more) given others)
    (input_at-agree keys count found other blobs longer agree alike input.1 (All-head Below input inputs below))
    (inputs_at-agree keys count found other blobs longer agree alike inputs (All-tail Below input inputs below))

pub work_of-agree : (keys count : ℕ) (found other : Found) (blobs longer : List (List ℕ)) → AgreeBelow keys found other → AgreeBelow count blobs longer → (recipe : Origin) → IsBelow keys count recipe → work_of other longer recipe ≡ work_of found blobs recipe
work_of-agree keys count found other blobs longer agree alike recipe below =
    ap₂ (λ (build : Option (Option Listing)) (inputs : Option (List (List ℕ × Given))). both (λ one more. let work : Work = record { kind = recipe.kind; build = one; inputs = more } in work) build inputs)
    (build_at-agree keys found other agree recipe.build below.build)
    (inputs_at-agree keys count found other blobs longer agree alike recipe.inputs below.inputs)

pub tree_made-agree : (keys count : ℕ) (found other : Found) (blobs longer : List (List ℕ)) → AgreeBelow keys found other → AgreeBelow count blobs longer → (recipe : Origin) → IsBelow keys count recipe → tree_made other longer recipe ≡ tree_made found blobs recipe
tree_made-agree keys count found other blobs longer agree alike recipe below =
    ap₂ (λ (works : Option Work) (trees : Option Listing). option_and_then (λ (tree : Option Listing). tree) (both (λ work base. result_ok (does work base)) works trees))
    (work_of-agree keys count found other blobs longer agree alike recipe below)
    (tree_at-agree keys found other agree recipe.base below.base)

-- ---- meanings one after another

pub length-meanings_after : (blobs : List (List ℕ)) (found : Found) (recipes : List Origin) → length (meanings_after blobs found recipes) ≡ length recipes
length-meanings_after blobs found [] = refl
length-meanings_after blobs found (recipe ∷ recipes) = ap suc (length-meanings_after blobs (found ++ tree_made found blobs recipe ∷ []) recipes)

pub meanings_after-append : (blobs : List (List ℕ)) (found : Found) (recipes more : List Origin) → meanings_after blobs found (recipes ++ more) ≡ meanings_after blobs found recipes ++ meanings_after blobs (found ++ meanings_after blobs found recipes) more
meanings_after-append blobs found [] more = ap (λ (before : Found). meanings_after blobs before more) (sym (append-nil found))
meanings_after-append blobs found (recipe ∷ recipes) more =
    let tree = tree_made found blobs recipe in
    let others = meanings_after blobs (found ++ tree ∷ []) recipes in
    ap (λ (rest : Found). tree ∷ rest) (meanings_after-append blobs (found ++ tree ∷ []) recipes more)
    ∙ ap (λ (before : Found). tree ∷ (others ++ meanings_after blobs before more)) (append_assoc found (tree ∷ []) others)

-- the key of the next recipe
next_recipes : (count : ℕ) (found : Found) (tree : Option Listing) (recipes : List Origin) → AreRecipes (length found + 1) count recipes → AreRecipes (length (found ++ tree ∷ [])) count recipes
next_recipes count found tree recipes below =
    let next : length found + 1 ≡ length (found ++ tree ∷ []) = omega (arith, length-append found (tree ∷ [])) in
    subst (λ (key : ℕ). AreRecipes key count recipes) next below

pub meanings_after-more_blobs : (blobs more : List (List ℕ)) (found : Found) (recipes : List Origin) → AreRecipes (length found) (length blobs) recipes → meanings_after (blobs ++ more) found recipes ≡ meanings_after blobs found recipes
meanings_after-more_blobs blobs more found [] below = refl
meanings_after-more_blobs blobs more found (recipe ∷ recipes) below =
    let tree = tree_made found blobs recipe in
    let same : tree_made found (blobs ++ more) recipe ≡ tree = tree_made-agree (length found) (length blobs) found found blobs (blobs ++ more) (agree-itself (length found) found) (agree-more blobs more) recipe below.0 in
    ap (λ (head : Option Listing). head ∷ meanings_after (blobs ++ more) (found ++ head ∷ []) recipes) same
    ∙ ap (λ (rest : Found). tree ∷ rest) (meanings_after-more_blobs blobs more (found ++ tree ∷ []) recipes (next_recipes (length blobs) found tree recipes below.1))

-- what a recipe means is made of all that is found, as of what was found before it
made_at : (blobs : List (List ℕ)) (found : Found) (recipes : List Origin) (i : ℕ) (recipe : Origin) → AreRecipes (length found) (length blobs) recipes → slice_get recipes i ≡ Some recipe
    → slice_get (meanings_after blobs found recipes) i ≡ Some (tree_made (found ++ meanings_after blobs found recipes) blobs recipe)
made_at blobs found [] i recipe below at = absurd (cc)
made_at blobs found (first ∷ recipes) zero recipe below at =
    let all = found ++ meanings_after blobs found (first ∷ recipes) in
    let is : first ≡ recipe = cc in
    ap Some (sym (tree_made-agree (length found) (length blobs) found all blobs blobs (agree-more found (meanings_after blobs found (first ∷ recipes))) (agree-itself (length blobs) blobs) first below.0) ∙ ap (λ (one : Origin). tree_made all blobs one) is)
made_at blobs found (first ∷ recipes) (suc i) recipe below at =
    let tree = tree_made found blobs first in
    made_at blobs (found ++ tree ∷ []) recipes i recipe (next_recipes (length blobs) found tree recipes below.1) at
    ∙ ap (λ (all : Found). Some (tree_made all blobs recipe)) (append_assoc found (tree ∷ []) (meanings_after blobs (found ++ tree ∷ []) recipes))

-- ---- tables

pub length-meanings : (table : TableData) → length (meanings table) ≡ length table.recipes
unfolding meanings
length-meanings table = length-meanings_after table.blobs [] table.recipes

-- the tree of a key is what its recipe makes
pub tree_at-key : (table : TableData) (key : Key) (recipe : Origin) → IsTable table → slice_get table.recipes key.0 ≡ Some recipe → tree_at (meanings table) (Of key) ≡ tree_made (meanings table) table.blobs recipe
unfolding meanings
tree_at-key table key recipe is at = ap (option_and_then (λ (tree : Option Listing). tree)) (made_at table.blobs [] table.recipes key.0 recipe is.below at)

-- a later table means what the earlier one does, and more
pub meanings-longer : (table later : TableData) → IsTable table → Extends table later → IsLonger (meanings table) (meanings later)
unfolding meanings
meanings-longer table later is extends =
    let before = meanings_after table.blobs [] table.recipes in
    let blobs = table.blobs ++ extends.blobs in
    let stays : meanings_after blobs [] table.recipes ≡ before = meanings_after-more_blobs table.blobs extends.blobs [] table.recipes is.below in
    record {
      more = meanings_after blobs (meanings_after blobs [] table.recipes) extends.recipes;
      added = ap₂ (λ (bytes : List (List ℕ)) (recipes : List Origin). meanings_after bytes [] recipes) extends.more_blobs extends.more_recipes ∙ meanings_after-append blobs [] table.recipes extends.recipes ∙ ap (λ (front : Found). front ++ meanings_after blobs (meanings_after blobs [] table.recipes) extends.recipes) stays;
    }
