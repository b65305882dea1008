-- What recipes mean is a tree, since each is made of what those before it mean.
use Rattle.std.proofs.Common.{ℕ, zero, suc, List, [], ◌∷◌, ◌++◌, Option, Some, None, Result, Ok, Err}
use Rattle.std.specs.Prelude.{IfOk, IfSome, slice_get, option_map, option_and_then}
use Rattle.std.specs.List.{AllByRecursion}
use Rattle.std.specs.Result.{result_ok}
use Rattle.osb_tree.specs.Trees.{Listing}
use Rattle.osb_tree.specs.declared.faults.PutFault.{PutFault}
use Rattle.osb_tree.specs.declared.faults.StageFault.{StageFault}
use Rattle.osb_tree.proofs.TreeLaws.{empty_tree-is_tree, empty_tree-is_within_limits}
use Rattle.osb_recipe.specs.Pairs.{both}
use Rattle.osb_recipe.specs.FilesTrees.{files_tree}
use Rattle.osb_recipe.specs.Kinds.{effect}
use Rattle.osb_recipe.specs.Works.{Given, a_tree, some_items, Work, ok_or_large, given_tree, and_then, input_trees, tool_fault, does}
use Rattle.osb_recipe.specs.Recipes.{Origin}
use Rattle.osb_recipe.specs.Tables.{IsReadRecipe}
use Rattle.osb_recipe.specs.Meanings.{Found, tree_at, build_at, input_at, inputs_at, tree_made, meanings_after, meanings}
use Rattle.osb_recipe.proofs.Interning.{AllByRecursion-pushed}
use Rattle.osb_recipe.specs.declared.references.TreeRef.{TreeRef}
use Rattle.osb_recipe.specs.declared.references.TreeRef.TheVariants.{Empty, Of}
use Rattle.osb_recipe.specs.declared.references.InputRecipe.{InputRecipe}
use Rattle.osb_recipe.specs.declared.references.InputRecipe.TheVariants.{Tree, Files}
use Rattle.osb_meanings.specs.Laws.{IsWithin, MeaningsAreTrees}
use Rattle.osb_meanings.proofs.Gives.{GivesATree, gives-unless}
use Rattle.osb_meanings.proofs.FilesTrees.{files_tree-gives}
use Rattle.osb_meanings.proofs.Ranges.{AreInRange, in_range-read}
use Rattle.osb_meanings.proofs.Files.{AreTrees}
use Rattle.osb_meanings.proofs.Effects.{effect_keeps_trees}

-- ---- what is found

-- whatever is found is a tree
abbrev IsFound : Option Listing → Type 0
IsFound tree = IfSome tree IsWithin

abbrev AreFound : Found → Type 0
AreFound found = AllByRecursion IsFound found

all-at : {A : Type 0} (P : A → Type 0) (items : List A) (i : ℕ) → AllByRecursion P items → IfSome (slice_get items i) P
all-at P [] i all = tt
all-at P (item ∷ items) zero all = all.0
all-at P (item ∷ items) (suc i) all = all-at P items i all.1

found-at : (found : Found) (i : ℕ) → AreFound found → IsFound (option_and_then (λ tree. tree) (slice_get found i))
found-at found i all = by (slice_get found i) (all-at IsFound found i all)
  where
    by : (at : Option (Option Listing)) → IfSome at IsFound → IsFound (option_and_then (λ tree. tree) at)
    by None is = tt
    by (Some tree) is = is

tree_at-found : (found : Found) (ref : TreeRef) → AreFound found → IsFound (tree_at found ref)
tree_at-found found Empty all = record { tree = empty_tree-is_tree; limits = empty_tree-is_within_limits }
tree_at-found found (Of key) all = found-at found key.0 all

-- ---- the inputs of a stage

abbrev IsGiven : Given → Type 0
IsGiven (a_tree listing) = IsWithin listing
IsGiven (some_items items) = Unit {0}

abbrev AreGiven : List (List ℕ × Given) → Type 0
AreGiven inputs = AllByRecursion (λ input. IsGiven input.1) inputs

input_at-given : (found : Found) (blobs : List (List ℕ)) (input : InputRecipe) → AreFound found → IfSome (input_at found blobs input) IsGiven
input_at-given found blobs (Files numbers) all = tt
input_at-given found blobs (Tree ref) all = by (tree_at found ref) (tree_at-found found ref all)
  where
    by : (tree : Option Listing) → IsFound tree → IfSome (option_map a_tree tree) IsGiven
    by None is = tt
    by (Some listing) is = is

inputs_at-given : (found : Found) (blobs : List (List ℕ)) (inputs : List (List ℕ × InputRecipe)) → AreFound found → IfSome (inputs_at found blobs inputs) AreGiven
inputs_at-given found blobs [] all = tt
inputs_at-given found blobs (input ∷ inputs) all = by (input_at found blobs input.1) (inputs_at found blobs inputs) (input_at-given found blobs input.1 all) (inputs_at-given found blobs inputs all)
  where
    by : (one : Option Given) (others : Option (List (List ℕ × Given))) → IfSome one IsGiven → IfSome others AreGiven → IfSome (both (λ given others. (input.0, given) ∷ others) one others) AreGiven
    by None others is are = tt
    by (Some given) None is are = tt
    by (Some given) (Some others) is are = (is, are)

-- ---- one stage

given_tree-gives : (given : Given) → IsGiven given → GivesATree (given_tree given)
given_tree-gives (a_tree listing) is = is
given_tree-gives (some_items items) is = by (files_tree items) (files_tree-gives items)
  where
    by : (files : Result Listing PutFault) → IfOk files IsWithin → GivesATree (ok_or_large files)
    by (Ok listing) is = is
    by (Err fault) is = tt

gives-next : {A B : Type 0} (P : A → Type 0) (Q : B → Type 0) (made : Result A StageFault) (next : A → Result B StageFault) → IfOk made P → ((a : A) → P a → IfOk (next a) Q) → IfOk (and_then made next) Q
gives-next P Q (Ok a) next is later = later a is
gives-next P Q (Err fault) next is later = tt

input_trees-give : (inputs : List (List ℕ × Given)) → AreGiven inputs → IfOk (input_trees inputs) AreTrees
input_trees-give [] are = tt
input_trees-give (input ∷ inputs) are =
    gives-next IsWithin AreTrees (given_tree input.1) _ (given_tree-gives input.1 are.0) (λ tree is.
    gives-next AreTrees AreTrees (input_trees inputs) _ (input_trees-give inputs are.1) (λ others more. (is, more)))

-- a stage makes a tree of a tree
does-gives : (work : Work) (base : Listing) → AreInRange work.kind → AreGiven work.inputs → IsWithin base → GivesATree (does work base)
does-gives work base range given is =
    gives-unless (tool_fault work.kind work.build) _ (λ _.
    gives-next AreTrees IsWithin (input_trees work.inputs) (λ trees. effect work.kind (record { trees = trees }) base) (input_trees-give work.inputs given) (λ trees are.
    effect_keeps_trees work.kind (record { trees = trees }) base range are is))

-- ---- one recipe after another

tree_made-found : (found : Found) (blobs : List (List ℕ)) (recipe : Origin) → AreFound found → IsReadRecipe recipe → IsFound (tree_made found blobs recipe)
tree_made-found found blobs recipe all read =
    by (build_at found recipe.build) (inputs_at found blobs recipe.inputs) (tree_at found recipe.base) (inputs_at-given found blobs recipe.inputs all) (tree_at-found found recipe.base all)
  where
    work : Option Listing → List (List ℕ × Given) → Work
    work build inputs = record { kind = recipe.kind; build = build; inputs = inputs }

    made : (effect : Result Listing StageFault) → GivesATree effect → IsFound (result_ok effect)
    made (Ok listing) is = is
    made (Err fault) is = tt

    by : (build : Option (Option Listing)) (inputs : Option (List (List ℕ × Given))) (base : Option Listing) → IfSome inputs AreGiven → IsFound base
        → IsFound (option_and_then (λ tree. tree) (both (λ work base. result_ok (does work base)) (both work build inputs) base))
    by None inputs base given is = tt
    by (Some build) None base given is = tt
    by (Some build) (Some inputs) None given is = tt
    by (Some build) (Some inputs) (Some base) given is = made (does (work build inputs) base) (does-gives (work build inputs) base (in_range-read recipe.kind recipe.options_text read) given is)

meanings_after-found : (blobs : List (List ℕ)) (found : Found) (recipes : List Origin) → AreFound found → AllByRecursion IsReadRecipe recipes → AreFound (meanings_after blobs found recipes)
meanings_after-found blobs found [] all read = tt
meanings_after-found blobs found (recipe ∷ recipes) all read =
    let is = tree_made-found found blobs recipe all read.0 in
    (is, meanings_after-found blobs (found ++ tree_made found blobs recipe ∷ []) recipes (AllByRecursion-pushed IsFound found (tree_made found blobs recipe) all is) read.1)

pub meanings_law : MeaningsAreTrees
unfolding meanings
meanings_law table key tree is made =
    let all = meanings_after-found table.blobs [] table.recipes tt is.read in
    let holds = found-at (meanings table) key.0 all in
    rw made at holds
