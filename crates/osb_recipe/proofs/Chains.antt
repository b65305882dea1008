-- What chains mean: the same in later tables, and the tree of their last key.
use Rattle.std.proofs.Common.{◌≡◌, ℕ, ◌+◌, ◌<◌, zero, suc, List, [], ◌∷◌, ◌++◌, length, Option, Some, None, Result, Ok, Err, inl, inr, refl, sym, ap, ap₂, ◌∙◌, subst, arith, append_assoc, append-nil}
use Rattle.std.specs.Prelude.{slice_get, option_and_then}
use Rattle.std.specs.Result.{result_ok}
use Rattle.std.proofs.lemmas.Option.{slice_get_cases, slice_get_within}
use Rattle.osb_tree.specs.Trees.{Listing, empty_tree}
use Rattle.osb_tree.specs.declared.numbers.Key.{Key}
use Rattle.osb_tree.specs.declared.faults.StageFault.{StageFault}
use Rattle.osb_recipe.specs.Pairs.{both}
use Rattle.osb_recipe.specs.Works.{Work, does, tree_of, after_work, run_from, run_all}
use Rattle.osb_recipe.specs.Recipes.{Origin, IsRefBelow, IsBelow}
use Rattle.osb_recipe.specs.Tables.{TableData, AreRecipes, IsTable, Extends, IsChainFrom, IsChain, last_of}
use Rattle.osb_recipe.specs.Meanings.{Found, tree_at, work_of, meanings, work_at, works_at}
use Rattle.osb_recipe.specs.Laws.{MeaningsStay, LastKeyIsTheFold}
use Rattle.osb_recipe.specs.declared.references.TreeRef.{TreeRef}
use Rattle.osb_recipe.specs.declared.references.TreeRef.TheVariants.{Empty, Of}
use Rattle.osb_recipe.proofs.Interning.{slice_get-more}
use Rattle.osb_recipe.proofs.Growing.{below_recipe}
use Rattle.osb_recipe.proofs.Meanings.{agree-more, length-meanings, tree_at-agree, work_of-agree, tree_at-key, meanings-longer}

-- ---- later tables

pub Extends-itself : (table : TableData) → Extends table table
Extends-itself table = record { recipes = []; blobs = []; more_recipes = sym (append-nil table.recipes); more_blobs = sym (append-nil table.blobs) }

appended : {X : Type 0} (first more others middle last : List X) → middle ≡ first ++ more → last ≡ middle ++ others → last ≡ first ++ (more ++ others)
appended {X} first more others middle last early late = late ∙ ap (λ (front : List X). front ++ others) early ∙ append_assoc first more others

pub Extends-later : (first middle last : TableData) → Extends first middle → Extends middle last → Extends first last
Extends-later first middle last early late = record {
  recipes = early.recipes ++ late.recipes;
  blobs = early.blobs ++ late.blobs;
  more_recipes = appended first.recipes early.recipes late.recipes middle.recipes last.recipes early.more_recipes late.more_recipes;
  more_blobs = appended first.blobs early.blobs late.blobs middle.blobs last.blobs early.more_blobs late.more_blobs;
}

pub recipe-stays : (table later : TableData) (key : Key) (recipe : Origin) → Extends table later → slice_get table.recipes key.0 ≡ Some recipe → slice_get later.recipes key.0 ≡ Some recipe
recipe-stays table later key recipe extends at =
    ap (λ (recipes : List Origin). slice_get recipes key.0) extends.more_recipes ∙ slice_get-more table.recipes extends.recipes key.0 recipe at

-- the meaning of each reference of a table stays
pub tree_at-stays : (table later : TableData) (ref : TreeRef) → IsTable table → Extends table later → IsRefBelow (length table.recipes) ref → tree_at (meanings later) ref ≡ tree_at (meanings table) ref
tree_at-stays table later ref is extends below =
    let longer = meanings-longer table later is extends in
    ap (λ (found : Found). tree_at found ref) longer.added
    ∙ tree_at-agree (length (meanings table)) (meanings table) (meanings table ++ longer.more) (agree-more (meanings table) longer.more) ref (subst (λ (keys : ℕ). IsRefBelow keys ref) (sym (length-meanings table)) below)

-- a recipe of a table refers to those of the table
below_at : (key count : ℕ) (recipes : List Origin) (i : ℕ) (recipe : Origin) → AreRecipes key count recipes → slice_get recipes i ≡ Some recipe → IsBelow (key + length recipes) count recipe
below_at key count [] i recipe below at = absurd (cc)
below_at key count (first ∷ recipes) zero recipe below at =
    let is : first ≡ recipe = cc in
    subst (λ (one : Origin). IsBelow (key + length (first ∷ recipes)) count one) is (below_recipe key count (key + length (first ∷ recipes)) count first (omega arith) (omega arith) below.0)
below_at key count (first ∷ recipes) (suc i) recipe below at =
    let long : key + 1 + length recipes ≡ key + length (first ∷ recipes) = omega arith in
    subst (λ (keys : ℕ). IsBelow keys count recipe) long (below_at (key + 1) count recipes i recipe below.1 at)

pub recipe-below : (table : TableData) (key : Key) (recipe : Origin) → IsTable table → slice_get table.recipes key.0 ≡ Some recipe → IsBelow (length table.recipes) (length table.blobs) recipe
recipe-below table key recipe is at =
    let none : 0 + length table.recipes ≡ length table.recipes = omega arith in
    subst (λ (keys : ℕ). IsBelow keys (length table.blobs) recipe) none (below_at 0 (length table.blobs) table.recipes key.0 recipe is.below at)

-- the work of a recipe that a table could have stays
pub work_of-stays : (table later : TableData) (recipe : Origin) → IsTable table → Extends table later → IsBelow (length table.recipes) (length table.blobs) recipe → work_of (meanings later) later.blobs recipe ≡ work_of (meanings table) table.blobs recipe
work_of-stays table later recipe is extends below =
    let longer = meanings-longer table later is extends in
    let found = meanings table in
    ap₂ (λ (all : Found) (blobs : List (List ℕ)). work_of all blobs recipe) longer.added extends.more_blobs
    ∙ work_of-agree (length found) (length table.blobs) found (found ++ longer.more) table.blobs (table.blobs ++ extends.blobs) (agree-more found longer.more) (agree-more table.blobs extends.blobs) recipe
    (subst (λ (keys : ℕ). IsBelow keys (length table.blobs) recipe) (sym (length-meanings table)) below)

-- the work of a recipe that a table has
pub work_at-key : (table : TableData) (key : Key) (recipe : Origin) → slice_get table.recipes key.0 ≡ Some recipe → work_at table key ≡ work_of (meanings table) table.blobs recipe
work_at-key table key recipe at = ap (option_and_then (work_of (meanings table) table.blobs)) at

-- the work of a key that a table has stays
pub work_at-stays : (table later : TableData) (key : Key) → IsTable table → Extends table later → key.0 < length table.recipes → work_at later key ≡ work_at table key
work_at-stays table later key is extends within = elim (slice_get_cases table.recipes key.0).1 [
  | inl held ↦
      let at : slice_get table.recipes key.0 ≡ Some held.0 = held.2 in
      work_at-key later key held.0 (recipe-stays table later key held.0 extends at)
      ∙ work_of-stays table later held.0 is extends (recipe-below table key held.0 is at)
      ∙ sym (work_at-key table key held.0 at)
  | inr past ↦ absurd (omega arith)
]

pub works_at-stays : (table later : TableData) (base : TreeRef) (chain : List Key) → IsTable table → Extends table later → IsChainFrom table base chain → works_at later chain ≡ works_at table chain
works_at-stays table later base [] is extends linked = refl
works_at-stays table later base (key ∷ keys) is extends linked =
    ap₂ (λ (first : Option Work) (others : Option (List Work)). both (λ work works. work ∷ works) first others)
    (work_at-stays table later key is extends (slice_get_within table.recipes key.0 linked.0.0 linked.0.1))
    (works_at-stays table later (Of key) keys is extends linked.1)

-- chains of a table are chains of later ones
pub IsChainFrom-stays : (table later : TableData) (base : TreeRef) (chain : List Key) → Extends table later → IsChainFrom table base chain → IsChainFrom later base chain
IsChainFrom-stays table later base [] extends linked = tt
IsChainFrom-stays table later base (key ∷ keys) extends linked =
    ((linked.0.0, recipe-stays table later key linked.0.0 extends linked.0.1, linked.0.2), IsChainFrom-stays table later (Of key) keys extends linked.1)

-- a chain ends with a recipe of the table
last_below : (table : TableData) (base : TreeRef) (key : Key) (keys : List Key) → IsChainFrom table base (key ∷ keys) → IsRefBelow (length table.recipes) (last_of (key ∷ keys))
last_below table base key [] linked = slice_get_within table.recipes key.0 linked.0.0 linked.0.1
last_below table base key (next ∷ keys) linked = last_below table (Of key) next keys linked.1

pub last_of-below : (table : TableData) (chain : List Key) → IsChain table chain → IsRefBelow (length table.recipes) (last_of chain)
last_of-below table [] linked = tt
last_of-below table (key ∷ keys) linked = last_below table Empty key keys linked

pub meanings_stay_law : MeaningsStay
meanings_stay_law table later chain is grown extends linked = ap run_all (works_at-stays table later Empty chain is extends linked)

-- ---- what stages make of a tree that may be there

abbrev whole : ℕ → Option (List Work) → Option Listing → Option Listing
whole place works base = option_and_then (λ (tree : Option Listing). tree) (both (λ (some : List Work) (tree : Listing). tree_of (run_from place some tree)) works base)

abbrev made : Option Work → Option Listing → Option Listing
made work base = option_and_then (λ (tree : Option Listing). tree) (both (λ (one : Work) (tree : Listing). result_ok (does one tree)) work base)

effect_step : (place : ℕ) (works : List Work) (effect : Result Listing StageFault) → tree_of (after_work place (run_from (place + 1) works) effect) ≡ whole (place + 1) (Some works) (result_ok effect)
effect_step place works (Ok tree) = refl
effect_step place works (Err fault) = refl

-- the first one makes a tree, and the others make theirs of it
work_step : (place : ℕ) (work : Option Work) (works : Option (List Work)) (base : Option Listing) → whole place (both (λ one more. one ∷ more) work works) base ≡ whole (place + 1) works (made work base)
work_step place None None base = refl
work_step place None (Some works) base = refl
work_step place (Some work) None base = refl
work_step place (Some work) (Some works) None = refl
work_step place (Some work) (Some works) (Some base) = effect_step place works (does work base)

no_work : (place : ℕ) (base : Option Listing) → whole place (Some []) base ≡ base
no_work place None = refl
no_work place (Some tree) = refl

-- ---- chains

made_by : (table : TableData) (base : TreeRef) (key : Key) (recipe : Origin) → IsTable table → slice_get table.recipes key.0 ≡ Some recipe → recipe.base ≡ base → made (work_at table key) (tree_at (meanings table) base) ≡ tree_at (meanings table) (Of key)
made_by table base key recipe is at on =
    ap₂ (λ (work : Option Work) (ref : TreeRef). made work (tree_at (meanings table) ref)) (work_at-key table key recipe at) (sym on) ∙ sym (tree_at-key table key recipe is at)

fold_step : (table : TableData) (place : ℕ) (base : TreeRef) (key : Key) (keys : List Key) → IsTable table → IsChainFrom table base (key ∷ keys) → whole place (works_at table (key ∷ keys)) (tree_at (meanings table) base) ≡ tree_at (meanings table) (last_of (key ∷ keys))
fold_step table place base key [] is linked =
    work_step place (work_at table key) (Some []) (tree_at (meanings table) base)
    ∙ no_work (place + 1) (made (work_at table key) (tree_at (meanings table) base))
    ∙ made_by table base key linked.0.0 is linked.0.1 linked.0.2
fold_step table place base key (next ∷ keys) is linked =
    work_step place (work_at table key) (works_at table (next ∷ keys)) (tree_at (meanings table) base)
    ∙ ap (whole (place + 1) (works_at table (next ∷ keys))) (made_by table base key linked.0.0 is linked.0.1 linked.0.2)
    ∙ fold_step table (place + 1) (Of key) next keys is linked.1

from_empty : (works : Option (List Work)) → tree_of (run_all works) ≡ whole 0 works (Some empty_tree)
from_empty None = refl
from_empty (Some works) = refl

pub last_key_law : LastKeyIsTheFold
last_key_law table [] is linked = refl
last_key_law table (key ∷ keys) is linked = from_empty (works_at table (key ∷ keys)) ∙ fold_step table 0 Empty key keys is linked
