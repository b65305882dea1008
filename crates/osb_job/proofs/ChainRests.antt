-- Along a chain whose stages can run: which trees its keys mean, and what the rest of it makes of them.
use Rattle.std.proofs.Common.{◌≡◌, ◌==◌, ◌||◌, arith, ℕ, zero, suc, ◌+◌, ◌<◌, Bool, true, false, not, cond, List, [], ◌∷◌, length, drop, Option, Some, None, Result, Ok, Err, inl, inr, refl, sym, ap, ap₂, ◌∙◌, subst, subst₂}
use Rattle.std.specs.Prelude.{slice_get, option_map, option_and_then}
use Rattle.std.specs.List.{position_or_len}
use Rattle.std.specs.Result.{result_ok}
use Rattle.std.proofs.lemmas.Bool.{false≢true}
use Rattle.std.proofs.lemmas.Bool.Decides.{eqb_tells}
use Rattle.osb_tree.specs.Trees.{Listing, empty_tree}
use Rattle.osb_tree.specs.declared.numbers.Key.{Key}
use Rattle.osb_tree.specs.declared.faults.StageFault.{StageFault}
use Rattle.osb_recipe.specs.Pairs.{both}
use Rattle.osb_recipe.specs.Works.{Work, does, after_work, run_from, run_all}
use Rattle.osb_recipe.specs.Recipes.{Origin, IsRefBelow}
use Rattle.osb_recipe.specs.Tables.{TableData, AreRecipes, IsTable, IsChainFrom, IsChain}
use Rattle.osb_recipe.specs.Meanings.{Found, tree_at, meanings, meaning, work_of, work_at, works_at, meant}
use Rattle.osb_recipe.specs.Plans.{has_key}
use Rattle.osb_recipe.specs.declared.references.TreeRef.{TreeRef}
use Rattle.osb_recipe.specs.declared.references.TreeRef.TheVariants.{Empty, Of}
use Rattle.osb_recipe.specs.declared.outcomes.Outcome.{Outcome}
use Rattle.osb_recipe.specs.declared.outcomes.Outcome.TheVariants as outcomes
use Rattle.osb_recipe.proofs.Chains.{work_at-key}
use Rattle.osb_recipe.proofs.Meanings.{tree_at-key}
use Rattle.osb_tasks.specs.Running.{run_rest}
use Rattle.osb_tasks.specs.Stages.{made_of, made_at}
use Rattle.osb_job.specs.Jobs.{place_behind}
use Rattle.osb_job.proofs.AlikeStages.{CanRun, works_there}

-- ---- keys

same_key : (a b : Key) → a.0 ≡ b.0 → a ≡ b
same_key a b same = ap (λ (n : ℕ). let key : Key = record { 0 = n } in key) same

pub not_here : (first key : Key) (rest : List Key) → (first.0 == key.0) ≡ false → has_key (first ∷ rest) key ≡ true → has_key rest key ≡ true
not_here first key rest apart there = ap (λ (b : Bool). b || has_key rest key) (sym apart) ∙ there

base_below : (key count : ℕ) (recipes : List Origin) (i : ℕ) (recipe : Origin) → AreRecipes key count recipes → slice_get recipes i ≡ Some recipe → IsRefBelow (key + i) recipe.base
base_below key count [] i recipe below at = absurd (cc)
base_below key count (first ∷ recipes) zero recipe below at =
    let is : first ≡ recipe = cc in
    subst₂ (λ (keys : ℕ) (one : Origin). IsRefBelow keys one.base) (let same : key ≡ key + 0 = omega arith in same) is below.0.base
base_below key count (first ∷ recipes) (suc i) recipe below at =
    subst (λ (keys : ℕ). IsRefBelow keys recipe.base) (let same : key + 1 + i ≡ key + suc i = omega arith in same) (base_below (key + 1) count recipes i recipe below.1 at)

-- a stage that changes the tree of a key has a higher one
next_above : (table : TableData) (low key : Key) (recipe : Origin) → IsTable table → slice_get table.recipes key.0 ≡ Some recipe → recipe.base ≡ Of low → low.0 < key.0
next_above table low key recipe is at on =
    let below : IsRefBelow (0 + key.0) recipe.base = base_below 0 (length table.blobs) table.recipes key.0 recipe is.below at in
    let here : low.0 < 0 + key.0 = subst (IsRefBelow (0 + key.0)) on below in
    omega arith

-- the keys of a chain rise
pub rises : (table : TableData) (low : Key) (rest : List Key) → IsTable table → IsChainFrom table (Of low) rest → (key : Key) → has_key rest key ≡ true → low.0 < key.0
rises table low [] is linked key there = absurd (false≢true there)
rises table low (first ∷ rest) is linked key there =
    let above = next_above table low first linked.0.0 is linked.0.1 linked.0.2 in
    elim (eqb_tells first.0 key.0) [
      | inl same ↦ (let equal : first.0 ≡ key.0 = same.1 in omega arith)
      | inr apart ↦ (let later = rises table first rest is linked.1 key (not_here first key rest apart.0 there) in omega arith)
    ]

-- ---- what keys mean

-- a key means what its stage makes of the tree of the key before
key_means : (table : TableData) (base : TreeRef) (key : Key) (recipe : Origin) (work : Work) (tree : Listing) → IsTable table → slice_get table.recipes key.0 ≡ Some recipe → recipe.base ≡ base
    → work_at table key ≡ Some work → tree_at (meanings table) base ≡ Some tree → meaning table key ≡ result_ok (does work tree)
key_means table base key recipe work tree is at on can here =
    tree_at-key table key recipe is at
    ∙ ap₂ (λ (w : Option Work) (t : Option Listing). option_and_then (λ (made : Option Listing). made) (both (λ (one : Work) (from : Listing). result_ok (does one from)) w t))
    (sym (work_at-key table key recipe at) ∙ can) (ap (tree_at (meanings table)) on ∙ here)

no_base : (work : Option Work) → option_and_then (λ (made : Option Listing). made) (both (λ (one : Work) (from : Listing). result_ok (does one from)) work None) ≡ None
no_base None = refl
no_base (Some work) = refl

-- and nothing where that one means nothing
pub key_means_nothing : (table : TableData) (base : TreeRef) (key : Key) (recipe : Origin) → IsTable table → slice_get table.recipes key.0 ≡ Some recipe → recipe.base ≡ base
    → tree_at (meanings table) base ≡ None → meaning table key ≡ None
key_means_nothing table base key recipe is at on none =
    tree_at-key table key recipe is at
    ∙ ap (λ (t : Option Listing). option_and_then (λ (made : Option Listing). made) (both (λ (one : Work) (from : Listing). result_ok (does one from)) (work_of (meanings table) table.blobs recipe) t))
    (ap (tree_at (meanings table)) on ∙ none)
    ∙ no_base (work_of (meanings table) table.blobs recipe)

same_meaning : (table : TableData) (a b : Key) → a.0 ≡ b.0 → meaning table a ≡ meaning table b
same_meaning table a b same = ap (meaning table) (same_key a b same)

-- behind a key that means nothing none does
nothing_from : (table : TableData) (first : Key) (rest : List Key) → IsTable table → IsChainFrom table (Of first) rest → meaning table first ≡ None → (key : Key) → has_key (first ∷ rest) key ≡ true → meaning table key ≡ None
nothing_from table first [] is linked none key there = elim (eqb_tells first.0 key.0) [
  | inl same ↦ sym (same_meaning table first key same.1) ∙ none
  | inr apart ↦ absurd (false≢true (not_here first key [] apart.0 there))
]
nothing_from table first (second ∷ rest) is linked none key there = elim (eqb_tells first.0 key.0) [
  | inl same ↦ sym (same_meaning table first key same.1) ∙ none
  | inr apart ↦ nothing_from table second rest is linked.1 (key_means_nothing table (Of first) second linked.0.0 is linked.0.1 linked.0.2 none) key (not_here first key (second ∷ rest) apart.0 there)
]

-- ---- the rest of a chain

-- the tree in hand is the one that is meant before the rest, and the stages of the rest make of it what the chain means
pub record IsRest (table : TableData) (found : Found) (means : Outcome) (run : ℕ) (tree : Listing) (base : TreeRef) (rest : List Key) : Type 0 where
  pub linked : IsChainFrom table base rest
  pub hand : tree_at (meanings table) base ≡ Some tree
  pub stages : CanRun table found rest
  pub whole : run_rest run (works_at table rest) tree ≡ means

from_start : (works : Option (List Work)) → run_rest 0 works empty_tree ≡ run_all works
from_start None = refl
from_start (Some works) = refl

pub rest_at_start : (table : TableData) (found : Found) (chain : List Key) → IsChain table chain → CanRun table found chain → IsRest table found (meant table chain) 0 empty_tree Empty chain
rest_at_start table found chain linked can = record { linked = linked; hand = refl; stages = can; whole = from_start (works_at table chain) }

pub rest-made_at : (table : TableData) (found : Found) (means : Outcome) (run : ℕ) (tree : Listing) (base : TreeRef) (key : Key) (rest : List Key) (at : IsRest table found means run tree base (key ∷ rest))
    → made_at found table key tree ≡ made_of (Some (does at.stages.0.value tree))
rest-made_at table found means run tree base key rest at = ap (λ (work : Option Work). made_of (option_map (λ (w : Work). does w tree) work)) at.stages.0.first

pub rest-means : (table : TableData) (found : Found) (means : Outcome) (run : ℕ) (tree : Listing) (base : TreeRef) (key : Key) (rest : List Key) (at : IsRest table found means run tree base (key ∷ rest)) → IsTable table
    → meaning table key ≡ result_ok (does at.stages.0.value tree)
rest-means table found means run tree base key rest at is =
    key_means table base key at.linked.0.0 at.stages.0.value tree is at.linked.0.1 at.linked.0.2 at.stages.0.second at.hand

made_step : (place : ℕ) (tree made : Listing) (work : Work) (others : Option (List Work)) → does work tree ≡ Ok made
    → run_rest place (both (λ (one : Work) (more : List Work). one ∷ more) (Some work) others) tree ≡ run_rest (place + 1) others made
made_step place tree made work None is = refl
made_step place tree made work (Some more) is = ap (after_work place (run_from (place + 1) more)) is

-- where the stage makes a tree, that is in hand before the others
pub rest-next : (table : TableData) (found : Found) (means : Outcome) (run : ℕ) (tree : Listing) (base : TreeRef) (key : Key) (rest : List Key) (at : IsRest table found means run tree base (key ∷ rest)) → IsTable table
    → (next : Listing) → does at.stages.0.value tree ≡ Ok next → IsRest table found means (run + 1) next (Of key) rest
rest-next table found means run tree base key rest at is next made = record {
  linked = at.linked.1;
  hand = rest-means table found means run tree base key rest at is ∙ ap result_ok made;
  stages = at.stages.1;
  whole =
      sym (made_step run tree next at.stages.0.value (works_at table rest) made)
      ∙ ap (λ (work : Option Work). run_rest run (both (λ (one : Work) (more : List Work). one ∷ more) work (works_at table rest)) tree) (sym at.stages.0.second)
      ∙ at.whole;
}

-- where it has a fault, that is what the chain means
pub rest-fault : (table : TableData) (found : Found) (means : Outcome) (run : ℕ) (tree : Listing) (base : TreeRef) (key : Key) (rest : List Key) (at : IsRest table found means run tree base (key ∷ rest))
    → (fault : StageFault) → does at.stages.0.value tree ≡ Err fault → means ≡ outcomes.Fault run fault
rest-fault table found means run tree base key rest at fault made =
    let more = works_there table found rest at.stages.1 in
    sym at.whole
    ∙ ap₂ (λ (work : Option Work) (works : Option (List Work)). run_rest run (both (λ (one : Work) (others : List Work). one ∷ others) work works) tree) at.stages.0.second more.1
    ∙ ap (after_work run (run_from (run + 1) more.0)) made

-- ---- behind a key that has a tree

behind_first : (first key : Key) (rest : List Key) → (first.0 == key.0) ≡ true → place_behind key (first ∷ rest) ≡ 1
behind_first first key rest same = ap (λ (b : Bool). cond (not b) (1 + position_or_len (λ k. k.0 == key.0) rest) 0 + 1) same

behind_later : (first key : Key) (rest : List Key) → (first.0 == key.0) ≡ false → place_behind key (first ∷ rest) ≡ suc (place_behind key rest)
behind_later first key rest apart =
    let far = position_or_len (λ (k : Key). k.0 == key.0) rest in
    ap (λ (b : Bool). cond (not b) (1 + far) 0 + 1) apart ∙ (let more : 1 + far + 1 ≡ suc (far + 1) = omega arith in more)

abbrev IsBehind : TableData → Found → Outcome → ℕ → List Key → Key → Listing → ℕ → Type 0
IsBehind table found means run chain key keyed place = IsRest table found means (run + place) keyed (Of key) (drop place chain)

pub rest_behind : (table : TableData) (found : Found) (means : Outcome) (run : ℕ) (tree : Listing) (base : TreeRef) (chain : List Key) (key : Key) (keyed : Listing) → IsTable table
    → IsRest table found means run tree base chain → has_key chain key ≡ true → meaning table key ≡ Some keyed → IsRest table found means (run + place_behind key chain) keyed (Of key) (drop (place_behind key chain) chain)
rest_behind table found means run tree base [] key keyed is at there has = absurd (false≢true there)
rest_behind table found means run tree base (first ∷ rest) key keyed is at there has =
    by (does at.stages.0.value tree) refl (λ next made later. rest_behind table found means (run + 1) next (Of first) rest key keyed is (rest-next table found means run tree base first rest at is next made) later has)
  where
    here : (next : Listing) → does at.stages.0.value tree ≡ Ok next → first.0 ≡ key.0 → (first.0 == key.0) ≡ true → IsBehind table found means run (first ∷ rest) key keyed (place_behind key (first ∷ rest))
    here next made same tells =
        let one : Some next ≡ Some keyed = ap result_ok (sym made) ∙ sym (rest-means table found means run tree base first rest at is) ∙ same_meaning table first key same ∙ has in
        let tree' : next ≡ keyed = cc in
        let from = subst₂ (λ (t : Listing) (k : Key). IsRest table found means (run + 1) t (Of k) rest) tree' (same_key first key same) (rest-next table found means run tree base first rest at is next made) in
        subst (IsBehind table found means run (first ∷ rest) key keyed) (sym (behind_first first key rest tells)) from

    farther : (first.0 == key.0) ≡ false → IsRest table found means (run + 1 + place_behind key rest) keyed (Of key) (drop (place_behind key rest) rest) → IsBehind table found means run (first ∷ rest) key keyed (place_behind key (first ∷ rest))
    farther tells from =
        let far = place_behind key rest in
        let there' = subst (λ (n : ℕ). IsRest table found means n keyed (Of key) (drop far rest)) (let more : run + 1 + far ≡ run + suc far = omega arith in more) from in
        subst (IsBehind table found means run (first ∷ rest) key keyed) (sym (behind_later first key rest tells)) there'

    by : (result : Result Listing StageFault) → does at.stages.0.value tree ≡ result
        → ((next : Listing) → does at.stages.0.value tree ≡ Ok next → has_key rest key ≡ true → IsRest table found means (run + 1 + place_behind key rest) keyed (Of key) (drop (place_behind key rest) rest))
        → IsBehind table found means run (first ∷ rest) key keyed (place_behind key (first ∷ rest))
    by (Ok next) made later = elim (eqb_tells first.0 key.0) [
      | inl same ↦ here next made same.1 same.0
      | inr apart ↦ farther apart.0 (later next made (not_here first key rest apart.0 there))
    ]
    by (Err fault) made later =
        let none = nothing_from table first rest is at.linked.1 (rest-means table found means run tree base first rest at is ∙ ap result_ok made) key there in
        absurd (let no : Some keyed ≡ None = sym has ∙ none in cc)
