-- What is fetched for a task: the outcomes that are meant, and so the trees that it is built with.
use Rattle.std.proofs.Common.{◌≡◌, ◌||◌, arith, ℕ, zero, suc, Bool, true, false, not, List, [], ◌∷◌, ◌++◌, length, replicate, Some, None, inl, inr, refl, sym, ap, ◌∙◌, subst}
use Rattle.std.specs.Prelude.{slice_get}
use Rattle.std.specs.List.{list_any}
use Rattle.std.proofs.lemmas.Bool.{false≢true, or_parts}
use Rattle.std.proofs.lemmas.Bool.Decides.{eqb_tells}
use Rattle.std.proofs.lemmas.List.{length-replicate}
use Rattle.osb_tree.specs.Trees.{Listing}
use Rattle.osb_tree.specs.declared.numbers.Key.{Key}
use Rattle.osb_tree.specs.declared.numbers.TaskNo.{TaskNo}
use Rattle.osb_recipe.specs.Works.{tree_of}
use Rattle.osb_recipe.specs.Tables.{TableData, IsTable, IsChain, last_of}
use Rattle.osb_recipe.specs.Meanings.{Found, tree_at, meanings, meant}
use Rattle.osb_recipe.specs.Plans.{needs_of, has_key, IsSound}
use Rattle.osb_recipe.specs.declared.references.TreeRef.{TreeRef}
use Rattle.osb_recipe.specs.declared.references.TreeRef.TheVariants.{Empty}
use Rattle.osb_recipe.specs.declared.outcomes.Outcome.{Outcome}
use Rattle.osb_recipe.specs.declared.outcomes.Outcome.TheVariants as outcomes
use Rattle.osb_recipe.specs.declared.plans.Task.{Task}
use Rattle.osb_recipe.specs.declared.plans.Plan.{Plan}
use Rattle.osb_recipe.proofs.Chains.{last_key_law}
use Rattle.osb_tasks.specs.Running.{with_tree, HasTrees}
use Rattle.osb_tasks.proofs.Turns.{trees_kept, length-with_tree}
use Rattle.osb_job.specs.Scripts.{word_of, is_tree, chain_at, deps_at}
use Rattle.osb_job.specs.Jobs.{trees_with, trees_of}
use Rattle.osb_job.specs.Moves.{IsToldOf}
use Rattle.osb_job.proofs.AlikeStages.{Alike, AlikeAt, CanRun, can_run}
use Rattle.osb_job.proofs.PlanTasks.{has_task, IsKnown, linked_at}

-- ---- outcomes

-- outcomes of the first ones of some tasks: each is the one that is meant, or no memory
abbrev pub AreTold : Plan → List TaskNo → List Outcome → Type 0
AreTold plan deps [] = Unit {0}
AreTold plan [] (outcome ∷ got) = ⊥
AreTold plan (dep ∷ deps) (outcome ∷ got) = IsToldOf (meant plan.table (chain_at plan dep)) outcome × AreTold plan deps got

pub told-more : (plan : Plan) (deps : List TaskNo) (got : List Outcome) (dep : TaskNo) (outcome : Outcome) → AreTold plan deps got → slice_get deps (length got) ≡ Some dep → IsToldOf (meant plan.table (chain_at plan dep)) outcome → AreTold plan deps (got ++ outcome ∷ [])
told-more plan [] [] dep outcome told next is = absurd (cc)
told-more plan [] (first ∷ got) dep outcome told next is = told
told-more plan (one ∷ deps) [] dep outcome told next is =
    let same : dep ≡ one = cc in
    (subst (λ (d : TaskNo). IsToldOf (meant plan.table (chain_at plan d)) outcome) same is, tt)
told-more plan (one ∷ deps) (first ∷ got) dep outcome told next is = (told.0, told-more plan deps got dep outcome told.1 next is)

-- a task means this tree, and it was fetched
pub record MeansTree (plan : Plan) (dep : TaskNo) (outcome : Outcome) : Type 0 where
  pub tree : Listing
  pub fetched : outcome ≡ outcomes.Tree tree
  pub means : outcome ≡ meant plan.table (chain_at plan dep)

-- all outcomes of some tasks are there, and are trees
abbrev pub HaveTrees : Plan → List TaskNo → List Outcome → Type 0
HaveTrees plan [] got = Unit {0}
HaveTrees plan (dep ∷ deps) [] = ⊥
HaveTrees plan (dep ∷ deps) (outcome ∷ got) = MeansTree plan dep outcome × HaveTrees plan deps got

tree_told : (plan : Plan) (dep : TaskNo) (outcome : Outcome) → IsToldOf (meant plan.table (chain_at plan dep)) outcome → not (is_tree (word_of outcome)) ≡ false → MeansTree plan dep outcome
tree_told plan dep (outcomes.Tree tree) (inl is) tells = record { tree = tree; fetched = refl; means = is }
tree_told plan dep (outcomes.Tree tree) (inr is) tells = absurd (cc)
tree_told plan dep (outcomes.Fault run fault) told tells = absurd (false≢true (sym tells))
tree_told plan dep outcomes.Blocked told tells = absurd (false≢true (sym tells))
tree_told plan dep outcomes.NoMemory told tells = absurd (false≢true (sym tells))

pub have_trees : (plan : Plan) (deps : List TaskNo) (got : List Outcome) → AreTold plan deps got → slice_get deps (length got) ≡ None → list_any (λ outcome. not (is_tree (word_of outcome))) got ≡ false → HaveTrees plan deps got
have_trees plan [] got told all trees = tt
have_trees plan (dep ∷ deps) [] told all trees = absurd (cc)
have_trees plan (dep ∷ deps) (outcome ∷ got) told all trees =
    let parts = or_parts (not (is_tree (word_of outcome))) (list_any (λ (one : Outcome). not (is_tree (word_of one))) got) trees in
    (tree_told plan dep outcome told.0 parts.0, have_trees plan deps got told.1 all parts.1)

-- ---- trees

abbrev one_task : List Key → Task
one_task chain = record { chain = chain; marked = []; deps = [] }

-- the tree that a chain ends with is found as it is meant
abbrev pub IsFoundAt : TableData → Found → List Key → Type 0
IsFoundAt table found chain = tree_at found (last_of chain) ≡ tree_at (meanings table) (last_of chain)

found_here : (table : TableData) (chain : List Key) (found : Found) (outcome : Outcome) → IsTable table → IsChain table chain → length found ≡ length table.recipes → outcome ≡ meant table chain → IsFoundAt table (with_tree (last_of chain) (tree_of outcome) found) chain
found_here table chain found outcome is linked long made =
    trees_kept table (one_task chain ∷ []) 0 (one_task chain) found outcome is linked long refl made (λ i other within there. absurd (omega arith)) 0 (one_task chain) (omega arith) refl

found_still : (table : TableData) (chain other : List Key) (found : Found) (outcome : Outcome) → IsTable table → IsChain table chain → length found ≡ length table.recipes → outcome ≡ meant table chain → IsFoundAt table found other → IsFoundAt table (with_tree (last_of chain) (tree_of outcome) found) other
found_still table chain other found outcome is linked long made before =
    trees_kept table (one_task other ∷ one_task chain ∷ []) 1 (one_task chain) found outcome is linked long refl made has 0 (one_task other) (omega arith) refl
  where
    has : HasTrees table (one_task other ∷ one_task chain ∷ []) 1 found
    has zero task within there =
        let same : one_task other ≡ task = cc in
        subst (λ (t : Task). IsFoundAt table found t.chain) same before
    has (suc i) task within there = absurd (omega arith)

-- what was found stays, and what is fetched is found
pub record AreFound (plan : Plan) (deps : List TaskNo) (before later : Found) : Type 0 where
  pub keeps : (task : TaskNo) → IsFoundAt plan.table before (chain_at plan task) → IsFoundAt plan.table later (chain_at plan task)
  pub found : (task : TaskNo) → has_task deps task ≡ true → IsFoundAt plan.table later (chain_at plan task)

same_chain : (plan : Plan) (later : Found) (a b : TaskNo) → a.0 ≡ b.0 → IsFoundAt plan.table later (chain_at plan a) → IsFoundAt plan.table later (chain_at plan b)
same_chain plan later a b same = subst (λ (n : ℕ). IsFoundAt plan.table later (chain_at plan (record { 0 = n }))) same

trees-found : (plan : Plan) (deps : List TaskNo) (got : List Outcome) (found : Found) → IsSound plan → IsTable plan.table → length found ≡ length plan.table.recipes → HaveTrees plan deps got → AreFound plan deps found (trees_with plan deps got found)
trees-found plan [] got found sound is long have = record { keeps = λ task before. before; found = λ task held. absurd (false≢true held) }
trees-found plan (dep ∷ deps) [] found sound is long have = absurd have
trees-found plan (dep ∷ deps) (outcome ∷ got) found sound is long have =
    let chain = chain_at plan dep in
    let linked = linked_at plan dep sound in
    let next = with_tree (last_of chain) (tree_of outcome) found in
    let means = have.0.means in
    let more = trees-found plan deps got next sound is (length-with_tree (last_of chain) (tree_of outcome) found ∙ long) have.1 in
    record {
      keeps = λ task before. more.keeps task (found_still plan.table chain (chain_at plan task) found outcome is linked long means before);
      found = λ task held. elim (eqb_tells dep.0 task.0) [
        | inl same ↦ same_chain plan (trees_with plan deps got next) dep task same.1 (more.keeps dep (found_here plan.table chain found outcome is linked long means))
        | inr apart ↦ more.found task (ap (λ (b : Bool). b || has_task deps task) (sym apart.0) ∙ held)
      ];
    }

-- a task that was fetched means a tree
tree-meant : (plan : Plan) (deps : List TaskNo) (got : List Outcome) → HaveTrees plan deps got → IsSound plan → IsTable plan.table → (task : TaskNo) → has_task deps task ≡ true → (tree : Listing) × (tree_at (meanings plan.table) (last_of (chain_at plan task)) ≡ Some tree)
tree-meant plan [] got have sound is task held = absurd (false≢true held)
tree-meant plan (dep ∷ deps) [] have sound is task held = absurd have
tree-meant plan (dep ∷ deps) (outcome ∷ got) have sound is task held = elim (eqb_tells dep.0 task.0) [
  | inl same ↦
      let tree : tree_at (meanings plan.table) (last_of (chain_at plan dep)) ≡ Some have.0.tree =
      sym (last_key_law plan.table (chain_at plan dep) is (linked_at plan dep sound)) ∙ ap tree_of (sym have.0.means ∙ have.0.fetched) in
      (have.0.tree, subst (λ (n : ℕ). tree_at (meanings plan.table) (last_of (chain_at plan (record { 0 = n }))) ≡ Some have.0.tree) same.1 tree)
  | inr apart ↦ tree-meant plan deps got have.1 sound is task (ap (λ (b : Bool). b || has_task deps task) (sym apart.0) ∙ held)
]

-- so all stages of the chain can run
pub stages-can_run : (plan : Plan) (task : TaskNo) (got : List Outcome) → IsSound plan → IsTable plan.table → IsKnown plan task → HaveTrees plan (deps_at plan task) got → CanRun plan.table (trees_of plan (deps_at plan task) got) (chain_at plan task)
stages-can_run plan task got sound is known have = can_run plan.table (trees_of plan (deps_at plan task) got) Empty (chain_at plan task) known.linked alike
  where
    alike : (key : Key) → has_key (needs_of plan.table (chain_at plan task)) key ≡ true → AlikeAt (trees_of plan (deps_at plan task) got) (meanings plan.table) key
    alike key needed =
        let end = known.met key needed in
        let all = trees-found plan (deps_at plan task) got (replicate (length plan.table.recipes) None) sound is (length-replicate (length plan.table.recipes) None) have in
        let tree = tree-meant plan (deps_at plan task) got have sound is end.dep end.waits in
        let Fits : TreeRef → Type 0 = λ ref. Alike (tree_at (trees_of plan (deps_at plan task) got) ref) (tree_at (meanings plan.table) ref) in
        subst Fits end.last (record { value = tree.0; first = all.found end.dep end.waits ∙ tree.1; second = tree.1 })
