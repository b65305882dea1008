-- Where a chain means a tree, each of its keys has one.
use Rattle.std.proofs.Common.{◌≡◌, ℕ, ◌+◌, true, List, [], ◌∷◌, All, Option, Some, None, Result, Ok, Err, refl, sym, ap, subst, ◌∙◌}
use Rattle.std.specs.Prelude.{is_some}
use Rattle.std.specs.Result.{result_ok}
use Rattle.std.proofs.lemmas.Option.{none-some}
use Rattle.std.proofs.lemmas.List.Elements.{All-nil, All-cons}
use Rattle.osb_tree.specs.Trees.{Listing, empty_tree}
use Rattle.osb_tree.specs.declared.numbers.Key.{Key}
use Rattle.osb_tree.specs.declared.numbers.TaskNo.{TaskNo}
use Rattle.osb_tree.specs.declared.faults.StageFault.{StageFault}
use Rattle.osb_recipe.specs.Pairs.{both}
use Rattle.osb_recipe.specs.Works.{Work, does, run_all}
use Rattle.osb_recipe.specs.Tables.{TableData, IsTable}
use Rattle.osb_recipe.specs.Meanings.{meanings, meaning, work_at, works_at, meant}
use Rattle.osb_recipe.specs.Plans.{IsSound}
use Rattle.osb_recipe.specs.declared.references.TreeRef.{TreeRef}
use Rattle.osb_recipe.specs.declared.references.TreeRef.TheVariants.{Empty, Of}
use Rattle.osb_recipe.specs.declared.outcomes.Outcome.{Outcome}
use Rattle.osb_recipe.specs.declared.outcomes.Outcome.TheVariants as outcomes
use Rattle.osb_recipe.specs.declared.plans.Plan.{Plan}
use Rattle.osb_job.specs.Scripts.{chain_at}
use Rattle.osb_job.proofs.AlikeStages.{CanRun}
use Rattle.osb_job.proofs.ChainRests.{IsRest, rest_at_start, rest-means, rest-next, rest-fault}
use Rattle.osb_job.proofs.PlanTasks.{linked_at}

abbrev pub HasTree : TableData → Key → Type 0
HasTree table key = is_some (meaning table key) ≡ true

-- ---- a chain that means a tree has stages that can run

both_there : {X Y Z : Type 0} → (f : X → Y → Z) (a : Option X) (b : Option Y) (z : Z) → both f a b ≡ Some z → ((x : X) × (a ≡ Some x)) × ((y : Y) × (b ≡ Some y))
both_there f None b z is = absurd (none-some z is)
both_there f (Some x) None z is = absurd (none-some z is)
both_there f (Some x) (Some y) z is = ((x, refl), (y, refl))

can_by_works : (table : TableData) (chain : List Key) (works : List Work) → works_at table chain ≡ Some works → CanRun table (meanings table) chain
can_by_works table [] works at = tt
can_by_works table (key ∷ chain) works at =
    let parts = both_there (λ (work : Work) (others : List Work). work ∷ others) (work_at table key) (works_at table chain) works at in
    (record { value = parts.0.0; first = parts.0.1; second = parts.0.1 }, can_by_works table chain parts.1.0 parts.1.1)

can_by_meaning : (table : TableData) (chain : List Key) (tree : Listing) → meant table chain ≡ outcomes.Tree tree → CanRun table (meanings table) chain
can_by_meaning table chain tree means = by (works_at table chain) refl
  where
    by : (works : Option (List Work)) → works_at table chain ≡ works → CanRun table (meanings table) chain
    by None at = absurd (let no : outcomes.Blocked ≡ outcomes.Tree tree = ap run_all (sym at) ∙ means in cc)
    by (Some works) at = can_by_works table chain works at

-- ---- and each of them makes a tree

rest_has_trees : (table : TableData) (run : ℕ) (tree : Listing) (base : TreeRef) (rest : List Key) (end : Listing) → IsTable table → IsRest table (meanings table) (outcomes.Tree end) run tree base rest → All (HasTree table) rest
rest_has_trees table run tree base [] end is at = All-nil (HasTree table)
rest_has_trees table run tree base (key ∷ rest) end is at =
    by (does at.stages.0.value tree) refl (λ next made. rest_has_trees table (run + 1) next (Of key) rest end is (rest-next table (meanings table) (outcomes.Tree end) run tree base key rest at is next made))
  where
    by : (result : Result Listing StageFault) → does at.stages.0.value tree ≡ result → ((next : Listing) → does at.stages.0.value tree ≡ Ok next → All (HasTree table) rest) → All (HasTree table) (key ∷ rest)
    by (Ok next) made later =
        let means : meaning table key ≡ Some next = rest-means table (meanings table) (outcomes.Tree end) run tree base key rest at is ∙ ap result_ok made in
        All-cons (HasTree table) key rest (ap is_some means) (later next made)
    by (Err fault) made later =
        absurd (let no : outcomes.Tree end ≡ outcomes.Fault run fault = rest-fault table (meanings table) (outcomes.Tree end) run tree base key rest at fault made in cc)

pub chain_has_trees : (plan : Plan) (task : TaskNo) (tree : Listing) → IsSound plan → IsTable plan.table → meant plan.table (chain_at plan task) ≡ outcomes.Tree tree → All (HasTree plan.table) (chain_at plan task)
chain_has_trees plan task tree sound is means =
    let table : TableData = plan.table in
    let chain : List Key = chain_at plan task in
    let start : IsRest table (meanings table) (meant table chain) 0 empty_tree Empty chain = rest_at_start table (meanings table) chain (linked_at plan task sound) (can_by_meaning table chain tree means) in
    rest_has_trees table 0 empty_tree Empty chain tree is (subst (λ (outcome : Outcome). IsRest table (meanings table) outcome 0 empty_tree Empty chain) means start)
