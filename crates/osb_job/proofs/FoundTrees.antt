-- The trees that the outcomes of a task's dependencies give it.
use Rattle.std.proofs.Common.{◌≡◌, ℕ, min, List, [], ◌∷◌, length, drop, Option, Some, None, inl, inr, refl, sym, ap, ◌∙◌, subst, arith}
use Rattle.std.specs.Prelude.{slice_get}
use Rattle.std.specs.Option.{option_map_or}
use Rattle.std.proofs.lemmas.Bool.{cases_lt}
use Rattle.std.proofs.lemmas.List.{drop_all}
use Rattle.osb_tree.specs.declared.numbers.Key.{Key}
use Rattle.osb_tree.specs.declared.numbers.TaskNo.{TaskNo}
use Rattle.osb_recipe.specs.Recipes.{IsRefBelow}
use Rattle.osb_recipe.specs.Tables.{last_of}
use Rattle.osb_recipe.specs.Meanings.{Found}
use Rattle.osb_recipe.specs.Plans.{IsSound}
use Rattle.osb_recipe.specs.declared.outcomes.Outcome.{Outcome}
use Rattle.osb_recipe.specs.declared.plans.Plan.{Plan}
use Rattle.osb_recipe.specs.declared.plans.Task.{Task}
use Rattle.osb_recipe.specs.declared.references.TreeRef.{TreeRef}
use Rattle.osb_recipe.proofs.Chains.{last_of-below}
use Rattle.osb_job.specs.Scripts.{chain_at}
use Rattle.osb_job.specs.Jobs.{trees_with}

-- the chain of a task ends with a key of the plan, if at all
pub last_below : (plan : Plan) (task : TaskNo) → IsSound plan → IsRefBelow (length plan.table.recipes) (last_of (chain_at plan task))
last_below plan task sound = by (slice_get plan.tasks task.0) refl
  where
    by : (there : Option Task) → slice_get plan.tasks task.0 ≡ there → IsRefBelow (length plan.table.recipes) (last_of (option_map_or (λ t. t.chain) there []))
    by None is = tt
    by (Some one) is = last_of-below plan.table one.chain (sound.tasks task.0 one is).chain

pub last_found_below : (plan : Plan) (task : TaskNo) (found : Found) (shown : List Key) (last : TreeRef) → IsSound plan → length found ≡ length plan.table.recipes → shown ≡ chain_at plan task → last ≡ last_of shown → IsRefBelow (length found) last
last_found_below plan task found shown last sound keys same is =
    subst (λ (count : ℕ). IsRefBelow count last) (sym keys)
    (subst (λ (ref : TreeRef). IsRefBelow (length plan.table.recipes) ref) (sym (is ∙ ap last_of same)) (last_below plan task sound))

-- ---- where one list of dependencies and outcomes is at its end

no_outcome : (plan : Plan) (deps : List TaskNo) (found : Found) → trees_with plan deps [] found ≡ found
no_outcome plan [] found = refl
no_outcome plan (dep ∷ deps) found = refl

-- the trees so far are all
pub all_found : (plan : Plan) (deps : List TaskNo) (got : List Outcome) (found whole : Found) (count : ℕ) → count ≡ min (length deps) (length got)
    → trees_with plan (drop count deps) (drop count got) found ≡ whole → found ≡ whole
all_found plan deps got found whole count is so = elim (cases_lt (length deps) (length got)) [
  | inl fewer ↦ sym (ap (λ (left : List TaskNo). trees_with plan left (drop count got) found) (drop_all count deps (omega (arith, is)))) ∙ so
  | inr fewer ↦ sym (ap (λ (left : List Outcome). trees_with plan (drop count deps) left found) (drop_all count got (omega (arith, is))) ∙ no_outcome plan (drop count deps) found) ∙ so
]
