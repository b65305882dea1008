-- The keys and the dependencies of a plan's tasks.
use Rattle.std.proofs.Common.{◌≡◌, ℕ, zero, suc, ◌<◌, true, List, [], ◌∷◌, map, length, Option, Some, None, refl, ap, ◌∙◌, eq-eqb}
use Rattle.std.specs.Prelude.{Bool, ◌==◌, slice_get}
use Rattle.std.specs.List.{All, list_any, slice_index_or}
use Rattle.std.specs.Option.{option_map_or}
use Rattle.std.proofs.lemmas.List.Elements.{All-nil}
use Rattle.std.proofs.lemmas.Map.Keys.{any_passes_from_place}
use Rattle.osb_tree.specs.declared.numbers.Key.{Key}
use Rattle.osb_tree.specs.declared.numbers.TaskNo.{TaskNo}
use Rattle.osb_recipe.specs.Plans.{IsSound}
use Rattle.osb_recipe.specs.declared.plans.Task.{Task}
use Rattle.osb_recipe.specs.declared.plans.Plan.{Plan}
use Rattle.osb_tasks.proofs.Turns.{chain_below}
use Rattle.osb_job.specs.Scripts.{chain_at, deps_at}

-- the key is in the plan's table
abbrev pub IsKey : Plan → Key → Type 0
IsKey plan key = key.0 < length plan.table.recipes

pub chain_keys : (plan : Plan) (task : TaskNo) → IsSound plan → All (IsKey plan) (chain_at plan task)
chain_keys plan task sound = by (slice_get plan.tasks task.0) refl
  where
    by : (there : Option Task) → slice_get plan.tasks task.0 ≡ there → All (IsKey plan) (option_map_or (λ t. t.chain) there [])
    by None is = All-nil (IsKey plan)
    by (Some t) is = chain_below plan.table t.chain (sound.tasks task.0 t is).chain

has_dep : (deps : List TaskNo) (place : ℕ) (dep : TaskNo) → slice_get deps place ≡ Some dep → list_any (λ d. d.0 == dep.0) deps ≡ true
has_dep deps place dep at = any_passes_from_place (λ (d : TaskNo). d.0 == dep.0) deps place dep at (eq-eqb dep.0 dep.0 refl)

deps_by_number : (tasks : List Task) (number : ℕ) → slice_index_or (map (λ (t : Task). t.deps) tasks) number [] ≡ option_map_or (λ (t : Task). t.deps) (slice_get tasks number) []
deps_by_number [] number = refl
deps_by_number (task ∷ tasks) zero = refl
deps_by_number (task ∷ tasks) (suc number) = deps_by_number tasks number

-- a task waits for each of its dependencies
pub waits_for : (plan : Plan) (deps : List (List TaskNo)) (task dep : TaskNo) (place : ℕ) → deps ≡ map (λ t. t.deps) plan.tasks → slice_get (deps_at plan task) place ≡ Some dep
    → list_any (λ d. d.0 == dep.0) (slice_index_or deps task.0 []) ≡ true
waits_for plan deps task dep place same at =
    let among : List TaskNo → Bool = λ ds. list_any (λ d. d.0 == dep.0) ds in
    ap (λ (all : List (List TaskNo)). among (slice_index_or all task.0 [])) same ∙ ap among (deps_by_number plan.tasks task.0) ∙ has_dep (deps_at plan task) place dep at
