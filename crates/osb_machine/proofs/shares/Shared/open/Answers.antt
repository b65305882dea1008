use Rattle.std.proofs.Common.{◌≡◌, List, [], length, map, sym, ap, subst, ◌∙◌, arith}
use Rattle.std.specs.Vec.{vec_capacity}
use Rattle.osb_tree.specs.Trees.{Listing}
use Rattle.osb_tree.specs.declared.numbers.Key.{Key}
use Rattle.osb_recipe.specs.Recipes.{Origin}
use Rattle.osb_cache.specs.declared.answers.Stored.{Stored}
use Rattle.osb_board.specs.Boards.{AreLower}
use Rattle.osb_recipe.specs.declared.plans.Task.{Task as Planned}
use Rattle.osb_state.specs.States.{State}
use Rattle.osb_machine.specs.Owed.{IsShared}
use Rattle.osb_machine.proofs.OpenedStates.{plan_lower, shared_opened, opened_same}
use Rattle.osb_machine.proofs.shares.Shared.open.Goals as goal

pub new-requires : goal.new-requires
new-requires c =
    let deps = c.in_ok-deps.ensures ∙ ap (λ (tasks : List Planned). map (λ task. task.deps) tasks) c.as_slice-tasks.ensures.items in
    record { lower = subst AreLower (sym (c.deref-3.ensures.value ∙ deps)) (plan_lower c.args.plan.now c.requires.sound) }

pub invariant_of-result : goal.invariant_of-result
invariant_of-result c =
    let deps = c.deref-3.ensures.value ∙ c.in_ok-deps.ensures ∙ ap (λ (tasks : List Planned). map (λ task. task.deps) tasks) c.as_slice-tasks.ensures.items in
    let marked = c.new-marked.ensures.items ∙ c.in_ok-marked_of.ensures ∙ ap (λ (tasks : List Planned). map (λ task. task.marked) tasks) c.as_slice-tasks.ensures.items in
    let names = c.deref-2.ensures.value ∙ c.in_ok-keys.ensures ∙ ap (λ (entries : List (Stored Listing)). map (λ stored. stored.key) entries) c.deref.ensures.value in
    let count : c.len.result ≡ length c.deref-2.result.now = omega (arith, ap (λ (keys : List Key). length keys) c.deref-2.ensures.value) in
    let same = opened_same c.args.plan.now c.args.limit c.args.opening.items c.in_ok-cache.cache c.in_ok-new.field-0 c.deref-3.result.now c.new-marked.result (length c.recipes.result.now) c.count_kept-kept.result c.counted.result c.len.result c.deref-2.result.now c.new-2.result.items c.requires.can_open c.requires.trees c.in_ok-cache.ensures.opened c.in_ok-new.ensures.made deps marked (ap (λ (recipes : List Origin). length recipes) c.recipes.ensures.recipes) c.count_kept-kept.ensures.kept names c.counted.ensures.counted count c.new-2.ensures.items in
    rw c.new-3.ensures.items (subst (λ (state : State). IsShared state [] 0 (vec_capacity c.new-2.result)) (sym same) (shared_opened c.args.plan.now c.args.limit _ c.args.opening.items c.requires.sound c.requires.can_open c.requires.known c.requires.trees))

pub returns : goal.returns
returns c =
    let deps = c.deref-3.ensures.value ∙ c.in_ok-deps.ensures ∙ ap (λ (tasks : List Planned). map (λ task. task.deps) tasks) c.as_slice-tasks.ensures.items in
    let marked = c.new-marked.ensures.items ∙ c.in_ok-marked_of.ensures ∙ ap (λ (tasks : List Planned). map (λ task. task.marked) tasks) c.as_slice-tasks.ensures.items in
    let names = c.deref-2.ensures.value ∙ c.in_ok-keys.ensures ∙ ap (λ (entries : List (Stored Listing)). map (λ stored. stored.key) entries) c.deref.ensures.value in
    let count : c.len.result ≡ length c.deref-2.result.now = omega (arith, ap (λ (keys : List Key). length keys) c.deref-2.ensures.value) in
    let same = opened_same c.args.plan.now c.args.limit c.args.opening.items c.in_ok-cache.cache c.in_ok-new.field-0 c.deref-3.result.now c.new-marked.result (length c.recipes.result.now) c.count_kept-kept.result c.counted.result c.len.result c.deref-2.result.now c.new-2.result.items c.requires.can_open c.requires.trees c.in_ok-cache.ensures.opened c.in_ok-new.ensures.made deps marked (ap (λ (recipes : List Origin). length recipes) c.recipes.ensures.recipes) c.count_kept-kept.ensures.kept names c.counted.ensures.counted count c.new-2.ensures.items in
    record { opened = same }
