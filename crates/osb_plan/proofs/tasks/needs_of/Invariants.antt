use Rattle.std.proofs.Common.{◌≡◌, ◌++◌, drop}
use Rattle.std.specs.Prelude.{slice_get}
use Rattle.std.specs.List.{flat_map}
use Rattle.osb_recipe.specs.Plans.{recipe_needs}
use Rattle.osb_plan.proofs.tasks.needs_of.Given as goal

abbrev pub invariant-loop-key : goal.invariant-loop-key
invariant-loop-key l = l.needs.items ++ flat_map (λ key. recipe_needs (slice_get l.recipes key.0)) (drop l.key-index l.chain) ≡ flat_map (λ key. recipe_needs (slice_get l.recipes key.0)) l.chain
