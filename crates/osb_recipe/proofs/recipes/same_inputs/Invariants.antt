use Rattle.std.proofs.Common.{◌≡◌, drop, length}
use Rattle.std.specs.Cmp.Lexicographic.{pointwise}
use Rattle.osb_recipe.specs.Recipes.{same_named}
use Rattle.osb_recipe.proofs.recipes.same_inputs.Given as goal

abbrev pub invariant-loop-mine : goal.invariant-loop-mine
invariant-loop-mine l = pointwise same_named (drop (length l.yielded) l.a) (drop (length l.yielded) l.b) ≡ pointwise same_named l.a l.b
