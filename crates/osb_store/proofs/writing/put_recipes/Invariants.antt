use Rattle.std.proofs.Common.{◌≡◌, ◌++◌, drop}
use Rattle.std.specs.List.{flat_map}
use Rattle.osb_store.specs.Texts.{recipe_text, list_text}
use Rattle.osb_store.proofs.writing.put_recipes.Given as goal

abbrev pub invariant-loop-recipe : goal.invariant-loop-recipe
invariant-loop-recipe l = l.out.items ++ flat_map recipe_text (drop l.recipe-index l.recipes) ≡ l.fn.out.items ++ list_text recipe_text l.recipes
