use Rattle.std.proofs.Common.{ap, ◌∙◌}
use Rattle.std.specs.List.{list_any}
use Rattle.osb_recipe.specs.Tables.{TableData}
use Rattle.osb_store.specs.Places.{same_text}
use Rattle.osb_store.specs.Texts.{recipe_text}
use Rattle.osb_store.proofs.held.Recipes.has.Goals as goal

pub returns : goal.returns
returns c = c.contains.ensures ∙ c.self.invariant c.args.text.now ∙ ap (λ (table : TableData). list_any (λ recipe. same_text c.args.text.now (recipe_text recipe)) table.recipes) c.self.view_is
