use Rattle.std.proofs.Common.{length, sym, subst}
use Rattle.osb_recipe.specs.Recipes.{IsBelow}
use Rattle.osb_recipe.specs.Tables.{TableData, IsReadRecipe}
use Rattle.osb_recipe.proofs.Growing.{table_with_recipe}
use Rattle.osb_recipe.proofs.tables.Table.add.Goals as goal

pub invariant_of-self-2 : goal.invariant_of-self-2
invariant_of-self-2 c =
    let Below : TableData → Type 0 = λ table. IsBelow (length table.recipes) (length table.blobs) c.args.recipe in
    table_with_recipe _ _ _ _ c.in_ok-push.ensures.items c.self.invariant (subst Below (sym c.self.view_is) c.requires.below) (subst IsReadRecipe c.recipe.view_is c.recipe.invariant)
