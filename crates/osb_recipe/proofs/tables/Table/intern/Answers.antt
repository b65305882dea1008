use Rattle.std.proofs.Common.{length, sym, subst, arith}
use Rattle.osb_recipe.specs.Recipes.{IsBelow}
use Rattle.osb_recipe.specs.Tables.{TableData, IsReadRecipe}
use Rattle.osb_recipe.proofs.Growing.{pushed_at, table_with_recipe}
use Rattle.osb_recipe.proofs.tables.Table.intern.Goals as goal

pub invariant_of-self : goal.invariant_of-self
invariant_of-self c =
    let Below : TableData → Type 0 = λ table. IsBelow (length table.recipes) (length table.blobs) c.args.recipe in
    table_with_recipe _ _ _ _ c.in_ok-push.ensures.items c.self.invariant (subst Below (sym c.self.view_is) c.requires.below) (subst IsReadRecipe c.recipe.view_is c.recipe.invariant)

pub returns-in_ok-push-clause-equal : goal.returns-in_ok-push-clause-equal
returns-in_ok-push-clause-equal c = pushed_at _ _ _ _ c.in_ok-push.ensures.items (omega arith)
