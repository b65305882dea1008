use Rattle.osb_recipe.proofs.Exact.{told_recipe}
use Rattle.osb_recipe.proofs.recipes.Recipe.is_same.Goals as goal

pub returns-clause-exact : goal.returns-clause-exact
returns-clause-exact c = told_recipe _ _ _ _ _ c.self.view_is c.other.view_is c.self.invariant c.other.invariant c.same_recipe.ensures
