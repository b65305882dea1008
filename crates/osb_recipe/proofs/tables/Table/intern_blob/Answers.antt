use Rattle.std.proofs.Common.{arith}
use Rattle.osb_recipe.proofs.Growing.{pushed_at, table_with_blob}
use Rattle.osb_recipe.proofs.tables.Table.intern_blob.Goals as goal

pub invariant_of-self : goal.invariant_of-self
invariant_of-self c = table_with_blob _ _ _ _ c.in_ok-push.ensures.items c.self.invariant

pub returns-in_ok-push-clause-equal : goal.returns-in_ok-push-clause-equal
returns-in_ok-push-clause-equal c = pushed_at _ _ _ _ c.in_ok-push.ensures.items (omega arith)
