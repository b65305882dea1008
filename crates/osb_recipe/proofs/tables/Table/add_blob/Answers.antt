use Rattle.osb_recipe.proofs.Growing.{table_with_blob}
use Rattle.osb_recipe.proofs.tables.Table.add_blob.Goals as goal

pub invariant_of-self-2 : goal.invariant_of-self-2
invariant_of-self-2 c = table_with_blob _ _ _ _ c.in_ok-push.ensures.items c.self.invariant
