use Rattle.osb_tree.proofs.Puts.{tree_size-put_at}
use Rattle.osb_tree.proofs.laws.put_changes_size.Goals as goal

pub returns : goal.returns
returns c = record { law = tree_size-put_at }
