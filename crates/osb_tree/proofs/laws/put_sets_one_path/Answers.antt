use Rattle.osb_tree.proofs.Puts.{node_at-put_at}
use Rattle.osb_tree.proofs.laws.put_sets_one_path.Goals as goal

pub returns : goal.returns
returns c = record { law = node_at-put_at }
