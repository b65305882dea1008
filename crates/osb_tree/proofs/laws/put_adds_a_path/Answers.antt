use Rattle.osb_tree.proofs.Puts.{length-put_at}
use Rattle.osb_tree.proofs.laws.put_adds_a_path.Goals as goal

pub returns : goal.returns
returns c = record { law = length-put_at }
