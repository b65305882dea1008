use Rattle.osb_tree.proofs.Puts.{IsTree-put_at}
use Rattle.osb_tree.proofs.laws.put_gives_a_tree.Goals as goal

pub returns : goal.returns
returns c = record { law = IsTree-put_at }
