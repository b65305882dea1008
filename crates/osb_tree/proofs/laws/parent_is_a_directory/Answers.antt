use Rattle.osb_tree.proofs.Puts.{parent_is_a_directory}
use Rattle.osb_tree.proofs.laws.parent_is_a_directory.Goals as goal

pub returns : goal.returns
returns c = record { law = parent_is_a_directory }
