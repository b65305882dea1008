use Rattle.osb_meanings.proofs.Meanings.{meanings_law}
use Rattle.osb_meanings.proofs.laws.meanings_are_trees.Goals as goal

pub returns : goal.returns
returns c = record { law = meanings_law }
