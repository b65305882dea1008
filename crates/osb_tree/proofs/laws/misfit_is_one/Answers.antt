use Rattle.osb_tree.proofs.ChunkLaws.{misfit_is_one}
use Rattle.osb_tree.proofs.laws.misfit_is_one.Goals as goal

pub returns : goal.returns
returns c = record { law = misfit_is_one }
