use Rattle.osb_tree.proofs.ChunkLaws.{chunks_add_up}
use Rattle.osb_tree.proofs.laws.chunks_add_up.Goals as goal

pub returns : goal.returns
returns c = record { law = chunks_add_up }
