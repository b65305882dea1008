use Rattle.osb_tree.proofs.ChunkLaws.{chunks_stand_by_number}
use Rattle.osb_tree.proofs.laws.chunks_stand_by_number.Goals as goal

pub returns : goal.returns
returns c = record { law = chunks_stand_by_number }
