use Rattle.osb_tree.proofs.ChunkLaws.{chunks_give_the_tree}
use Rattle.osb_tree.proofs.laws.chunks_give_the_tree.Goals as goal

pub returns : goal.returns
returns c = record { law = chunks_give_the_tree }
