use Rattle.osb_tree.proofs.ChunkLaws.{chunks_are_the_listing}
use Rattle.osb_tree.proofs.laws.chunks_are_the_listing.Goals as goal

pub returns : goal.returns
returns c = record { law = chunks_are_the_listing }
