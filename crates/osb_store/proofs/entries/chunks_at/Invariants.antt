use Rattle.std.proofs.Common.{◌≡◌}
use Rattle.osb_tree.specs.Chunks.{pairs_of}
use Rattle.osb_store.specs.Entries.{behind, pairs_at}
use Rattle.osb_store.proofs.PairLoops.{AreChunks}
use Rattle.osb_store.proofs.entries.chunks_at.Given as goal

abbrev pub invariant-loop-left : goal.invariant-loop-left
invariant-loop-left l = (behind (pairs_of l.chunks.items) (pairs_at l.left l.rest) ≡ pairs_at l.count l.bytes) × AreChunks l.chunks.items l.left

abbrev pub decreases-loop-left : goal.decreases-loop-left
decreases-loop-left l = l.left
