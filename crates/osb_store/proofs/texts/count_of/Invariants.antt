use Rattle.std.proofs.Common.{◌≡◌, ◌+◌, length, drop}
use Rattle.osb_tree.specs.Chunks.{pairs_of}
use Rattle.osb_store.proofs.texts.count_of.Given as goal

abbrev pub invariant-loop-chunk : goal.invariant-loop-chunk
invariant-loop-chunk l = l.count + length (pairs_of (drop l.chunk-index l.chunks)) ≡ length (pairs_of l.chunks)
