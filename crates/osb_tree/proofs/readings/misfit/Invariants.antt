use Rattle.std.proofs.Common.{take, option_copied}
use Rattle.osb_tree.specs.Chunks.{BeginsATree, pairs_of}
use Rattle.osb_tree.specs.Readings.{IsRead}
use Rattle.osb_tree.proofs.readings.misfit.Given as goal

abbrev pub invariant-loop-chunk : goal.invariant-loop-chunk
invariant-loop-chunk l =
    IsRead (pairs_of (take l.chunk-index l.chunks)) (option_copied l.last) l.count l.size
    × BeginsATree (pairs_of (take l.chunk-index l.chunks))
