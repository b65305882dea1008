use Rattle.std.proofs.Common.{◌≡◌, take, sum_by}
use Rattle.osb_tree.specs.Trees.{tree_size}
use Rattle.osb_store.proofs.entries.size_of.Given as goal

abbrev pub invariant-loop-chunk : goal.invariant-loop-chunk
invariant-loop-chunk l = l.size ≡ sum_by tree_size (take l.chunk-index l.chunk-items)
