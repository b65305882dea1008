use Rattle.std.proofs.Common.{◌≡◌, ◌++◌, drop}
use Rattle.std.specs.List.{flat_map}
use Rattle.osb_tree.specs.Chunks.{pairs_of}
use Rattle.osb_store.specs.Texts.{node_text, nodes_text}
use Rattle.osb_store.proofs.texts.put_nodes.Given as goal

abbrev pub invariant-loop-chunk : goal.invariant-loop-chunk
invariant-loop-chunk l = l.out.items ++ flat_map node_text (pairs_of (drop l.chunk-index l.chunks)) ≡ l.fn.out.items ++ nodes_text (pairs_of l.chunks)
