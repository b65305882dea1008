use Rattle.std.proofs.Common.{◌≡◌, ◌++◌, drop}
use Rattle.std.specs.List.{flat_map}
use Rattle.osb_store.specs.Texts.{node_text}
use Rattle.osb_store.proofs.texts.put_chunk.Given as goal

abbrev pub invariant-loop-i : goal.invariant-loop-i
invariant-loop-i l = l.out.items ++ flat_map node_text (drop l.i l.chunk) ≡ l.fn.out.items ++ flat_map node_text l.chunk
