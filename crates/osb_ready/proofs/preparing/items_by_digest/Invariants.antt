use Rattle.std.proofs.Common.{◌≡◌, ◌++◌}
use Rattle.std.specs.List.{zip}
use Rattle.osb_ready.proofs.preparing.items_by_digest.Given as goal

abbrev pub invariant-loop-bytes : goal.invariant-loop-bytes
invariant-loop-bytes l = l.pairs.items ++ zip l.digests.rest.items l.bytes-iterator.rest.items ≡ zip l.fn.digests.items l.fn.items.items
