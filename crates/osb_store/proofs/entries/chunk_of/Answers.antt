use Rattle.std.proofs.Common.{sym, subst, true≢false}
use Rattle.osb_tree.specs.Chunks.{IsChunk}
use Rattle.osb_store.proofs.PairLoops.{refused_pairs}
use Rattle.osb_store.proofs.entries.chunk_of.Goals as goal

pub returns-then-not-can_have : goal.returns-then-not-can_have
returns-then-not-can_have c =
    refused_pairs c.args.count c.args.bytes.now c.in_ok-pairs.pairs.items c.in_ok-pairs.rest.now c.requires c.in_ok-pairs.ensures
    (λ chunk. true≢false (sym (c.if-not-can_have.ensures.chunk.1 (subst IsChunk (sym c.deref.ensures.value) chunk))))
