use Rattle.std.proofs.Common.{◌≤◌, arith}
use Rattle.std.proofs.lemmas.Result.{err_from_is_err_and}
use Rattle.osb_store.specs.Entries.{pairs_at}
use Rattle.osb_store.proofs.PairLoops.{chunk_goes_on, chunk_breaks, chunks_more}
use Rattle.osb_store.proofs.entries.chunks_at.Goals as goal

pub returns-in_err-chunk : goal.returns-in_err-chunk
returns-in_err-chunk c =
    let p = err_from_is_err_and c.from_residual.result c.from_residual.ensures.1 in
    rw (p.1, p.2) (chunk_breaks c.loop-left.chunks.items c.loop-left.left c.min-next.result c.loop-left.rest.now (pairs_at c.args.count c.args.bytes.now) c.loop-left.invariant.0 (omega arith) c.in_err-chunk.field-0.0 c.in_err-chunk.ensures)

pub loop-left-preserved : goal.loop-left-preserved
loop-left-preserved c =
    let chunks = c.loop-left.chunks.items in
    let le : c.min-next.result ≤ c.loop-left.left = omega arith in
    rw c.in_ok-push.ensures.items (
      chunk_goes_on chunks c.loop-left.left c.min-next.result c.loop-left.rest.now (pairs_at c.args.count c.args.bytes.now) c.loop-left.invariant.0 le c.in_ok-chunk.chunk c.in_ok-chunk.behind.now c.in_ok-chunk.ensures,
      chunks_more chunks c.loop-left.left c.min-next.result c.loop-left.rest.now (pairs_at c.args.count c.args.bytes.now) c.loop-left.invariant.0 le c.in_ok-chunk.chunk c.in_ok-chunk.behind.now (omega arith) (omega arith) (λ more. omega arith) c.in_ok-chunk.ensures c.loop-left.invariant.1,
    )
