use Rattle.std.proofs.lemmas.Result.{err_from_is_err_and}
use Rattle.osb_store.specs.Entries.{pairs_at}
use Rattle.osb_store.proofs.PairLoops.{pair_goes_on, pair_breaks}
use Rattle.osb_store.proofs.entries.pairs_of.Goals as goal

pub returns-in_err-pair : goal.returns-in_err-pair
returns-in_err-pair c =
    let p = err_from_is_err_and c.from_residual.result c.from_residual.ensures.1 in
    rw (p.1, p.2) (pair_breaks c.loop.pairs.items c.args.count c.loop.counter c.loop.rest.now (pairs_at c.args.count c.args.bytes.now) c.loop.invariant c.in_err-pair.field-0.0 c.loop-test.true c.in_err-pair.ensures)

pub loop-preserved : goal.loop-preserved
loop-preserved c =
    rw c.in_ok-push.ensures.items (pair_goes_on c.loop.pairs.items c.args.count c.loop.counter c.loop.rest.now (pairs_at c.args.count c.args.bytes.now) c.loop.invariant c.in_ok-pair.pair c.in_ok-pair.behind.now c.loop-test.true c.in_ok-pair.ensures)
