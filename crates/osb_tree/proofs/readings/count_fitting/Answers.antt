use Rattle.std.proofs.Common.{sym, ◌∙◌, option_copied, true≢false}
use Rattle.osb_tree.proofs.PairReadings.{reads_on, stops}
use Rattle.osb_tree.proofs.readings.count_fitting.Goals as goal

pub returns-then-not-fits-clause-first : goal.returns-then-not-fits-clause-first
returns-then-not-fits-clause-first c = λ read r b within.
    stops c.args.pairs.now c.loop-i.i c.index-pairs-i.result (option_copied c.args.last) (option_copied c.loop-i.before) c.args.count c.args.size c.loop-i.total c.loop-i-test.true c.index-pairs-i.is c.loop-i.invariant.1
    (λ f. true≢false (sym (c.fits.ensures.fits.1 f) ∙ c.if-not-fits.true)) read r b

pub loop-i-preserved : goal.loop-i-preserved
loop-i-preserved c =
    reads_on c.args.pairs.now c.loop-i.i c.index-pairs-i.result (option_copied c.args.last) (option_copied c.loop-i.before) c.args.count c.args.size c.loop-i.total c.loop-i-test.true c.index-pairs-i.is c.loop-i.invariant.1
    c.weight-total.result c.fits.ensures.path (c.fits.ensures.fits.0 c.if-not-fits.false) c.weight-total.ensures.weight
