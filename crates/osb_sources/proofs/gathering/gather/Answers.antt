use Rattle.std.proofs.Common.{refl}
use Rattle.osb_sources.proofs.Gatherings.{gathering_first, gathering_next, gathering_ends, gathering_stops, gathering_all}
use Rattle.osb_sources.proofs.Thinned.{thinned_gathers}
use Rattle.osb_sources.proofs.Causes.{rose_gathers}
use Rattle.osb_sources.proofs.Kept.{kept_gathers}
use Rattle.osb_sources.proofs.gathering.gather.Goals as goal

pub loop-digest-init : goal.loop-digest-init
loop-digest-init g c = gathering_first c.args.items.now c.args.wanted.now _ c.new-all.result.items c.new-all.ensures.items

pub returns-in_err-gather_one : goal.returns-in_err-gather_one
returns-in_err-gather_one g c =
    let h = gathering_ends c.args.items.now c.args.wanted.now _ _ c.loop-digest.all.items c.loop-digest.digest-index c.digest-item.result _
    c.in_err-gather_one.field-0.0 c.from_residual.result c.from_residual.ensures.1 c.loop-digest-test.true c.digest-item.is
    c.loop-digest.invariant c.in_err-gather_one.ensures in
    record { gathers = h; left = thinned_gathers h; cause = rose_gathers h; bytes = kept_gathers h }

pub returns-in_err-push : goal.returns-in_err-push
returns-in_err-push g c =
    let t = gathering_next c.args.items.now c.args.wanted.now _ _ c.loop-digest.all.items c.loop-digest.digest-index c.digest-item.result _
    c.in_ok-gather_one.field-0 _ refl c.loop-digest-test.true c.digest-item.is c.loop-digest.invariant c.in_ok-gather_one.ensures in
    let h = gathering_stops c.args.items.now c.args.wanted.now _ _ _ _ c.from_residual-in_err-push.result c.from_residual-in_err-push.ensures.1 t in
    record { gathers = h; left = thinned_gathers h; cause = rose_gathers h; bytes = kept_gathers h }

pub loop-digest-preserved : goal.loop-digest-preserved
loop-digest-preserved g c =
    gathering_next c.args.items.now c.args.wanted.now _ _ c.loop-digest.all.items c.loop-digest.digest-index c.digest-item.result _
    c.in_ok-gather_one.field-0 c.push.new.self.items c.in_ok-push.ensures.items c.loop-digest-test.true c.digest-item.is c.loop-digest.invariant
    c.in_ok-gather_one.ensures

pub returns : goal.returns
returns g c =
    let h = gathering_all c.args.items.now c.args.wanted.now _ _ c.loop-digest.all.items c.loop-digest.digest-index c.new.result
    c.new.ensures.items c.loop-digest-test.false c.loop-digest.invariant in
    record { gathers = h; left = thinned_gathers h; cause = rose_gathers h; bytes = kept_gathers h }
