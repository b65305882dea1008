use Rattle.std.proofs.Common.{sym}
use Rattle.std.specs.Bool.{◌==◌}
use Rattle.std.specs.Cmp.Lexicographic.{pointwise}
use Rattle.osb_base.proofs.NamedItems.{item_here, item_later}
use Rattle.osb_base.proofs.lookups.find_named.Goals as goal

pub returns-then-eq : goal.returns-then-eq
returns-then-eq g c = record {
  found = item_here (pointwise ◌==◌ c.args.name.now) c.args.items.now c.loop-held.held-index c.loop-held-item.result
      c.loop-held-test.true c.loop-held-item.is (rw (← c.as_str.ensures.content) (sym c.if-eq.ensures)) c.loop-held.invariant;
}

pub loop-held-preserved : goal.loop-held-preserved
loop-held-preserved g c =
    item_later (pointwise ◌==◌ c.args.name.now) c.args.items.now c.loop-held.held-index c.loop-held-item.result
    c.loop-held-test.true c.loop-held-item.is (rw (← c.as_str.ensures.content) (sym c.if-eq.ensures)) c.loop-held.invariant
