use Rattle.std.proofs.Common.{sym, ◌∙◌}
use Rattle.osb_plain.proofs.Scans.{node_at-found, node_at-passed}
use Rattle.osb_plain.proofs.trees.PlainTree.get.Goals as goal

pub returns-then-eq : goal.returns-then-eq
returns-then-eq c = record {
  node = node_at-found _ _ _ _ _ (c.deref-held-items.ensures.value ∙ c.self.view_is) c.loop-held.invariant c.loop-held-test.true c.loop-held-item.is (sym c.eq.ensures ∙ c.if-eq.true);
}

pub loop-held-preserved : goal.loop-held-preserved
loop-held-preserved c =
    node_at-passed _ _ _ _ c.loop-held.invariant c.loop-held-test.true c.loop-held-item.is (sym c.eq.ensures ∙ c.if-eq.false)
