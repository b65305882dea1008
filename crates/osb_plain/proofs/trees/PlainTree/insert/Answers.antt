use Rattle.std.proofs.Common.{length, sym, ap, ◌∙◌, arith}
use Rattle.osb_plain.proofs.Scans.{place-le-length, put_at-set_copy, put_at-insert_copy, put_at-insert_end}
use Rattle.osb_plain.proofs.trees.PlainTree.insert.Goals as goal
use Rattle.osb_plain.proofs.trees.PlainTree.insert.Goals.{else-place-len-via-then-place-len+else-eq, else-place-len-via-else-place-len}

pub insert-requires : goal.insert-requires
insert-requires c =
    omega (arith, c.place-place.ensures, ap length c.self.view_is, place-le-length c.args.self.now c.args.path)

pub returns-then-eq : goal.returns-then-eq
returns-then-eq c =
    put_at-set_copy c.self.inside.entries.items _ _ _ _ c.index.result.now c.self.view_is c.place-place.ensures (omega (arith, c.if-place-len.true, c.len.ensures)) c.index.ensures (sym c.eq.ensures ∙ c.if-eq.true)

pub returns-in_ok-insert : goal.returns-in_ok-insert
returns-in_ok-insert c =
    c.in_ok-insert.ensures.items
    ∙ elim c.else-place-len.branch [
      | else-place-len-via-then-place-len+else-eq w ↦ put_at-insert_copy c.self.inside.entries.items _ _ _ _ w.index.result.now c.self.view_is c.place-place.ensures w.index.ensures (sym w.eq.ensures ∙ w.if-eq.false)
      | else-place-len-via-else-place-len w ↦ put_at-insert_end c.self.inside.entries.items _ _ _ _ c.self.view_is c.place-place.ensures (omega (arith, w.if-place-len.false, c.len.ensures))
    ]
