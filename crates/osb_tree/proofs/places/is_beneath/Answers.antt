use Rattle.std.proofs.Common.{le-ltb, sym, ◌∙◌}
use Rattle.osb_tree.proofs.PathOrder.{is_beneath-from_front, is_beneath-no_longer}
use Rattle.osb_tree.proofs.places.is_beneath.Goals as goal

pub returns-then-names : goal.returns-then-names
returns-then-names c =
    let longer = rw (c.names.ensures.names, c.names-2.ensures.names) at c.if-names.true in
    record { beneath = c.starts_with.ensures.value ∙ rw (c.names-then-names.ensures.names, c.names-then-names-2.ensures.names) (is_beneath-from_front c.args.path.now c.args.other.now longer) }

pub returns-else-names : goal.returns-else-names
returns-else-names c =
    let longer = rw (c.names.ensures.names, c.names-2.ensures.names) at c.if-names.false in
    record { beneath = le-ltb _ _ c.if-names.false ∙ sym (is_beneath-no_longer c.args.path.now c.args.other.now longer) }
