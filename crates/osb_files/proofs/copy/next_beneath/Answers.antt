use Rattle.std.proofs.Common.{sym, ◌∙◌}
use Rattle.osb_files.proofs.Walks.{IsStep-next, left_beneath-end, left_beneath-over, node_at-next}
use Rattle.osb_files.proofs.copy.next_beneath.Goals as goal
use Rattle.osb_files.proofs.copy.next_beneath.Goals.{in_default-get-via-in-Some-get+else-is_beneath, in_default-get-via-in_default-get}

pub returns-in_default : goal.returns-in_default
returns-in_default c = left_beneath-over c.args.source.now c.args.at.now c.args.from.now (sym c.in_default.is ∙ c.in_ok-next.ensures.next)

pub returns-in-Some-get : goal.returns-in-Some-get
returns-in-Some-get c =
    IsStep-next c.args.source.now c.args.at.now c.in-Some.next c.args.from.now c.in-Some-get.node.now c.in-Some-get.ensures.tree c.requires (sym c.in-Some.is ∙ c.in_ok-next.ensures.next) c.in-Some-get.ensures.node (sym c.if-is_beneath.ensures.beneath)

pub returns : goal.returns
returns c = elim c.in_default-get.branch [
  | in_default-get-via-in-Some-get+else-is_beneath w ↦ left_beneath-end c.args.source.now c.args.at.now c.in-Some.next c.args.from.now w.in-Some-get.ensures.tree c.requires (sym c.in-Some.is ∙ c.in_ok-next.ensures.next) (sym w.if-is_beneath.ensures.beneath)
  | in_default-get-via-in_default-get w ↦ node_at-next c.args.source.now c.args.at.now c.in-Some.next c.args.from.now w.in_default-get.ensures.tree c.requires (sym c.in-Some.is ∙ c.in_ok-next.ensures.next) w.in_default-get.ensures.node
]
