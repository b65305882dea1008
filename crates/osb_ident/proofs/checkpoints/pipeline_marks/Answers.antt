use Rattle.std.proofs.Common.{sym, ◌∙◌}
use Rattle.osb_ident.proofs.MarkLists.{marks_of-more, marks_of-all}
use Rattle.osb_ident.proofs.checkpoints.pipeline_marks.Goals as goal

pub loop-place-preserved : goal.loop-place-preserved
loop-place-preserved c =
    let more = marks_of-more c.args.checkpoints.now c.args.name.now c.args.ids.now c.loop-place.place c.index-ids-place.result c.loop-place-test.true c.index-ids-place.is in
    rw (c.in_ok-push.ensures.items, c.loop-place.invariant, c.is_marked.ensures) (sym more)

pub returns : goal.returns
returns c =
    c.new.ensures.items ∙ c.loop-place.invariant
    ∙ marks_of-all c.args.checkpoints.now c.args.name.now c.args.ids.now c.loop-place.place c.loop-place-test.false
