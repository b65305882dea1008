use Rattle.std.proofs.Common.{length, sym, ap, ◌∙◌, arith}
use Rattle.osb_ident.proofs.MarkLists.{manifest_marks-more, manifest_marks-all}
use Rattle.osb_ident.proofs.Places.{slice_get_shown}
use Rattle.osb_ident.proofs.checkpoints.marks.Goals as goal

pub loop-place-preserved : goal.loop-place-preserved
loop-place-preserved c =
    let found = slice_get_shown c.as_slice-stages.result.now c.args.ids.now.stages c.loop-place.place c.index-stages-place.result
    c.as_slice-stages.ensures.items (omega arith) c.index-stages-place.is in
    let more = manifest_marks-more c.args.manifest.now c.args.ids.now.stages c.args.checkpoints.now c.loop-place.place _ c.index-stages-place.result
    c.name-name.ensures.name found in
    rw (c.in_ok-push.ensures.items, c.loop-place.invariant, c.in_ok-own_marks.ensures, c.as_slice.ensures.items) (sym more)

pub returns : goal.returns
returns c =
    let same = ap length c.as_slice-stages.ensures.items in
    record {
      marks = c.new.ensures.items ∙ c.loop-place.invariant
          ∙ manifest_marks-all c.args.manifest.now c.args.ids.now.stages c.args.checkpoints.now c.loop-place.place (omega (arith, same));
    }
