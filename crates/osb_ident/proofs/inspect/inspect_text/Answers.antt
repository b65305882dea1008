use Rattle.std.proofs.Common.{length, ap, ◌∙◌, arith}
use Rattle.osb_ident.proofs.Lines.{lines_below-more, lines_below-all}
use Rattle.osb_ident.proofs.Places.{slice_get_shown}
use Rattle.osb_ident.proofs.inspect.inspect_text.Goals as goal

pub loop-place-preserved : goal.loop-place-preserved
loop-place-preserved c =
    let found = slice_get_shown c.as_slice-stages.result.now c.args.ids.now.stages c.loop-place.place c.index-stages-place.result
    c.as_slice-stages.ensures.items (omega arith) c.index-stages-place.is in
    let more = lines_below-more c.args.manifest.now c.args.ids.now.stages c.loop-place.place _ c.index-stages-place.result
    c.name-name.ensures.name found in
    rw (c.in_ok-write_pipeline.ensures, c.loop-place.invariant, c.as_slice.ensures.items) more

pub returns : goal.returns
returns c =
    let same = ap length c.as_slice-stages.ensures.items in
    let all = lines_below-all c.args.manifest.now c.args.ids.now.stages c.loop-place.place (omega (arith, same)) in
    record { text = rw (c.new.ensures.content, c.into_bytes.ensures.value) (c.loop-place.invariant ∙ all) }
