use Rattle.std.proofs.Common.{◌≡◌, Some, refl, sym, ap, ◌∙◌}
use Rattle.std.specs.List.{slice_get, last_or}
use Rattle.std.proofs.lemmas.Bool.{ltb-true}
use Rattle.std.proofs.lemmas.Option.{slice_get_read}
use Rattle.osb_ident.proofs.Lasts.{slice_get-last}
use Rattle.osb_ident.proofs.inputs.pipeline_id.Goals as goal

pub returns : goal.returns
returns c =
    let item = c.in_ok-get.ensures.lookup in
    let got : slice_get c.args.ids.now c.args.place ≡ Some c.in_ok-get.field-0.now =
    slice_get_read c.args.ids.now _ c.args.place c.in_ok-get.field-0.now refl (ltb-true _ _ (sym item.0)) item.1 in
    rw got (c.last.ensures.value ∙ slice_get-last c.as_slice.result.now ∙ ap (last_or _) c.as_slice.ensures.items)
