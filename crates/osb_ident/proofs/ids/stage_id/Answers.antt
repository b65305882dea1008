use Rattle.std.proofs.Common.{◌∙◌, ap}
use Rattle.osb_pyjson.specs.PyText.{py_quoted}
use Rattle.osb_ident.specs.Idents.{inputs_text, stage_text}
use Rattle.osb_ident.proofs.Pieces.{Takes-append, Takes-same}
use Rattle.osb_ident.proofs.ids.stage_id.Goals as goal

pub returns : goal.returns
unfolding stage_text
returns c =
    let type_text = Takes-same c.in_ok-take_quoted.ensures (ap py_quoted c.as_str.ensures.content) in
    let options_text = Takes-same c.take_text.ensures c.as_str-2.ensures.content in
    let inputs = Takes-same c.in_ok-take_inputs.ensures (ap (inputs_text c.args.ids.now) c.as_slice.ensures.items) in
    let whole = Takes-append type_text (Takes-append c.in_ok-take_id.ensures (Takes-append c.in_ok-take_id-2.ensures (Takes-append options_text inputs))) in
    c.of.ensures.bytes ∙ c.finalize.ensures _ (whole.holds _ c.new-hasher.ensures)
