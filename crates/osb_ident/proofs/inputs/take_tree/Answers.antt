use Rattle.std.proofs.Common.{◌∙◌}
use Rattle.osb_ident.specs.Idents.{input_parts}
use Rattle.osb_ident.proofs.Pieces.{Takes-append, Takes-one_member}
use Rattle.osb_ident.proofs.inputs.take_tree.Goals as goal

pub returns : goal.returns
unfolding input_parts
returns c =
    Takes-append c.in_ok-take_quoted.ensures (Takes-append c.in_ok-take_quoted-2.ensures (Takes-append
    (Takes-one_member c.as_str.result.now c.args.options.now _ (c.as_str.ensures.content ∙ c.in_ok-key.ensures)
    c.take_text.ensures c.in_ok-take_member.ensures c.take_text-2.ensures)
    c.take_text-3.ensures))
