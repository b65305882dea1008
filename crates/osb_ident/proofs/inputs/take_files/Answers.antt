use Rattle.osb_ident.specs.Idents.{input_parts}
use Rattle.osb_ident.proofs.Pieces.{Takes-append}
use Rattle.osb_ident.proofs.inputs.take_files.Goals as goal

pub returns : goal.returns
unfolding input_parts
returns c =
    Takes-append c.in_ok-take_quoted.ensures (Takes-append c.in_ok-take_quoted-2.ensures (Takes-append c.in_ok-take_references.ensures c.take_text.ensures))
