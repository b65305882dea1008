use Rattle.osb_ident.specs.Idents.{member_text}
use Rattle.osb_ident.proofs.Pieces.{Takes-append}
use Rattle.osb_ident.proofs.hashing.take_member.Goals as goal

pub returns : goal.returns
unfolding member_text
returns c =
    Takes-append c.take_separator.ensures (Takes-append c.in_ok-take_quoted.ensures (Takes-append c.take_text.ensures c.take_text-2.ensures))
