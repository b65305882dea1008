use Rattle.osb_ident.proofs.hashing.take_text.Goals as goal

pub returns : goal.returns
returns c = record { holds = c.update.ensures }
