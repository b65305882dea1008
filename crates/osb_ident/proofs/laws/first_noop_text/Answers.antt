use Rattle.std.proofs.Common.{refl}
use Rattle.std.specs.Str.{chars}
use Rattle.osb_ident.specs.Idents.{id_text, inputs_text, stage_text}
use Rattle.osb_ident.proofs.laws.first_noop_text.Goals as goal

pub returns : goal.returns
unfolding stage_text id_text inputs_text chars
returns c = record { law = λ ids kind. refl }
