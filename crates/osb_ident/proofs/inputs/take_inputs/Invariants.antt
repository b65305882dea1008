use Rattle.std.proofs.Common.{◌≡◌, take}
use Rattle.osb_ident.specs.Hashed.{Takes}
use Rattle.osb_ident.specs.Idents.{members_text, input_entries}
use Rattle.osb_ident.proofs.Pieces.{is_nil}
use Rattle.osb_ident.proofs.inputs.take_inputs.Given as goal

abbrev pub invariant-loop-name : goal.invariant-loop-name
invariant-loop-name l = record {
  taken : Takes l.initial.hasher l.hasher (members_text (take l.name-index (input_entries l.ids l.inputs)));
  first : l.is_first ≡ is_nil (take l.name-index (input_entries l.ids l.inputs));
}
