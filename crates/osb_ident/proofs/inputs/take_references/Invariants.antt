use Rattle.std.proofs.Common.{◌≡◌, take}
use Rattle.osb_ident.specs.Hashed.{Takes}
use Rattle.osb_ident.specs.Idents.{members_text, file_entries}
use Rattle.osb_ident.proofs.Pieces.{is_nil}
use Rattle.osb_ident.proofs.inputs.take_references.Given as goal

abbrev pub invariant-loop-digest : goal.invariant-loop-digest
invariant-loop-digest l = record {
  taken : Takes l.initial.hasher l.hasher (members_text (take l.digest-index (file_entries l.files)));
  first : l.is_first ≡ is_nil (take l.digest-index (file_entries l.files));
}
