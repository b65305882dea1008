use Rattle.std.proofs.Common.{◌≡◌, ◌++◌, drop}
use Rattle.std.specs.List.{flat_map}
use Rattle.osb_store.specs.Texts.{entry_text, list_text}
use Rattle.osb_store.proofs.writing.put_entries.Given as goal

abbrev pub invariant-loop-entry : goal.invariant-loop-entry
invariant-loop-entry l = l.out.items ++ flat_map entry_text (drop l.entry-index l.entries) ≡ l.fn.out.items ++ list_text entry_text l.entries
