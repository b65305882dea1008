use Rattle.std.proofs.Common.{◌≡◌, ◌+◌, ◌-◌, [], length}
use Rattle.osb_store.specs.Entries.{entry_at, is_entry}
use Rattle.osb_store.specs.Lists.{items_at}
use Rattle.osb_store.proofs.lists.read_entries.Given as goal

abbrev pub invariant-loop-i : goal.invariant-loop-i
invariant-loop-i l = (length l.entries ≡ l.i) × (items_at entry_at (is_entry l.keys) (l.count - l.i) (l.place + l.i) l.entries l.rest ≡ items_at entry_at (is_entry l.keys) l.count l.place [] l.bytes)
