use Rattle.std.proofs.Common.{[], refl, arith}
use Rattle.osb_store.specs.Entries.{entry_at, is_entry}
use Rattle.osb_store.specs.Lists.{items_at}
use Rattle.osb_store.proofs.Turns.{turned}
use Rattle.osb_store.proofs.lists.read_entries.Goals as goal

pub loop-i-preserved : goal.loop-i-preserved
loop-i-preserved c =
    turned entry_at (is_entry c.args.keys) c.args.count c.loop-i.i c.args.place c.loop-i.entries _ c.in_ok-entries-in-Ok.entries c.loop-i.rest.now (items_at entry_at (is_entry c.args.keys) c.args.count c.args.place [] c.args.bytes.now) (c.in-Ok.entry, c.in-Ok.behind.now) refl c.in_ok-entries-in-Ok.ensures c.loop-i.invariant.0 (omega arith) c.loop-i.invariant.1 c.in-Ok.ensures.entry
