use Rattle.osb_store.proofs.EntryTests.{checked_is}
use Rattle.osb_store.proofs.entries.is_of_a_tree.Goals as goal

pub returns : goal.returns
returns c = checked_is c.as_slice.result.now c.args.entry.now.chunks c.check.result c.is_none.result c.as_slice.ensures.items c.check.ensures.misfit c.is_none.ensures
