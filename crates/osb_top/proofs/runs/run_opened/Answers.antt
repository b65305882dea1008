use Rattle.std.proofs.Common.{inl}
use Rattle.osb_sources.proofs.Thinned.{thinned_same}
use Rattle.osb_top.proofs.Running.{reads_whole}
use Rattle.osb_top.proofs.runs.run_opened.Goals as goal

pub returns-in_default-clause-left : goal.returns-in_default-clause-left
returns-in_default-clause-left g c = thinned_same _

pub returns-clause-run : goal.returns-clause-run
returns-clause-run g c =
    inl (reads_whole c.args.settings.now 1 _ _ _ c.args.store c.in-Ok.reads.items
    (rw (c.as_slice.ensures.items, c.get.ensures.settings) at c.in-Ok.ensures.given) c.in-Ok.ensures.faults c.run_serial_over.ensures.run)
