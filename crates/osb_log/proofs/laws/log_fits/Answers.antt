use Rattle.std.proofs.Common.{◌≡◌, ◌<◌, ◌^◌, ℕ, ◌+◌, ◌≤◌, length, arith, take, take_all, subst, All}
use Rattle.std.proofs.lemmas.List.Elements.{All-more}
use Rattle.osb_log.specs.Fits.{EventFits, EntryFits, LogFits}
use Rattle.osb_job.specs.declared.entries.Entry.{Entry}
use Rattle.osb_log.proofs.laws.log_fits.Goals as goal

pub loop-entry-preserved : goal.loop-entry-preserved
loop-entry-preserved c =
    All-more EntryFits c.args.log.now c.loop-entry.entry-index _ (omega arith) c.loop-entry.invariant (subst (λ n. n < 2 ^ 64) c.from.ensures c.number_fits-in-loop-entry.ensures, c.event_fits.ensures)

pub returns : goal.returns
returns c = (
  (c.number_fits.ensures, c.number_fits-2.ensures, c.number_fits-3.ensures),
  subst (All EntryFits) (take_all c.loop-entry.entry-index c.args.log.now (omega arith)) c.loop-entry.invariant,
)
