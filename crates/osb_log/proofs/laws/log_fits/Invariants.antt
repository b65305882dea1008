use Rattle.std.specs.Prelude.{take, All}
use Rattle.osb_log.specs.Fits.{EntryFits}
use Rattle.osb_log.proofs.laws.log_fits.Given as goal

abbrev pub invariant-loop-entry : goal.invariant-loop-entry
invariant-loop-entry l = All EntryFits (take l.entry-index l.log)
