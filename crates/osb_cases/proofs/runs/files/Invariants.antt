use Rattle.osb_base.specs.Shelves.{AreFiles}
use Rattle.osb_cases.proofs.runs.files.Given as goal

abbrev pub invariant-loop-entry : goal.invariant-loop-entry
invariant-loop-entry l = AreFiles l.files.items
