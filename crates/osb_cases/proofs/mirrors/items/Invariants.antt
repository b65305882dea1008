use Rattle.osb_base.specs.Shelves.{AreFiles}
use Rattle.osb_cases.proofs.mirrors.items.Given as goal

abbrev pub invariant-loop-place : goal.invariant-loop-place
invariant-loop-place l = AreFiles l.items.items
