use Rattle.std.proofs.Common.{◌≡◌, ◌++◌, drop}
use Rattle.osb_plan.specs.Planning.{marked_from}
use Rattle.osb_plan.proofs.marks.add_marked.Given as goal

abbrev pub invariant-loop-place : goal.invariant-loop-place
invariant-loop-place l = l.marked.items ++ marked_from l.marks l.place (drop l.place l.keys) ≡ l.fn.marked.items ++ marked_from l.marks 0 l.keys
