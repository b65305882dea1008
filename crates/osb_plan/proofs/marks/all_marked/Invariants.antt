use Rattle.std.proofs.Common.{◌≡◌, ◌++◌, drop}
use Rattle.osb_plan.specs.Planning.{marked_by}
use Rattle.osb_plan.proofs.marks.all_marked.Given as goal

abbrev pub invariant-loop-number : goal.invariant-loop-number
invariant-loop-number l = l.marked.items ++ marked_by l.builds l.number (drop l.number l.chains) ≡ marked_by l.builds 0 l.chains
