use Rattle.std.proofs.Common.{◌≡◌, ◌++◌, drop}
use Rattle.osb_plan.specs.Planning.{build_marked}
use Rattle.osb_plan.proofs.marks.add_build_marked.Given as goal

abbrev pub invariant-loop-place : goal.invariant-loop-place
invariant-loop-place l = l.marked.items ++ build_marked l.marks (drop l.place-index l.chains) ≡ l.fn.marked.items ++ build_marked l.marks l.chains
