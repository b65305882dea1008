use Rattle.std.proofs.Common.{◌≡◌, drop, length}
use Rattle.osb_plan.specs.Planning.{same_chain}
use Rattle.osb_plan.proofs.tasks.same_chain.Given as goal

abbrev pub invariant-loop-mine : goal.invariant-loop-mine
invariant-loop-mine l = same_chain (drop (length l.yielded) l.a) (drop (length l.yielded) l.b) ≡ same_chain l.a l.b
