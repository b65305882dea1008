use Rattle.std.proofs.Common.{◌≡◌, take}
use Rattle.osb_job.proofs.conditions.is_next.Given as goal

abbrev pub invariant-loop-part : goal.invariant-loop-part
invariant-loop-part l = l.all.items ≡ take l.part-index l.parts
