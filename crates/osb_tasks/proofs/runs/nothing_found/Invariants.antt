use Rattle.std.proofs.Common.{◌≡◌, None, replicate}
use Rattle.osb_tasks.proofs.runs.nothing_found.Given as goal

abbrev pub invariant-loop : goal.invariant-loop
invariant-loop l = l.found.items ≡ replicate l.counter None
