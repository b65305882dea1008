use Rattle.std.proofs.Common.{◌≡◌, drop}
use Rattle.osb_tasks.specs.Ready.{has_inputs}
use Rattle.osb_tasks.proofs.ready.has_inputs.Given as goal

abbrev pub invariant-loop-input : goal.invariant-loop-input
invariant-loop-input l = has_inputs l.found (drop l.input-index l.inputs) ≡ has_inputs l.found l.inputs
