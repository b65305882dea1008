use Rattle.std.proofs.Common.{◌≡◌, drop}
use Rattle.osb_tasks.specs.Ready.{keys_can_run}
use Rattle.osb_tasks.proofs.ready.keys_can_run.Given as goal

abbrev pub invariant-loop-key : goal.invariant-loop-key
invariant-loop-key l = keys_can_run l.found l.recipes (drop l.key-index l.keys) ≡ keys_can_run l.found l.recipes l.keys
