use Rattle.std.proofs.Common.{◌≡◌, drop, true}
use Rattle.osb_tasks.specs.Ready.{keys_can_run}
use Rattle.osb_tasks.specs.Running.{works_found, run_rest, outcome_found}
use Rattle.osb_tasks.proofs.runs.task_outcome.Given as goal

-- what the stages that are left make of the tree so far is what they all make
abbrev pub invariant-loop-place : goal.invariant-loop-place
invariant-loop-place g l = record {
  ready : keys_can_run l.found l.table.recipes (drop l.place l.chain) ≡ true;
  made : run_rest l.place (works_found l.found l.table.blobs l.table.recipes (drop l.place l.chain)) l.tree ≡ outcome_found l.found l.table.blobs l.table.recipes l.chain;
}
