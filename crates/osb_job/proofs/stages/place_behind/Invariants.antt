use Rattle.std.proofs.Common.{◌≡◌, ◌+◌, drop}
use Rattle.osb_job.specs.Jobs.{place_behind}
use Rattle.osb_job.proofs.stages.place_behind.Given as goal

abbrev pub invariant-loop-place : goal.invariant-loop-place
invariant-loop-place l = l.place + place_behind l.key (drop l.place l.chain) ≡ place_behind l.key l.chain
