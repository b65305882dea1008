use Rattle.std.proofs.Common.{◌≡◌, [], ◌∷◌}
use Rattle.osb_state.specs.Turns.{HasJobs}
use Rattle.osb_machine.proofs.SerialTurns.{HasGone}
use Rattle.osb_machine.proofs.serials.go.Given as goal

abbrev pub invariant-loop : goal.invariant-loop
invariant-loop g l = record {
  first : l.job.worker.0 ≡ 0;
  jobs : HasJobs l.plan l.shared (l.job.place ∷ []);
  limit : l.shared.cache.limit ≡ l.fn.shared.cache.limit;
  gone : HasGone l.plan l.fn.shared l.shared l.job.place l.fn.steps l.steps;
}
