use Rattle.std.proofs.Common.{map}
use Rattle.osb_sources.specs.Rounds.{IsThinned}
use Rattle.osb_top.specs.Builds.{ArePrepared}
use Rattle.osb_top.proofs.prepares.prepare_all.Given as goal

-- the builds so far, and the fetchers that they left
abbrev pub invariant-loop-given : goal.invariant-loop-given
invariant-loop-given g l = record {
  prepared : ArePrepared l.settings (map (λ b. (goal.Fetcher-dyn g (b.vtable, b.value)).fetcher_state b.value) l.fn.fetchers.items) l.yielded l.builds.items (map (λ b. (goal.Fetcher-dyn g (b.vtable, b.value)).fetcher_state b.value) l.fetchers.items);
  left : IsThinned (map (λ b. (goal.Fetcher-dyn g (b.vtable, b.value)).fetcher_state b.value) l.fn.fetchers.items) (map (λ b. (goal.Fetcher-dyn g (b.vtable, b.value)).fetcher_state b.value) l.fetchers.items);
}
