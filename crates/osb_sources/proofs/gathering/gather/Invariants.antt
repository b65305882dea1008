use Rattle.std.proofs.Common.{map, drop}
use Rattle.osb_sources.proofs.Gatherings.{IsGathering}
use Rattle.osb_sources.proofs.gathering.gather.Given as goal

abbrev pub invariant-loop-digest : goal.invariant-loop-digest
invariant-loop-digest g l = IsGathering l.items l.wanted (drop l.digest-index l.wanted) (map g.F.Fetcher.fetcher_state l.fn.fetchers.items) (map g.F.Fetcher.fetcher_state l.fetchers.items) l.all.items
