use Rattle.std.proofs.Common.{◌≡◌, ◌≤◌, ◌-◌, map, None, vec_len}
use Rattle.osb_sources.specs.Verdicts.{first_right}
use Rattle.osb_sources.specs.Replies.{heard}
use Rattle.osb_sources.proofs.Turns.{IsTurn}
use Rattle.osb_sources.proofs.asking.search_fetchers.Given as goal

abbrev pub invariant-loop-at : goal.invariant-loop-at
invariant-loop-at g l = record {
  within : l.at ≤ vec_len l.fetchers;
  turn : first_right (heard l.own) ≡ None → IsTurn l.digest (heard l.own) (map g.F.Fetcher.fetcher_state l.fn.fetchers.items) (map g.F.Fetcher.fetcher_state l.fetchers.items) l.at l.notes;
}

abbrev pub decreases-loop-at : goal.decreases-loop-at
decreases-loop-at g l = vec_len l.fetchers - l.at
