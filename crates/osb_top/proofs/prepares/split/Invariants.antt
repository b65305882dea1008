use Rattle.std.proofs.Common.{◌≡◌}
use Rattle.std.specs.List.{All, filter_map}
use Rattle.std.specs.Result.{result_ok}
use Rattle.osb_plan.specs.Bridge.{IsReady}
use Rattle.osb_top.specs.Builds.{places_from}
use Rattle.osb_top.proofs.prepares.split.Given as goal

-- the builds so far
abbrev pub invariant-loop-ready : goal.invariant-loop-ready
invariant-loop-ready l = record {
  planned : l.planned.items ≡ filter_map result_ok l.yielded;
  places : l.places.items ≡ places_from 0 l.yielded;
  ready : All IsReady l.planned.items;
}
