use Rattle.std.specs.List.{All}
use Rattle.osb_plan.specs.Bridge.{IsReady}
use Rattle.osb_crews.proofs.plans.builds.Given as goal

abbrev pub invariant-loop-bytes : goal.invariant-loop-bytes
invariant-loop-bytes l = All IsReady l.builds.items
