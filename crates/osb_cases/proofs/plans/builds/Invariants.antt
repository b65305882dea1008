use Rattle.std.specs.List.{All}
use Rattle.osb_plan.specs.Bridge.{IsReady}
use Rattle.osb_cases.proofs.plans.builds.Given as goal

abbrev pub invariant-loop-entry : goal.invariant-loop-entry
invariant-loop-entry l = All IsReady l.builds.items
