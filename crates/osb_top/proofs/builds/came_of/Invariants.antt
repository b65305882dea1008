use Rattle.std.specs.List.{AllZip}
use Rattle.osb_top.specs.Builds.{IsCameAt}
use Rattle.osb_top.proofs.builds.came_of.Given as goal

abbrev pub invariant-loop-place : goal.invariant-loop-place
invariant-loop-place l = AllZip (IsCameAt l.settings.exports l.planned l.plan l.outcomes) l.yielded l.all.items
