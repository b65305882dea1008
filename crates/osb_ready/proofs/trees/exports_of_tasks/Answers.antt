use Rattle.osb_ready.specs.Pairing.{built_from}
use Rattle.osb_ready.proofs.OfBuild.{is_of_build}
use Rattle.osb_ready.proofs.Came.{came_due}
use Rattle.osb_ready.proofs.trees.exports_of_tasks.Goals as goal

pub returns : goal.returns
returns c = record {
  of_build = is_of_build c.args.names.now c.args.build.now.manifest (built_from c.args.outcomes.now c.args.build.now.needed 0 c.args.numbers.now) c.came_of_tasks.result c.came_of_tasks.ensures.came;
  due = λ plan ready ends known. came_due c.args.names.now plan c.args.build.now c.args.numbers.now c.args.outcomes.now c.came_of_tasks.result ready ends c.came_of_tasks.ensures.came known;
}
