use Rattle.osb_job.proofs.Misfits.{no_misfit}
use Rattle.osb_job.proofs.conditions.are_of_a_tree.Goals as goal

pub returns : goal.returns
returns c = no_misfit c.args.chunks.now c.check.result c.is_none.result c.is_none.ensures c.check.ensures.misfit
