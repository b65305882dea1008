use Rattle.std.proofs.Common.{sym, ◌∙◌}
use Rattle.osb_tree.specs.Trees.{empty_tree}
use Rattle.osb_job.specs.Scripts.{chain_at}
use Rattle.osb_job.specs.Jobs.{run_from}
use Rattle.osb_job.proofs.StageRuns.{cut_at_once, run_refused}
use Rattle.osb_job.proofs.takes.run_all.Goals as goal

pub returns-in-Err-clause-taken : goal.returns-in-Err-clause-taken
returns-in-Err-clause-taken g c =
    cut_at_once (run_from c.args.plan.now c.args.setup 0 empty_tree) c.args.steps.now c.no_memory.result
    (c.no_memory.ensures ∙ sym (run_refused c.args.plan.now c.args.setup 0 empty_tree (chain_at c.args.plan.now c.args.setup.task)))
