use Rattle.std.proofs.Common.{Option, sym, ap, ◌∙◌, arith}
use Rattle.std.specs.Prelude.{option_map}
use Rattle.osb_recipe.specs.Works.{Work, does}
use Rattle.osb_tasks.specs.Stages.{made_of, steps_of}
use Rattle.osb_tasks.proofs.ChainStages.{work_blocked}
use Rattle.osb_tasks.proofs.stages.stage_made.Goals as goal

pub returns-then-not-can_run-clause-made : goal.returns-then-not-can_run-clause-made
returns-then-not-can_run-clause-made g c =
    ap (λ (work : Option Work). made_of (option_map (λ w. does w c.args.base) work)) (sym (work_blocked c.args.found.now c.args.blobs.now c.args.recipe.now (sym c.if-not-can_run.ensures)))

pub returns-then-not-can_run-clause-steps : goal.returns-then-not-can_run-clause-steps
returns-then-not-can_run-clause-steps g c =
    let none = ap steps_of (work_blocked c.args.found.now c.args.blobs.now c.args.recipe.now (sym c.if-not-can_run.ensures)) in
    omega (arith, none)
