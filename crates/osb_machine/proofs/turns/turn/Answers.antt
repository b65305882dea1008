use Rattle.std.proofs.Common.{sym, subst, ◌∙◌}
use Rattle.osb_tree.specs.declared.numbers.WorkerNo.{WorkerNo}
use Rattle.osb_job.specs.declared.places.Place.{Place}
use Rattle.osb_job.specs.Jobs.{asked, Fits}
use Rattle.osb_job.proofs.Wanting.{wants_what_is_allowed}
use Rattle.osb_state.specs.States.{part, Allows, gives}
use Rattle.osb_state.proofs.FittingReplies.{replies_fit}
use Rattle.osb_machine.proofs.StagesCounted.{counted_turn, stopped_waiting}
use Rattle.osb_machine.proofs.TurnsMade.{turned_idle, turned_acted}
use Rattle.osb_machine.proofs.turns.turn.Goals as goal

pub act-requires-clause-allowed : goal.act-requires-clause-allowed
act-requires-clause-allowed g c =
    subst (λ (w : WorkerNo). Allows c.args.shared.now w c.in-Some.action) (sym c.want.ensures.worker)
    (wants_what_is_allowed c.args.plan.now c.args.job.now.worker c.args.job.now.place (part c.args.shared.now c.args.job.now.worker) c.in-Some.action c.requires.sound c.recipes-recipes.ensures.table c.requires.job.lives (sym c.in-Some.ensures.action))

pub act-requires-clause-fits : goal.act-requires-clause-fits
act-requires-clause-fits g c =
    subst (λ (p : Place). Fits c.args.plan.now p (gives c.args.shared.now c.want.new.self.worker c.in-Some.action)) (sym c.want.ensures.place)
    (subst (λ (w : WorkerNo). Fits c.args.plan.now (asked c.args.job.now.place) (gives c.args.shared.now w c.in-Some.action)) (sym c.want.ensures.worker)
    (replies_fit c.args.plan.now c.args.shared.now c.args.job.now.worker c.args.job.now.place c.in-Some.action c.requires.sound c.recipes-recipes.ensures.table c.ready-ready.ensures.valid c.requires.of_plan c.requires.job.lives (sym c.in-Some.ensures.action)))

pub returns-then-ready-clause-turned : goal.returns-then-ready-clause-turned
returns-then-ready-clause-turned g c =
    turned_acted c.args.plan.now c.args.job.now.worker c.want.new.self.worker c.args.flag c.args.shared.now c.act.new.shared c.args.job.now.place c.act.new.job.place c.in-Some.action
    c.want.ensures.worker (sym c.in-Some.ensures.action) (sym c.ready-ready.ensures.ready ∙ c.if-ready.true) (c.act.ensures.acted c.args.job.now.place (sym c.want.ensures.place))

pub returns-else-ready-clause-turned : goal.returns-else-ready-clause-turned
returns-else-ready-clause-turned g c =
    turned_idle c.args.plan.now c.args.job.now.worker c.args.flag c.args.shared.now c.args.job.now.place c.want.new.self.place c.in-Some.action
    (sym c.in-Some.ensures.action) (sym c.ready-ready.ensures.ready ∙ c.if-ready.false) c.want.ensures.place

pub returns-then-ready-clause-stages : goal.returns-then-ready-clause-stages
returns-then-ready-clause-stages g c =
    counted_turn c.args.plan.now c.args.job.now.worker c.want.new.self.worker c.args.shared.now c.act.new.shared c.args.job.now.place c.want.new.self.place c.in-Some.action _ _
    c.want.ensures.worker c.want.ensures.place (sym c.in-Some.ensures.action) c.act.ensures.none c.act.ensures.most

pub returns-else-ready-clause-stopped : goal.returns-else-ready-clause-stopped
returns-else-ready-clause-stopped g c = λ none.
    stopped_waiting c.args.shared.now c.args.job.now.place c.want.new.self.place c.in-Some.action (sym c.in-Some.ensures.action) (sym c.ready-ready.ensures.ready ∙ c.if-ready.false) c.want.ensures.place
