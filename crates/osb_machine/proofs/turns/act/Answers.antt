use Rattle.std.proofs.Common.{◌≡◌, Bool, false, sym, ap, ◌∙◌}
use Rattle.std.proofs.lemmas.Bool.{false≢true}
use Rattle.osb_job.specs.declared.actions.Flag.{Flag}
use Rattle.osb_job.specs.declared.actions.Flag.TheVariants.{ActRefused, WorkRefused}
use Rattle.osb_job.specs.contracts.actions.Flag.{the_type}
use denote.Enum.Bare.{sameb}
use Rattle.osb_machine.proofs.StagesCounted.{counted_none, counted_most}
use Rattle.osb_machine.proofs.TurnsMade.{acted_taken, acted_refused}
use Rattle.osb_machine.proofs.turns.act.Goals as goal
use Rattle.osb_machine.proofs.turns.act.Goals.{else-eq-via-then-eq+else-is_refusable, else-eq-via-else-eq}

not_act : (flag : Flag) (same : Bool) → same ≡ sameb the_type flag ActRefused → same ≡ false → flag ≡ ActRefused → ⊥
not_act flag same is other e = false≢true (sym other ∙ is ∙ ap (λ (f : Flag). sameb the_type f ActRefused) e)

not_work : (flag : Flag) (same : Bool) → same ≡ sameb the_type flag WorkRefused → same ≡ false → flag ≡ WorkRefused → ⊥
not_work flag same is other e = false≢true (sym other ∙ is ∙ ap (λ (f : Flag). sameb the_type f WorkRefused) e)

pub returns-then-eq-2-clause-acted : goal.returns-then-eq-2-clause-acted
returns-then-eq-2-clause-acted g c = λ place asks.
    acted_refused c.args.plan.now c.args.flag c.args.shared.now c.play.new.self c.args.job.now.worker c.worker-worker.result c.args.action c.in-Ok.reply place c.args.job.now.place c.take.new.self.place _ _
    asks c.worker-worker.ensures.worker c.in-Ok.ensures.reply c.in-Ok.ensures.after c.take.ensures.taken c.refuse-then-eq-2.new.self.place c.refuse-then-eq-2.ensures.place
    (elim c.else-eq.branch [
      | else-eq-via-then-eq+else-is_refusable w ↦ λ flagged may. false≢true (sym w.if-is_refusable.false ∙ (w.is_refusable.ensures ∙ may))
      | else-eq-via-else-eq w ↦ λ flagged may. not_act c.args.flag c.eq.result c.eq.ensures w.if-eq.false flagged
    ])

pub returns-else-eq-2-clause-acted : goal.returns-else-eq-2-clause-acted
returns-else-eq-2-clause-acted g c = λ place asks.
    acted_taken c.args.plan.now c.args.flag c.args.shared.now c.play.new.self c.args.job.now.worker c.worker-worker.result c.args.action c.in-Ok.reply place c.args.job.now.place c.take.new.self.place _ _
    asks c.worker-worker.ensures.worker c.in-Ok.ensures.reply c.in-Ok.ensures.after c.take.ensures.taken c.take.ensures.place (not_work c.args.flag c.eq-in-Ok.result c.eq-in-Ok.ensures c.if-eq-2.false)
    (elim c.else-eq.branch [
      | else-eq-via-then-eq+else-is_refusable w ↦ λ flagged may. false≢true (sym w.if-is_refusable.false ∙ (w.is_refusable.ensures ∙ may))
      | else-eq-via-else-eq w ↦ λ flagged may. not_act c.args.flag c.eq.result c.eq.ensures w.if-eq.false flagged
    ])

pub returns-then-eq-2-clause-none : goal.returns-then-eq-2-clause-none
returns-then-eq-2-clause-none g c =
    counted_none c.args.plan.now c.args.shared.now c.play.new.self c.args.job.now.worker c.worker-worker.result c.args.action c.in-Ok.reply c.args.job.now.place c.take.new.self.place _ _
    c.worker-worker.ensures.worker c.in-Ok.ensures.reply c.in-Ok.ensures.after c.take.ensures.taken

pub returns-then-eq-2-clause-most : goal.returns-then-eq-2-clause-most
returns-then-eq-2-clause-most g c =
    counted_most c.args.plan.now c.args.shared.now c.play.new.self c.args.job.now.worker c.worker-worker.result c.args.action c.in-Ok.reply c.args.job.now.place c.take.new.self.place _ _
    c.worker-worker.ensures.worker c.in-Ok.ensures.reply c.in-Ok.ensures.after c.take.ensures.taken

pub returns-else-eq-2-clause-none : goal.returns-else-eq-2-clause-none
returns-else-eq-2-clause-none g c =
    counted_none c.args.plan.now c.args.shared.now c.play.new.self c.args.job.now.worker c.worker-worker.result c.args.action c.in-Ok.reply c.args.job.now.place c.take.new.self.place _ _
    c.worker-worker.ensures.worker c.in-Ok.ensures.reply c.in-Ok.ensures.after c.take.ensures.taken

pub returns-else-eq-2-clause-most : goal.returns-else-eq-2-clause-most
returns-else-eq-2-clause-most g c =
    counted_most c.args.plan.now c.args.shared.now c.play.new.self c.args.job.now.worker c.worker-worker.result c.args.action c.in-Ok.reply c.args.job.now.place c.take.new.self.place _ _
    c.worker-worker.ensures.worker c.in-Ok.ensures.reply c.in-Ok.ensures.after c.take.ensures.taken
