use Rattle.std.proofs.Common.{ℕ, ◌<◌, ◌≤◌, [], ◌∷◌, All, sum_by, sym, subst}
use Rattle.std.specs.Prelude.{IfOk}
use Rattle.std.proofs.lemmas.Result.{IfOk-weaker}
use Rattle.osb_tree.specs.Trees.{tree_size}
use Rattle.osb_job.specs.declared.places.Place.{Place}
use Rattle.osb_state.specs.Turns.{HasJobs}
use Rattle.osb_state.proofs.RunsMade.{opening_has}
use Rattle.osb_machine.proofs.SerialFinishes.{IsLeft, all_left, left_finished, left_kept, left_meant, left_true, left_filled, left_steps}
use Rattle.osb_machine.proofs.serials.serial.Goals as goal

pub go-requires-clause-jobs : goal.go-requires-clause-jobs
go-requires-clause-jobs g c =
    subst (λ (p : Place). HasJobs c.args.plan.now c.args.shared (p ∷ [])) (sym c.new-job.ensures.outside)
    (opening_has c.args.plan.now c.requires.opened.0 c.requires.opened.1 1 c.args.shared c.state_is_valid.ensures.valid c.requires.opened.2)

pub returns-clause-finished : goal.returns-clause-finished
returns-clause-finished g c =
    IfOk-weaker c.finish.result (IsLeft c.go.new.shared) _
    (λ finished left. left_finished c.args.plan.now c.args.shared c.go.new.shared c.go.new.job.place c.args.steps.now c.go.new.steps finished c.requires.sound c.recipes-recipes.ensures.table c.go.ensures.goes c.in_ok-go.ensures.stopped left)
    (all_left c.go.new.shared c.finish.result c.finish.ensures.outcomes c.finish.ensures.entries c.finish.ensures.opened c.finish.ensures.log)

pub returns-clause-kept : goal.returns-clause-kept
returns-clause-kept g c =
    IfOk-weaker c.finish.result (IsLeft c.go.new.shared) _
    (λ finished left. left_kept c.args.plan.now c.args.shared c.go.new.shared c.go.new.job.place c.args.steps.now c.go.new.steps finished c.requires.sound c.recipes-recipes.ensures.table c.go.ensures.goes c.in_ok-go.ensures.stopped left)
    (all_left c.go.new.shared c.finish.result c.finish.ensures.outcomes c.finish.ensures.entries c.finish.ensures.opened c.finish.ensures.log)

pub returns-clause-meant : goal.returns-clause-meant
returns-clause-meant g c =
    IfOk-weaker c.finish.result (IsLeft c.go.new.shared) _
    (λ finished left. left_meant c.args.plan.now c.args.shared c.go.new.shared c.go.new.job.place c.args.steps.now c.go.new.steps finished c.requires.sound c.recipes-recipes.ensures.table c.go.ensures.goes c.in_ok-go.ensures.stopped left)
    (all_left c.go.new.shared c.finish.result c.finish.ensures.outcomes c.finish.ensures.entries c.finish.ensures.opened c.finish.ensures.log)

pub returns-clause-true_entries : goal.returns-clause-true_entries
returns-clause-true_entries g c =
    IfOk-weaker c.finish.result (IsLeft c.go.new.shared) _
    (λ finished left. left_true c.args.plan.now c.args.shared c.go.new.shared c.go.new.job.place c.args.steps.now c.go.new.steps finished c.requires.sound c.recipes-recipes.ensures.table c.go.ensures.goes c.in_ok-go.ensures.stopped left)
    (all_left c.go.new.shared c.finish.result c.finish.ensures.outcomes c.finish.ensures.entries c.finish.ensures.opened c.finish.ensures.log)

pub returns-clause-filled : goal.returns-clause-filled
returns-clause-filled g c =
    IfOk-weaker c.finish.result (IsLeft c.go.new.shared) _
    (λ finished left. left_filled c.args.plan.now c.args.shared c.go.new.shared c.go.new.job.place c.args.steps.now c.go.new.steps finished c.requires.sound c.recipes-recipes.ensures.table c.go.ensures.goes c.in_ok-go.ensures.stopped left)
    (all_left c.go.new.shared c.finish.result c.finish.ensures.outcomes c.finish.ensures.entries c.finish.ensures.opened c.finish.ensures.log)

pub returns-clause-steps : goal.returns-clause-steps
returns-clause-steps g c =
    IfOk-weaker c.finish.result (IsLeft c.go.new.shared) _
    (λ finished left. left_steps c.args.plan.now c.args.shared c.go.new.shared c.go.new.job.place c.args.steps.now c.go.new.steps finished c.requires.sound c.recipes-recipes.ensures.table c.go.ensures.goes c.in_ok-go.ensures.stopped left)
    (all_left c.go.new.shared c.finish.result c.finish.ensures.outcomes c.finish.ensures.entries c.finish.ensures.opened c.finish.ensures.log)

pub returns-clause-within : goal.returns-clause-within
returns-clause-within g c =
    subst (λ (limit : ℕ). IfOk c.finish.result (λ finished. sum_by (λ stored. sum_by tree_size stored.chunks) finished.entries ≤ limit)) c.go.ensures.limit c.finish.ensures.within

pub returns-clause-known : goal.returns-clause-known
returns-clause-known g c =
    subst (λ (keys : ℕ). IfOk c.finish.result (λ finished. All (λ stored. stored.key.0 < keys) finished.entries)) c.go.ensures.jobs.of_plan.keys c.finish.ensures.known
