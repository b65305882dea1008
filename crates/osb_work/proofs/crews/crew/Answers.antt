use Rattle.std.proofs.Common.{◌≡◌, ℕ, ◌<◌, ◌≤◌, ◌++◌, List, All, length, take, drop, sum_by, replicate, sym, ap, subst, ◌∙◌, arith}
use Rattle.std.proofs.Math.Seq.{take-append_seam}
use Rattle.std.specs.Prelude.{IfOk}
use Rattle.std.proofs.lemmas.Result.{IfOk-weaker}
use Rattle.osb_tree.specs.Trees.{tree_size}
use Rattle.osb_job.specs.declared.places.Place.TheVariants.{Outside}
use Rattle.osb_state.specs.States.{State, Allows, gives, after}
use Rattle.osb_turn.specs.Seats.{Closes}
use Rattle.osb_machine.proofs.SerialFinishes.{IsLeft, all_left}
use Rattle.osb_work.specs.Works.{is_ready_for, Stool, Begins}
use Rattle.osb_work.proofs.Interleaving.{AreRun}
use Rattle.osb_work.proofs.Endings.{opens_begin, crew_run, crew_opened, crew_keys, ended_limit, ended_finished, ended_kept, ended_meant, ended_true, ended_filled}
use Rattle.osb_work.proofs.crews.crew.Given.{Over}
use Rattle.osb_work.proofs.crews.crew.Goals as goal

pub work_all-requires-clause-begins : goal.work_all-requires-clause-begins
work_all-requires-clause-begins g c κs within =
    subst (λ (s : State). Begins c.args.plan.now s) (sym c.in_ok-turnstile.ensures.opening)
    (opens_begin c.args.plan.now c.requires.opened.0 c.requires.opened.1 c.args.shared c.ready.ensures.valid c.requires.opened.2)

-- the seats that are closed are those after the work
closes_of : (g : Over) (c : goal.After-finish g) → Closes gives after is_ready_for Allows c.in_ok-turnstile.turnstile c.work_all.new.seats c.in-Ok.shared
closes_of g c =
    let now : List Stool = c.work_all.new.seats in
    let was : List Stool = c.in_ok-turnstile.seats.items in
    let same : length now ≡ c.in_ok-turnstile.seats.len = omega (arith, c.work_all.auto.seats, c.as_mut_slice.ensures.len) in
    subst (λ (seats : List Stool). Closes gives after is_ready_for Allows c.in_ok-turnstile.turnstile seats c.in-Ok.shared)
    (ap (λ (n : ℕ). take n (now ++ drop (length now) was)) (sym same) ∙ take-append_seam now (drop (length now) was)) c.in-Ok.ensures.closes

-- the turns of all workers, one after the other
run_of : (g : Over) (c : goal.After-finish g) → c.in_ok-turnstile.turnstile.workers ≡ c.args.workers → AreRun c.args.plan.now c.args.shared c.in-Ok.shared (replicate c.args.workers Outside) c.args.workers
run_of g c all =
    crew_run c.args.plan.now c.in_ok-turnstile.turnstile _ c.args.shared c.in-Ok.shared c.args.workers c.in_ok-turnstile.ensures.opening all (closes_of g c) c.work_all.ensures.seats c.work_all.ensures.ended

left_of : (g : Over) (c : goal.After-finish g) → IfOk c.finish.result (IsLeft c.in-Ok.shared)
left_of g c = all_left c.in-Ok.shared c.finish.result c.finish.ensures.outcomes c.finish.ensures.entries c.finish.ensures.opened c.finish.ensures.log

pub returns-in-Ok-clause-finished : goal.returns-in-Ok-clause-finished
returns-in-Ok-clause-finished g c =
    IfOk-weaker c.finish.result (IsLeft c.in-Ok.shared) _
    (λ finished left. ended_finished c.args.plan.now c.args.workers c.args.shared c.in-Ok.shared c.requires.sound c.recipes-recipes.ensures.table c.ready.ensures.valid (run_of g c c.in_ok-turnstile.ensures.workers)
    (crew_opened c.args.plan.now c.in_ok-turnstile.turnstile _ c.args.shared c.in-Ok.shared c.args.workers c.in_ok-turnstile.ensures.opening c.in_ok-turnstile.ensures.workers (closes_of g c)) finished left)
    (left_of g c)

pub returns-in-Ok-clause-kept : goal.returns-in-Ok-clause-kept
returns-in-Ok-clause-kept g c =
    IfOk-weaker c.finish.result (IsLeft c.in-Ok.shared) _
    (λ finished left. ended_kept c.args.plan.now c.args.workers c.args.shared c.in-Ok.shared c.requires.sound c.recipes-recipes.ensures.table c.ready.ensures.valid (run_of g c c.in_ok-turnstile.ensures.workers)
    (crew_opened c.args.plan.now c.in_ok-turnstile.turnstile _ c.args.shared c.in-Ok.shared c.args.workers c.in_ok-turnstile.ensures.opening c.in_ok-turnstile.ensures.workers (closes_of g c)) finished left)
    (left_of g c)

pub returns-in-Ok-clause-meant : goal.returns-in-Ok-clause-meant
returns-in-Ok-clause-meant g c =
    IfOk-weaker c.finish.result (IsLeft c.in-Ok.shared) _
    (λ finished left. ended_meant c.args.plan.now c.args.workers c.args.shared c.in-Ok.shared c.requires.sound c.recipes-recipes.ensures.table c.ready.ensures.valid (run_of g c c.in_ok-turnstile.ensures.workers)
    (crew_opened c.args.plan.now c.in_ok-turnstile.turnstile _ c.args.shared c.in-Ok.shared c.args.workers c.in_ok-turnstile.ensures.opening c.in_ok-turnstile.ensures.workers (closes_of g c)) finished left)
    (left_of g c)

pub returns-in-Ok-clause-true_entries : goal.returns-in-Ok-clause-true_entries
returns-in-Ok-clause-true_entries g c =
    IfOk-weaker c.finish.result (IsLeft c.in-Ok.shared) _
    (λ finished left. ended_true c.args.plan.now c.args.workers c.args.shared c.in-Ok.shared c.requires.sound c.recipes-recipes.ensures.table c.ready.ensures.valid (run_of g c c.in_ok-turnstile.ensures.workers)
    (crew_opened c.args.plan.now c.in_ok-turnstile.turnstile _ c.args.shared c.in-Ok.shared c.args.workers c.in_ok-turnstile.ensures.opening c.in_ok-turnstile.ensures.workers (closes_of g c)) finished left)
    (left_of g c)

pub returns-in-Ok-clause-filled : goal.returns-in-Ok-clause-filled
returns-in-Ok-clause-filled g c =
    IfOk-weaker c.finish.result (IsLeft c.in-Ok.shared) _
    (λ finished left. ended_filled c.args.plan.now c.args.workers c.args.shared c.in-Ok.shared c.requires.sound c.recipes-recipes.ensures.table c.ready.ensures.valid (run_of g c c.in_ok-turnstile.ensures.workers)
    (crew_opened c.args.plan.now c.in_ok-turnstile.turnstile _ c.args.shared c.in-Ok.shared c.args.workers c.in_ok-turnstile.ensures.opening c.in_ok-turnstile.ensures.workers (closes_of g c)) finished left)
    (left_of g c)

pub returns-in-Ok-clause-within : goal.returns-in-Ok-clause-within
returns-in-Ok-clause-within g c =
    subst (λ (limit : ℕ). IfOk c.finish.result (λ finished. sum_by (λ stored. sum_by tree_size stored.chunks) finished.entries ≤ limit))
    (ended_limit c.args.plan.now c.args.workers c.args.shared c.in-Ok.shared c.requires.sound c.recipes-recipes.ensures.table c.ready.ensures.valid (run_of g c c.in_ok-turnstile.ensures.workers)) c.finish.ensures.within

pub returns-in-Ok-clause-known : goal.returns-in-Ok-clause-known
returns-in-Ok-clause-known g c =
    subst (λ (keys : ℕ). IfOk c.finish.result (λ finished. All (λ stored. stored.key.0 < keys) finished.entries))
    (crew_keys c.args.plan.now c.in_ok-turnstile.turnstile _ c.args.shared c.in-Ok.shared c.args.workers c.in_ok-turnstile.ensures.opening c.in_ok-turnstile.ensures.workers (closes_of g c)
    (opens_begin c.args.plan.now c.requires.opened.0 c.requires.opened.1 c.args.shared c.ready.ensures.valid c.requires.opened.2).of_plan) c.finish.ensures.known
