use Rattle.std.proofs.Common.{◌≡◌, ℕ, ◌++◌, List, length, take, drop, subst, sym, ap, ◌∙◌, arith}
use Rattle.std.proofs.Math.Seq.{take-append_seam}
use Rattle.osb_job.specs.Jobs.{JobState}
use Rattle.osb_job.specs.declared.places.Place.{Place}
use Rattle.osb_state.specs.Turns.{HasJobs}
use Rattle.osb_state.specs.Schedules.{Runs, IsRunBy, places_of}
use Rattle.osb_state.proofs.RunsMade.{opening_has, opening_runs}
use Rattle.osb_machine.proofs.machines.run_by.Goals as goal

-- the jobs that are written back are those after the turns
written_back : (now was result : List JobState) (count : ℕ) → length now ≡ count → result ≡ take count (now ++ drop (length now) was) → result ≡ now
written_back now was result count same is = is ∙ (ap (λ (n : ℕ). take n (now ++ drop (length now) was)) (sym same) ∙ take-append_seam now (drop (length now) was))

pub run_turns-requires-clause-jobs : goal.run_turns-requires-clause-jobs
run_turns-requires-clause-jobs g c =
    subst (HasJobs c.args.plan.now c.args.shared) (sym (ap (λ (js : List JobState). places_of js) c.deref_mut.ensures.value ∙ c.in_ok-jobs.ensures.places))
    (opening_has c.args.plan.now c.requires.opened.0 c.requires.opened.1 c.args.workers c.args.shared c.state_is_valid.ensures.valid c.requires.opened.2)

pub returns-clause-jobs : goal.returns-clause-jobs
returns-clause-jobs g c =
    let size = c.deref_mut.ensures.len in
    let kept = c.run_turns.auto.jobs in
    let same : length c.run_turns.new.jobs ≡ c.in_ok-jobs.jobs.len = omega (arith, kept, size) in
    subst (λ (js : List JobState). HasJobs c.args.plan.now c.run_turns.new.shared (places_of js)) (sym (written_back c.run_turns.new.jobs c.in_ok-jobs.jobs.items c.new.result c.in_ok-jobs.jobs.len same c.new.ensures.items)) c.run_turns.ensures.jobs

pub returns-clause-run : goal.returns-clause-run
returns-clause-run g c = λ opening limit opens true_is.
    let same : length c.run_turns.new.jobs ≡ c.in_ok-jobs.jobs.len = omega (arith, c.run_turns.auto.jobs, c.deref_mut.ensures.len) in
    let begin = ap (λ (js : List JobState). places_of js) c.deref_mut.ensures.value ∙ c.in_ok-jobs.ensures.places in
    let runs = subst (λ (ps : List Place). Runs c.args.plan.now c.run_turns.new.shared (places_of c.run_turns.new.jobs) c.args.shared ps c.args.schedule.now) begin c.run_turns.ensures.runs in
    subst (λ (js : List JobState). IsRunBy c.args.plan.now opening limit c.args.schedule.now c.run_turns.new.shared (places_of js)) (sym (written_back c.run_turns.new.jobs c.in_ok-jobs.jobs.items c.new.result c.in_ok-jobs.jobs.len same c.new.ensures.items))
    (opening_runs c.args.plan.now opening limit c.args.workers c.args.schedule.now c.args.shared c.run_turns.new.shared (places_of c.run_turns.new.jobs) c.requires.sound c.recipes-recipes.ensures.table
    (opening_has c.args.plan.now opening limit c.args.workers c.args.shared c.state_is_valid.ensures.valid opens) runs opens true_is)
