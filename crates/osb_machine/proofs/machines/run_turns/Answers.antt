use Rattle.std.specs.Prelude.{ℕ, All}
use Rattle.std.proofs.Math.ListN.{drop_of_length-le}
use Rattle.std.proofs.Math.Seq.{drop-cons}
use Rattle.std.proofs.Common.{◌≡◌, ◌+◌, ◌<◌, ◌∷◌, List, length, get_or, drop, suc, subst, sym, ap, ◌∙◌, arith}
use Rattle.osb_tree.specs.declared.numbers.WorkerNo.{WorkerNo}
use Rattle.osb_job.specs.declared.actions.Flag.{Flag}
use Rattle.osb_job.specs.declared.actions.Flag.TheVariants.{Fine}
use Rattle.osb_state.specs.Schedules.{Runs, stops, places_of}
use Rattle.osb_state.proofs.RunsMade.{job_here, numbers_stay, jobs_on, runs_on}
use Rattle.osb_machine.proofs.machines.run_turns.Goals as goal

worker_within : (count count' n : ℕ) (schedule : List (WorkerNo × Flag)) (d : WorkerNo × Flag) → All (λ turn. turn.0.0 < count) schedule → n < length schedule → count' ≡ count → (get_or schedule n d).0.0 < count'
worker_within count count' n schedule d all within same = subst (λ (k : ℕ). (get_or schedule n d).0.0 < k) (sym same) (all n d within)

next_of : (n : ℕ) (schedule : List (WorkerNo × Flag)) (d : WorkerNo × Flag) → n < length schedule → drop n schedule ≡ get_or schedule n d ∷ drop (n + 1) schedule
next_of n schedule d within =
    let same : suc n ≡ n + 1 = omega arith in
    drop-cons schedule n d within ∙ ap (λ (k : ℕ). get_or schedule n d ∷ drop k schedule) same

pub turn-requires-clause-job : goal.turn-requires-clause-job
turn-requires-clause-job g c =
    job_here c.args.plan.now c.loop-next.shared c.loop-next.jobs _ c.index-jobs-worker.result c.loop-next.invariant.numbers c.loop-next.invariant.jobs
    (worker_within (length c.args.jobs.now) (length c.loop-next.jobs) c.loop-next.next-index c.args.schedule.now (record { 0 = 0 }, Fine) c.requires.within c.loop-next-test.true c.loop-next.auto.jobs)

pub loop-next-preserved : goal.loop-next-preserved
loop-next-preserved g c =
    let d : WorkerNo × Flag = (record { 0 = 0 }, Fine) in
    let n : ℕ = c.loop-next.next-index in
    let now : WorkerNo × Flag = get_or c.args.schedule.now n d in
    let within = worker_within (length c.args.jobs.now) (length c.loop-next.jobs) n c.args.schedule.now d c.requires.within c.loop-next-test.true c.loop-next.auto.jobs in
    record {
      numbers = numbers_stay c.loop-next.jobs now.0.0 c.index-jobs-worker.result c.turn.new.job c.loop-next.invariant.numbers within c.turn.ensures.worker;
      jobs = jobs_on c.args.plan.now c.loop-next.shared c.turn.new.shared c.loop-next.jobs now.0 c.index-jobs-worker.result c.turn.new.job now.1 c.loop-next.invariant.numbers within c.turn.ensures.turned c.requires.sound c.recipes-recipes.ensures.table c.loop-next.invariant.jobs;
      runs = λ end last rest. c.loop-next.invariant.runs end last
          (runs_on c.args.plan.now c.loop-next.shared c.turn.new.shared c.loop-next.jobs now.0 c.index-jobs-worker.result c.turn.new.job now.1 c.loop-next.invariant.numbers within c.turn.ensures.turned end last
          (drop n c.args.schedule.now) (drop (n + 1) c.args.schedule.now) (next_of n c.args.schedule.now d c.loop-next-test.true) rest);
    }

pub returns-clause-runs : goal.returns-clause-runs
returns-clause-runs g c =
    c.loop-next.invariant.runs c.loop-next.shared (places_of c.loop-next.jobs)
    (subst (λ (rest : List (WorkerNo × Flag)). Runs c.args.plan.now c.loop-next.shared (places_of c.loop-next.jobs) c.loop-next.shared (places_of c.loop-next.jobs) rest)
    (sym (drop_of_length-le c.args.schedule.now c.loop-next-test.false)) stops)
