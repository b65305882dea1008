-- The log of a schedule's run is one of a run.
use Rattle.std.proofs.Common.{◌≡◌, ℕ, ◌==◌, ◌<◌, ◌&&◌, ◌||◌, Bool, true, false, not, cond, List, [], ◌∷◌, ◌++◌, All, Option, Some, None, refl, sym, ap, subst, ◌∙◌, append-nil, append_assoc}
use Rattle.std.proofs.lemmas.Bool.{cond_both, not-false}
use Rattle.std.proofs.lemmas.List.Elements.{All-head, All-tail}
use Rattle.osb_tree.specs.declared.numbers.WorkerNo.{WorkerNo}
use Rattle.osb_recipe.specs.Plans.{IsSound}
use Rattle.osb_recipe.specs.Tables.{IsTable}
use Rattle.osb_recipe.specs.declared.plans.Plan.{Plan}
use Rattle.osb_job.specs.declared.actions.Action.{Action}
use Rattle.osb_job.specs.declared.actions.Flag.{Flag}
use Rattle.osb_job.specs.declared.actions.Flag.TheVariants.{Fine, ActRefused, WorkRefused}
use Rattle.osb_job.specs.declared.entries.Entry.{Entry}
use Rattle.osb_job.specs.declared.entries.Event.{Event}
use Rattle.osb_job.specs.Scripts.{next}
use Rattle.osb_job.specs.Moves.{puts_of}
use Rattle.osb_state.specs.States.{State, part, progress_in, is_ready, entries_of, after}
use Rattle.osb_state.specs.Runs.{Course, change, is_done, is_act_refused, is_work_refused, acted, acts, step, run, replay, IsRunFrom}
use Rattle.osb_state.specs.RunLogs.{LeadsTo, RunsHaveLogs}
use Rattle.osb_state.specs.Truth.{IsTrueState}
use Rattle.osb_state.proofs.Entries.{entries}
use Rattle.osb_state.proofs.Noting.{noted}
use Rattle.osb_state.proofs.ToldActions.{entry_tells}
use Rattle.osb_state.proofs.TrueMoves.{true_stays}

-- ---- memory refused once more

set_twice : (here was now other : Bool) → cond here now (cond here was other) ≡ cond here now other
set_twice true was now other = refl
set_twice false was now other = refl

change_twice : (refused : ℕ → Bool) (worker : WorkerNo) (was now : Bool) → change (change refused worker was) worker now ≡ change refused worker now
change_twice refused worker was now = λ i other. set_twice (other == worker.0) was now (refused other) i

gives_up_leads : (plan : Plan) (workers : ℕ) (state : State) (refused : ℕ → Bool) (worker : WorkerNo) (log : List Entry) (end : State) → LeadsTo plan workers state (change refused worker true) log end → LeadsTo plan workers state refused log end
gives_up_leads plan workers state refused worker log end leads =
    record {
      runs = IsRunFrom.gives_up state refused worker log leads.runs;
      replays = leads.replays;
      logs = leads.logs;
    }

-- where memory is refused to the work behind a reply, that follows its entry
works_on : (plan : Plan) (workers : ℕ) (state : State) (refused : ℕ → Bool) (worker : WorkerNo) (flag : Flag) (was : Bool) (log : List Entry) (end : State) → LeadsTo plan workers state (change refused worker (is_work_refused flag || was)) log end → LeadsTo plan workers state (change refused worker was) log end
works_on plan workers state refused worker Fine was log end leads = leads
works_on plan workers state refused worker ActRefused was log end leads = leads
works_on plan workers state refused worker WorkRefused was log end leads =
    gives_up_leads plan workers state (change refused worker was) worker log end
    (subst (λ (flags : ℕ → Bool). LeadsTo plan workers state flags log end) (sym (change_twice refused worker was true)) leads)

-- ---- one step

-- a course of a true state, from whose logs to those of the course before it there is an entry at most
record IsOn (plan : Plan) (workers : ℕ) (course now : Course) : Type 0 where
  true_is : IsTrueState plan now.state
  leads : (log : List Entry) (end : State) → LeadsTo plan workers now.state now.refused log end → (whole : List Entry) × LeadsTo plan workers course.state course.refused whole end

module _ (plan : Plan) (workers : ℕ) (course : Course) (worker : WorkerNo) (few : worker.0 < workers) (sound : IsSound plan) (table : IsTable plan.table) (true_so : IsTrueState plan course.state) where
  entry_leads : (action : Action) (event : Event) → next plan (progress_in course.state worker) (course.refused worker.0) ≡ Some action → entries_of course.state worker action ≡ entries worker (Some event) → (log : List Entry) (end : State)
      → LeadsTo plan workers (after course.state worker action) (change course.refused worker (not (is_done action) && course.refused worker.0)) log end → LeadsTo plan workers course.state course.refused (record { worker = worker; event = event } ∷ log) end
  entry_leads action event is one log end leads =
      let entry : Entry = record { worker = worker; event = event } in
      let tells = entry_tells plan course.state entry (course.refused worker.0) action sound table true_so is one in
      record {
        runs = IsRunFrom.goes_on course.state course.refused action entry log few is one leads.runs;
        replays = ap (λ (a : Action). replay plan (after course.state worker a) log) tells ∙ leads.replays;
        logs = leads.logs ∙ append_assoc course.state.log (entries_of course.state worker action) log ∙ ap (λ (xs : List Entry). course.state.log ++ (xs ++ log)) one;
      }

  plays_on : (flag : Flag) (action : Action) → next plan (progress_in course.state worker) (course.refused worker.0) ≡ Some action → is_ready course.state action ≡ true
      → IsOn plan workers course (record { state = after course.state worker action; refused = change course.refused worker (is_work_refused flag || (not (is_done action) && course.refused worker.0)) })
  plays_on flag action is ready =
      let made = noted (puts_of (part course.state worker)) course.state worker action ready in
      let kept : Bool = not (is_done action) && course.refused worker.0 in
      record {
        true_is = true_stays plan course.state worker (course.refused worker.0) action sound table true_so is;
        leads = λ log end leads.
            (_, entry_leads action made.event is (ap (entries worker) made.is) log end (works_on plan workers (after course.state worker action) course.refused worker flag kept log end leads));
      }

  stays_on : IsOn plan workers course course
  stays_on = record { true_is = true_so; leads = λ log end leads. (log, leads) }

  acted_on : (flag : Flag) (action : Action) → next plan (progress_in course.state worker) (course.refused worker.0) ≡ Some action → IsOn plan workers course (acted course worker flag action)
  acted_on flag action is =
      let refuses : Course = record { state = course.state; refused = change course.refused worker true } in
      let plays : Course = record {
        state = after course.state worker action;
        refused = change course.refused worker (is_work_refused flag || (not (is_done action) && course.refused worker.0));
      } in
      cond_both (not (is_ready course.state action)) course (cond (is_act_refused flag action) refuses plays) (IsOn plan workers course) (λ _. stays_on)
      (λ ready.
      cond_both (is_act_refused flag action) refuses plays (IsOn plan workers course)
      (λ _. record { true_is = true_so; leads = λ log end leads. (log, gives_up_leads plan workers course.state course.refused worker log end leads) })
      (λ _. plays_on flag action is (not-false (is_ready course.state action) ready)))

  acts_on : (flag : Flag) (wanted : Option Action) → next plan (progress_in course.state worker) (course.refused worker.0) ≡ wanted → IsOn plan workers course (acts course worker flag wanted)
  acts_on flag None is = stays_on
  acts_on flag (Some action) is = acted_on flag action is

-- ---- all of them

logged : (plan : Plan) (workers : ℕ) → IsSound plan → IsTable plan.table → (schedule : List (WorkerNo × Flag)) (course : Course) → IsTrueState plan course.state → All (λ turn. turn.0.0 < workers) schedule
    → (log : List Entry) × LeadsTo plan workers course.state course.refused log (run plan course schedule).state
logged plan workers sound table [] course true_so few =
    ([], record { runs = IsRunFrom.ends course.state course.refused; replays = refl; logs = sym (append-nil course.state.log) })
logged plan workers sound table (turn ∷ schedule) course true_so few =
    let IsFew : WorkerNo × Flag → Type 0 = λ turn. turn.0.0 < workers in
    let on = acts_on plan workers course turn.0 (All-head IsFew turn schedule few) sound table true_so turn.1 (next plan (progress_in course.state turn.0) (course.refused turn.0.0)) refl in
    let rest = logged plan workers sound table schedule (step plan course turn) on.true_is (All-tail IsFew turn schedule few) in
    on.leads rest.0 (run plan (step plan course turn) schedule).state rest.1

pub runs_have_logs : RunsHaveLogs
runs_have_logs plan course workers schedule sound table true_so few = logged plan workers sound table schedule course true_so few
