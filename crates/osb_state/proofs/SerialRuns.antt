-- The turns of one worker are the run of a schedule.
use Rattle.std.proofs.Common.{◌≡◌, ℕ, ◌<◌, false, List, [], ◌∷◌, ◌++◌, All, length, refl, sym, ap, subst, ◌∙◌, arith}
use Rattle.std.proofs.lemmas.List.Elements.{All-nil, All-push, All-weaker}
use Rattle.osb_tree.specs.Trees.{Listing, tree_size}
use Rattle.osb_tree.specs.Chunks.{AreOfATree}
use Rattle.osb_tree.specs.declared.numbers.WorkerNo.{WorkerNo}
use Rattle.osb_recipe.specs.Plans.{IsSound}
use Rattle.osb_recipe.specs.Tables.{IsTable}
use Rattle.osb_recipe.specs.declared.plans.Plan.{Plan}
use Rattle.osb_cache.specs.Caches.{CanOpen, opening_line}
use Rattle.osb_cache.specs.declared.answers.Stored.{Stored}
use Rattle.osb_job.specs.declared.actions.Flag.{Flag}
use Rattle.osb_job.specs.declared.actions.Flag.TheVariants.{Fine}
use Rattle.osb_job.specs.declared.entries.Entry.{Entry}
use Rattle.osb_job.specs.declared.places.Place.{Place}
use Rattle.osb_job.specs.declared.places.Place.TheVariants.{Outside}
use Rattle.osb_job.specs.Moves.{Follows}
use Rattle.osb_state.specs.States.{State, progress_in}
use Rattle.osb_state.specs.Kept.{IsEntry}
use Rattle.osb_state.specs.Openings.{opened_state}
use Rattle.osb_state.specs.RunLogs.{LeadsTo}
use Rattle.osb_state.specs.Runs.{Course, step, run}
use Rattle.osb_state.specs.Schedules.{IsOpening, Turned, start}
use Rattle.osb_state.specs.Serial.{first_worker}
use Rattle.osb_state.specs.Truth.{AreMeant, IsTrueState, IsTrueOpening}
use Rattle.osb_state.specs.Turns.{HasJobs, GoesBy}
use Rattle.osb_state.proofs.LoggedRuns.{runs_have_logs}
use Rattle.osb_state.proofs.RunsMade.{begin_at, opening_has, turned_has}
use Rattle.osb_state.proofs.TrueOpenings.{entry_meant, true_opens}
use Rattle.osb_state.proofs.TurnSteps.{turns_are_steps}

-- some turns of the first worker lead to the state, where its job is at the place
pub record IsRunTo (plan : Plan) (begin : Course) (state : State) (place : Place) : Type 0 where
  pub schedule : List (WorkerNo × Flag)
  pub alone : All (λ turn. turn.0.0 < 1) schedule
  pub state_is : (run plan begin schedule).state ≡ state
  pub has : HasJobs plan state (place ∷ [])
  pub goes : GoesBy plan (run plan begin schedule) (place ∷ [])

pub true_there : (plan : Plan) (begin : Course) (state : State) (place : Place) → IsRunTo plan begin state place → IsTrueState plan state
true_there plan begin state place there = subst (IsTrueState plan) there.state_is there.goes.true_is

-- ---- where it begins

module _ (plan : Plan) (opening : List (Stored Listing)) (limit : ℕ) (sound : IsSound plan) (table : IsTable plan.table) (can : CanOpen tree_size limit opening) (true_so : IsTrueOpening plan opening) where
  meant_entry : (stored : Stored Listing) → AreMeant plan stored.key.0 stored.chunks → IsEntry (length plan.table.recipes) (opening_line tree_size 1 stored)
  meant_entry stored meant = entry_meant plan (opening_line tree_size 1 stored) sound table meant

  opens : IsOpening plan opening limit (opened_state plan opening limit)
  opens =
      let IsMeant : Stored Listing → Type 0 = λ stored. AreMeant plan stored.key.0 stored.chunks in
      record {
        can_open = can;
        known = All-weaker IsMeant (λ stored. stored.key.0 < length plan.table.recipes) (λ stored meant. (meant_entry stored meant).known) opening true_so;
        trees = All-weaker IsMeant (λ stored. AreOfATree stored.chunks) (λ stored meant. (meant_entry stored meant).tree) opening true_so;
        is = refl;
      }

  pub begins_to : IsRunTo plan (start plan opening limit) (opened_state plan opening limit) Outside
  begins_to =
      let true_first = true_opens plan opening limit sound table can true_so in
      record {
        schedule = [];
        alone = All-nil (λ turn. turn.0.0 < 1);
        state_is = refl;
        has = opening_has plan opening limit 1 (opened_state plan opening limit) true_first.valid opens;
        goes = record {
          true_is = true_first;
          jobs = λ worker place at. subst (λ (p : Place). Follows plan p (progress_in (opened_state plan opening limit) (record { 0 = worker })) false) (sym (begin_at 1 worker place at)) Follows.begins;
        };
      }

  -- the log of the state is that of a run
  pub leads_there : (state : State) (place : Place) → IsRunTo plan (start plan opening limit) state place → LeadsTo plan 1 (opened_state plan opening limit) (λ worker. false) state.log state
  leads_there state place there =
      let Leads : List Entry → State → Type 0 = LeadsTo plan 1 (opened_state plan opening limit) (λ worker. false) in
      let made = runs_have_logs plan (start plan opening limit) 1 there.schedule sound table (true_opens plan opening limit sound table can true_so) there.alone in
      let ends : Leads made.0 state = subst (Leads made.0) there.state_is made.1 in
      subst (λ (log : List Entry). Leads log state) (sym ends.logs) ends

-- ---- one turn more

run_push : (plan : Plan) (course : Course) (schedule : List (WorkerNo × Flag)) (turn : WorkerNo × Flag) → run plan course (schedule ++ turn ∷ []) ≡ step plan (run plan course schedule) turn
run_push plan course [] turn = refl
run_push plan course (first ∷ schedule) turn = run_push plan (step plan course first) schedule turn

pub turned_to : (plan : Plan) (begin : Course) (state state' : State) (place place' : Place) → IsSound plan → IsTable plan.table → IsRunTo plan begin state place → Turned plan first_worker Fine state state' place place' → IsRunTo plan begin state' place'
turned_to plan begin state state' place place' sound table there turned =
    let course : Course = run plan begin there.schedule in
    let here : Turned plan first_worker Fine course.state state' place place' = subst (λ (s : State). Turned plan first_worker Fine s state' place place') (sym there.state_is) turned in
    let has : HasJobs plan course.state (place ∷ []) = subst (λ (s : State). HasJobs plan s (place ∷ [])) (sym there.state_is) there.has in
    let turn : WorkerNo × Flag = (first_worker, here.met) in
    let stepped = turns_are_steps plan first_worker here.met course state' (place ∷ []) place place' sound table has there.goes refl here.turns in
    let more : run plan begin (there.schedule ++ turn ∷ []) ≡ step plan course turn = run_push plan begin there.schedule turn in
    record {
      schedule = there.schedule ++ turn ∷ [];
      alone = All-push (λ (t : WorkerNo × Flag). t.0.0 < 1) there.schedule turn there.alone (omega arith);
      state_is = ap (λ (c : Course). c.state) more ∙ stepped.0;
      has = turned_has plan first_worker Fine state state' (place ∷ []) place place' sound table there.has refl turned;
      goes = subst (λ (c : Course). GoesBy plan c (place' ∷ [])) (sym more) stepped.1;
    }
