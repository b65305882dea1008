-- A turn over a true opening is the step of the course by the flag that was met.
use Rattle.std.proofs.Common.{◌≡◌, ℕ, ◌==◌, ◌&&◌, ◌||◌, Bool, true, false, not, List, Option, Some, None, slice_set, refl, sym, ap, subst, ◌∙◌}
use Rattle.std.specs.Prelude.{slice_get}
use Rattle.std.proofs.lemmas.Bool.{cond-true, cond-false, eq-eqb, ne_eqb}
use Rattle.osb_tree.specs.declared.numbers.WorkerNo.{WorkerNo}
use Rattle.osb_recipe.specs.Plans.{IsSound}
use Rattle.osb_recipe.specs.Tables.{IsTable}
use Rattle.osb_recipe.specs.declared.plans.Plan.{Plan}
use Rattle.osb_job.specs.declared.actions.Action.{Action}
use Rattle.osb_job.specs.declared.actions.Flag.{Flag}
use Rattle.osb_job.specs.declared.actions.Flag.TheVariants.{Fine, ActRefused, WorkRefused}
use Rattle.osb_job.specs.declared.places.Place.{Place}
use Rattle.osb_job.specs.Scripts.{Progress, turn, next, progress_of}
use Rattle.osb_job.specs.Allowed.{Part}
use Rattle.osb_job.specs.Jobs.{wants, asked, refused}
use Rattle.osb_job.specs.Moves.{Follows, IsTrue, puts_of}
use Rattle.osb_job.proofs.AgreeingTurns.{wants_what_is_next}
use Rattle.osb_job.proofs.Blocks.{progress_on}
use Rattle.osb_state.specs.States.{State, part, progress_in, is_ready, is_refusable, gives, after}
use Rattle.osb_state.specs.Runs.{Course, change, is_done, is_work_refused, acted, acts as course_acts, step}
use Rattle.osb_state.specs.Truth.{IsTrueState}
use Rattle.osb_state.specs.Turns.{Stands, GivesUp, Plays, BreaksOff, Acts, Turns, ended, idles, acts, HasJobs, GoesBy}
use Rattle.osb_state.specs.TurnLaws.{TurnsAreSteps}
use Rattle.osb_state.proofs.JobsKept.{by_job, IsPlayed, is_played, other_part}
use Rattle.osb_state.proofs.Noting.{idle_refusable}
use Rattle.osb_state.proofs.TrueMoves.{true_stays}
use Rattle.osb_state.proofs.TrueReplies.{replies_are_true}
use Rattle.osb_state.proofs.Taking.{asked_refusable, asked_nothing}

-- ---- the flag of one worker is another one

change_here : (refused : ℕ → Bool) (worker : WorkerNo) (now : Bool) → change refused worker now worker.0 ≡ now
change_here refused worker now = cond-true (worker.0 == worker.0) now (refused worker.0) (eq-eqb worker.0 worker.0 refl)

change_there : (refused : ℕ → Bool) (worker : WorkerNo) (now : Bool) (other : ℕ) → (worker.0 ≡ other → ⊥) → change refused worker now other ≡ refused other
change_there refused worker now other apart = cond-false (other == worker.0) now (refused other) (ne_eqb other worker.0 (λ same. apart (sym same)))

-- ---- what a step does

-- the course is in this state, and the jobs go by the script as it has it
abbrev Goes : Plan → State → List Place → Course → Type 0
Goes plan state places course = (course.state ≡ state) × GoesBy plan course places

waits : (course : Course) (worker : WorkerNo) (flag : Flag) (action : Action) → is_ready course.state action ≡ false → acted course worker flag action ≡ course
waits course worker flag action idle = cond-true (not (is_ready course.state action)) _ _ (ap not idle)

refuses : (course : Course) (worker : WorkerNo) (action : Action) → is_ready course.state action ≡ true → is_refusable action ≡ true → acted course worker ActRefused action ≡ record { state = course.state; refused = change course.refused worker true }
refuses course worker action ready may = cond-false (not (is_ready course.state action)) _ _ (ap not ready) ∙ cond-true (is_refusable action) _ _ may

-- the course with an action more
abbrev with_play : Course → WorkerNo → Flag → Action → Course
with_play course worker flag action = record {
  state = after course.state worker action;
  refused = change course.refused worker (is_work_refused flag || (not (is_done action) && course.refused worker.0));
}

plays_fine : (course : Course) (worker : WorkerNo) (action : Action) → is_ready course.state action ≡ true → acted course worker Fine action ≡ with_play course worker Fine action
plays_fine course worker action ready = cond-false (not (is_ready course.state action)) _ _ (ap not ready)

plays_refused : (course : Course) (worker : WorkerNo) (action : Action) → is_ready course.state action ≡ true → acted course worker WorkRefused action ≡ with_play course worker WorkRefused action
plays_refused course worker action ready = cond-false (not (is_ready course.state action)) _ _ (ap not ready)

module _ (plan : Plan) (worker : WorkerNo) (course : Course) (places : List Place) (place : Place) (sound : IsSound plan) (table : IsTable plan.table) (has : HasJobs plan course.state places) (goes : GoesBy plan course places)
    (at : slice_get places worker.0 ≡ Some place) where
  follows : Follows plan place (progress_in course.state worker) (course.refused worker.0)
  follows = goes.jobs worker.0 place at

  as_next : wants place ≡ next plan (progress_in course.state worker) (course.refused worker.0)
  as_next = wants_what_is_next plan place (progress_in course.state worker) (course.refused worker.0) sound table follows

  -- the course acts by what the job wants
  stepped : (flag : Flag) (wanted : Option Action) → wants place ≡ wanted → course_acts course worker flag wanted ≡ step plan course (worker, flag)
  stepped flag wanted is = ap (course_acts course worker flag) (sym is ∙ as_next)

  -- the state stays, and so do the flags
  stands_goes : (state' : State) (now : Place) → asked place ≡ place → Stands course.state state' place now → Goes plan state' (slice_set places worker.0 now) course
  stands_goes state' now same stands =
      let is : now ≡ place = stands.place_is ∙ same in (
        sym stands.state_is,
        record {
          true_is = goes.true_is;
          jobs = by_job (λ other p. Follows plan p (progress_in course.state (record { 0 = other })) (course.refused other)) places worker.0 place now at
              (subst (λ (p : Place). Follows plan p (progress_in course.state worker) (course.refused worker.0)) (sym is) follows)
              (λ other p apart there. goes.jobs other p there);
        },
      )

  gives_up_goes : (state' : State) (now : Place) (action : Action) → wants place ≡ Some action → GivesUp course.state state' place now action
      → Goes plan state' (slice_set places worker.0 now) (record { state = course.state; refused = change course.refused worker true })
  gives_up_goes state' now action wanted gives =
      let is : now ≡ refused place = gives.place_is ∙ ap refused (asked_refusable place action wanted gives.may) in
      let flags : ℕ → Bool = change course.refused worker true in (
        sym gives.state_is,
        record {
          true_is = goes.true_is;
          jobs = by_job (λ other p. Follows plan p (progress_in course.state (record { 0 = other })) (flags other)) places worker.0 place now at
              (subst (Follows plan now (progress_in course.state worker)) (sym (change_here course.refused worker true)) (Follows.gives_up place now (progress_in course.state worker) (course.refused worker.0) follows is))
              (λ other p apart there. subst (Follows plan p (progress_in course.state (record { 0 = other }))) (sym (change_there course.refused worker true other apart)) (goes.jobs other p there));
        },
      )

  -- ---- a play

  module _ (action : Action) (wanted : wants place ≡ Some action) (played : IsPlayed plan course.state worker place action) where
    true_after : IsTrueState plan (after course.state worker action)
    true_after = true_stays plan course.state worker (course.refused worker.0) action sound table goes.true_is (sym as_next ∙ wanted)

    true_reply : IsTrue plan (asked place) (gives course.state worker action)
    true_reply = replies_are_true plan course.state worker place action sound table goes.true_is (has.jobs worker.0 place at).lives wanted

    progress_after : progress_in (after course.state worker action) worker ≡ turn (progress_in course.state worker) played.noted.event
    progress_after =
        progress_on worker action (gives course.state worker action) (part course.state worker) (part (after course.state worker action) worker) played.noted.event played.noted.is played.moves

    -- the acting worker follows with this flag, and the others as before
    play_goes : (now : Place) (flag : Bool) → Follows plan now (turn (progress_in course.state worker) played.noted.event) flag
        → GoesBy plan (record { state = after course.state worker action; refused = change course.refused worker flag }) (slice_set places worker.0 now)
    play_goes now flag mine =
        let later : State = after course.state worker action in
        let flags : ℕ → Bool = change course.refused worker flag in
        record {
          true_is = true_after;
          jobs = by_job (λ other p. Follows plan p (progress_in later (record { 0 = other })) (flags other)) places worker.0 place now at
              (subst (λ (b : Bool). Follows plan now (progress_in later worker) b) (sym (change_here course.refused worker flag))
              (subst (λ (progress : Progress). Follows plan now progress flag) (sym progress_after) mine))
              (λ other p apart there.
              let same = ap (λ (q : Part). progress_of q.mine) (other_part course.state worker action other has.valid played.allows apart) in
              subst (λ (b : Bool). Follows plan p (progress_in later (record { 0 = other })) b) (sym (change_there course.refused worker flag other apart))
              (subst (λ (progress : Progress). Follows plan p progress (course.refused other)) (sym same) (goes.jobs other p there)));
        }

    plays_goes : (state' : State) (now : Place) → Plays plan worker course.state state' place now action → Goes plan state' (slice_set places worker.0 now) (with_play course worker Fine action)
    plays_goes state' now plays =
        let off : Bool = course.refused worker.0 in
        let mine = Follows.goes_on place now (progress_in course.state worker) off action (gives course.state worker action) (puts_of (part course.state worker)) played.noted.event follows wanted played.noted.is played.fits true_reply plays.place_is plays.is in
        (sym plays.state_is, play_goes now (not (is_done action) && off) (subst (Follows plan now (turn (progress_in course.state worker) played.noted.event)) (played.noted.off off) mine))

    breaks_off_goes : (state' : State) (now : Place) → BreaksOff plan worker course.state state' place now action → Goes plan state' (slice_set places worker.0 now) (with_play course worker WorkRefused action)
    breaks_off_goes state' now breaks =
        let off : Bool = course.refused worker.0 in (
          sym breaks.state_is,
          play_goes now true
              (Follows.breaks_off place now (progress_in course.state worker) off action (gives course.state worker action) (puts_of (part course.state worker)) played.noted.event follows wanted played.noted.is played.fits true_reply breaks.place_is),
        )

  acts_goes : (flag : Flag) (state' : State) (now : Place) (action : Action) → wants place ≡ Some action → is_ready course.state action ≡ true → Acts plan worker flag course.state state' place now action
      → Goes plan state' (slice_set places worker.0 now) (acted course worker flag action)
  acts_goes flag state' now action wanted ready = by flag
    where
      played : IsPlayed plan course.state worker place action
      played = is_played plan course.state worker place action sound table has.valid has.of_plan (has.jobs worker.0 place at) wanted ready

      by : (flag : Flag) → Acts plan worker flag course.state state' place now action → Goes plan state' (slice_set places worker.0 now) (acted course worker flag action)
      by Fine plays = subst (Goes plan state' (slice_set places worker.0 now)) (sym (plays_fine course worker action ready)) (plays_goes action wanted played state' now plays)
      by ActRefused gives = subst (Goes plan state' (slice_set places worker.0 now)) (sym (refuses course worker action ready gives.may)) (gives_up_goes state' now action wanted gives)
      by WorkRefused breaks = subst (Goes plan state' (slice_set places worker.0 now)) (sym (plays_refused course worker action ready)) (breaks_off_goes action wanted played state' now breaks)

  turn_goes : (flag : Flag) (state' : State) (now : Place) → Turns plan worker flag course.state state' place now → Goes plan state' (slice_set places worker.0 now) (step plan course (worker, flag))
  turn_goes flag state' now (ended nothing stands) =
      subst (Goes plan state' (slice_set places worker.0 now)) (stepped flag None nothing) (stands_goes state' now (asked_nothing place nothing) stands)
  turn_goes flag state' now (idles action wanted idle stands) =
      subst (Goes plan state' (slice_set places worker.0 now)) (sym (waits course worker flag action idle) ∙ stepped flag (Some action) wanted)
      (stands_goes state' now (asked_refusable place action wanted (idle_refusable course.state action idle)) stands)
  turn_goes flag state' now (acts action wanted ready acted) =
      subst (Goes plan state' (slice_set places worker.0 now)) (stepped flag (Some action) wanted) (acts_goes flag state' now action wanted ready acted)

pub turns_are_steps : TurnsAreSteps
turns_are_steps plan worker flag course state' places place place' sound table has goes at turned = turn_goes plan worker course places place sound table has goes at flag state' place' turned
