-- What a turn keeps, over every opening.
use Rattle.std.proofs.Common.{◌≡◌, ℕ, ⊎_elim, List, [], ◌∷◌, Some, zero, suc, slice_set, refl, sym, ap, subst, ◌∙◌}
use Rattle.std.specs.Prelude.{slice_get, true}
use Rattle.std.proofs.lemmas.Bool.{cases_eq}
use Rattle.std.proofs.lemmas.Option.{none-some, same_Some}
use Rattle.osb_tree.specs.declared.numbers.WorkerNo.{WorkerNo}
use Rattle.osb_recipe.specs.Plans.{IsSound}
use Rattle.osb_recipe.specs.Tables.{IsTable}
use Rattle.osb_recipe.specs.declared.plans.Plan.{Plan}
use Rattle.osb_job.specs.declared.actions.Action.{Action}
use Rattle.osb_job.specs.declared.actions.Flag.{Flag}
use Rattle.osb_job.specs.declared.actions.Flag.TheVariants.{Fine, ActRefused, WorkRefused}
use Rattle.osb_job.specs.declared.places.Place.{Place}
use Rattle.osb_job.specs.Allowed.{Part}
use Rattle.osb_job.specs.Jobs.{wants, asked, taken, refused, Fits, IsPlace}
use Rattle.osb_job.specs.Moves.{Lives, Moves, puts_of}
use Rattle.osb_job.proofs.Knowing.{refused_is}
use Rattle.osb_job.proofs.Wanting.{wants_what_is_allowed}
use Rattle.osb_state.specs.States.{State, part, Allows, is_ready, gives, after}
use Rattle.osb_state.specs.Kept.{Valid}
use Rattle.osb_state.specs.Replies.{IsOfPlan}
use Rattle.osb_state.specs.Turns.{Stands, GivesUp, Plays, BreaksOff, Acts, ended, idles, acts, HasJob, HasJobs}
use Rattle.osb_state.specs.TurnLaws.{JobsStay}
use Rattle.osb_state.proofs.Boards.{deps_stay}
use Rattle.osb_state.proofs.Noting.{IsNoted, noted, idle_refusable}
use Rattle.osb_state.proofs.OtherParts.{part_stays}
use Rattle.osb_state.proofs.OwnParts.{own_moves}
use Rattle.osb_state.proofs.FittingReplies.{replies_fit}
use Rattle.osb_state.proofs.StagePlaces.{Asks}
use Rattle.osb_state.proofs.Taking.{asked_of, asked_refusable, asked_nothing, refused_asks, taken_asks}
use Rattle.osb_state.proofs.ValidMoves.{valid_stays}

-- ---- one job of the list is another one

set_here : (places : List Place) (number : ℕ) (place was : Place) → slice_get places number ≡ Some was → slice_get (slice_set places number place) number ≡ Some place
set_here [] number place was at = absurd (none-some was at)
set_here (first ∷ places) zero place was at = refl
set_here (first ∷ places) (suc number) place was at = set_here places number place was at

set_there : (places : List Place) (number other : ℕ) (place : Place) → (number ≡ other → ⊥) → slice_get (slice_set places number place) other ≡ slice_get places other
set_there [] number other place apart = refl
set_there (first ∷ places) zero zero place apart = absurd (apart refl)
set_there (first ∷ places) zero (suc other) place apart = refl
set_there (first ∷ places) (suc number) zero place apart = refl
set_there (first ∷ places) (suc number) (suc other) place apart = set_there places number other place (λ same. apart (ap suc same))

-- a fact of each job, from that of this one and that of the others
pub by_job : (P : ℕ → Place → Type 0) (places : List Place) (number : ℕ) (was now : Place) → slice_get places number ≡ Some was → P number now
    → ((other : ℕ) (place : Place) → (number ≡ other → ⊥) → slice_get places other ≡ Some place → P other place) → (other : ℕ) (place : Place) → slice_get (slice_set places number now) other ≡ Some place → P other place
by_job P places number was now at mine others other place is =
    ⊎_elim
    (λ (same : number ≡ other). subst (λ (n : ℕ). P n place) same (subst (P number) (same_Some now place (sym (set_here places number now was at) ∙ (ap (slice_get (slice_set places number now)) same ∙ is))) mine))
    (λ (apart : number ≡ other → ⊥). others other place apart (sym (set_there places number other now apart) ∙ is))
    (cases_eq number other)

-- ---- a play

-- what holds of a play of what a job wants
pub record IsPlayed (plan : Plan) (state : State) (worker : WorkerNo) (place : Place) (action : Action) : Type 0 where
  pub noted : IsNoted (puts_of (part state worker)) action (gives state worker action)
  pub allows : Allows state worker action
  pub fits : Fits plan (asked place) (gives state worker action)
  pub moves : Moves worker action (gives state worker action) (part state worker) (part (after state worker action) worker)
  pub asks : Asks plan (taken plan (asked place) (gives state worker action)).place

pub is_played : (plan : Plan) (state : State) (worker : WorkerNo) (place : Place) (action : Action) → IsSound plan → IsTable plan.table → Valid state → IsOfPlan plan state → HasJob plan state worker.0 place → wants place ≡ Some action → is_ready state action ≡ true
    → IsPlayed plan state worker place action
is_played plan state worker place action sound table valid of_plan has wanted ready =
    let entry = noted (puts_of (part state worker)) state worker action ready in
    let allows : Allows state worker action = wants_what_is_allowed plan worker place (part state worker) action sound table has.lives wanted in
    let fits = replies_fit plan state worker place action sound table valid of_plan has.lives wanted in
    record {
      noted = entry;
      allows = allows;
      fits = fits;
      moves = own_moves state worker action entry.event valid allows entry.is;
      asks = taken_asks plan (asked place) (gives state worker action) (asked_of plan place has.same) fits;
    }

pub other_part : (state : State) (worker : WorkerNo) (action : Action) (other : ℕ) → Valid state → Allows state worker action → (worker.0 ≡ other → ⊥) → part (after state worker action) (record { 0 = other }) ≡ part state (record { 0 = other })
other_part state worker action other valid allows apart = part_stays state worker (record { 0 = other }) action valid allows (λ same. apart (sym (ap (λ (w : WorkerNo). w.0) same)))

of_plan_stays : (plan : Plan) (state : State) (worker : WorkerNo) (action : Action) → IsOfPlan plan state → IsOfPlan plan (after state worker action)
of_plan_stays plan state worker action of_plan = record { deps = deps_stay state.board worker action ∙ of_plan.deps; marked = of_plan.marked; keys = of_plan.keys }

module _ (plan : Plan) (worker : WorkerNo) (state : State) (places : List Place) (place : Place) (has : HasJobs plan state places) (at : slice_get places worker.0 ≡ Some place) where
  -- the state stays, and the job is another one
  still_has : (now : Place) → HasJob plan state worker.0 now → HasJobs plan state (slice_set places worker.0 now)
  still_has now mine =
      record {
        valid = has.valid;
        of_plan = has.of_plan;
        jobs = by_job (HasJob plan state) places worker.0 place now at mine (λ other p apart is. has.jobs other p is);
      }

  -- an action is played
  now_has : (action : Action) (now : Place) → Allows state worker action → HasJob plan (after state worker action) worker.0 now → HasJobs plan (after state worker action) (slice_set places worker.0 now)
  now_has action now allows mine =
      record {
        valid = valid_stays state worker action has.valid allows;
        of_plan = of_plan_stays plan state worker action has.of_plan;
        jobs = by_job (HasJob plan (after state worker action)) places worker.0 place now at mine (λ other p apart is.
            let its = has.jobs other p is in
            record {
              asks = its.asks;
              same = its.same;
              is = its.is;
              lives = subst (λ (q : Part). Lives plan (record { 0 = other }) p q) (sym (other_part state worker action other has.valid allows apart)) its.lives;
            });
      }

  stands_has : (state' : State) (now : Place) → asked place ≡ place → Stands state state' place now → HasJobs plan state' (slice_set places worker.0 now)
  stands_has state' now same stands =
      subst (λ (s : State). HasJobs plan s (slice_set places worker.0 now)) (sym stands.state_is)
      (still_has now (subst (HasJob plan state worker.0) (sym (stands.place_is ∙ same)) (has.jobs worker.0 place at)))

  gives_up_has : (state' : State) (now : Place) (action : Action) → wants place ≡ Some action → GivesUp state state' place now action → HasJobs plan state' (slice_set places worker.0 now)
  gives_up_has state' now action wanted gives =
      let mine = has.jobs worker.0 place at in
      let is : now ≡ refused place = gives.place_is ∙ ap refused (asked_refusable place action wanted gives.may) in
      let asks : Asks plan now = subst (Asks plan) (sym is) (refused_asks plan place (record { can = mine.asks; same = mine.same })) in
      subst (λ (s : State). HasJobs plan s (slice_set places worker.0 now)) (sym gives.state_is)
      (still_has now (record {
        asks = asks.can;
        same = asks.same;
        is = subst IsPlace (sym is) (refused_is place);
        lives = Lives.gives_up place now (part state worker) mine.lives is;
      }))

  module _ (sound : IsSound plan) (table : IsTable plan.table) where
    plays_has : (state' : State) (now : Place) (action : Action) → wants place ≡ Some action → is_ready state action ≡ true → Plays plan worker state state' place now action → HasJobs plan state' (slice_set places worker.0 now)
    plays_has state' now action wanted ready plays =
        let mine = has.jobs worker.0 place at in
        let played = is_played plan state worker place action sound table has.valid has.of_plan mine wanted ready in
        let asks : Asks plan now = subst (Asks plan) (sym plays.place_is) played.asks in
        subst (λ (s : State). HasJobs plan s (slice_set places worker.0 now)) (sym plays.state_is)
        (now_has action now played.allows (record {
          asks = asks.can;
          same = asks.same;
          is = plays.is;
          lives = Lives.goes_on place now (part state worker) (part (after state worker action) worker) action (gives state worker action) mine.lives wanted played.moves played.fits plays.place_is plays.is;
        }))

    breaks_off_has : (state' : State) (now : Place) (action : Action) → wants place ≡ Some action → is_ready state action ≡ true → BreaksOff plan worker state state' place now action → HasJobs plan state' (slice_set places worker.0 now)
    breaks_off_has state' now action wanted ready breaks =
        let mine = has.jobs worker.0 place at in
        let played = is_played plan state worker place action sound table has.valid has.of_plan mine wanted ready in
        let next : Place = (taken plan (asked place) (gives state worker action)).place in
        let asks : Asks plan now = subst (Asks plan) (sym breaks.place_is) (refused_asks plan next played.asks) in
        subst (λ (s : State). HasJobs plan s (slice_set places worker.0 now)) (sym breaks.state_is)
        (now_has action now played.allows (record {
          asks = asks.can;
          same = asks.same;
          is = subst IsPlace (sym breaks.place_is) (refused_is next);
          lives = Lives.breaks_off place now (part state worker) (part (after state worker action) worker) action (gives state worker action) mine.lives wanted played.moves played.fits breaks.place_is;
        }))

    acts_has : (flag : Flag) (state' : State) (now : Place) (action : Action) → wants place ≡ Some action → is_ready state action ≡ true → Acts plan worker flag state state' place now action → HasJobs plan state' (slice_set places worker.0 now)
    acts_has Fine state' now action wanted ready acted = plays_has state' now action wanted ready acted
    acts_has ActRefused state' now action wanted ready acted = gives_up_has state' now action wanted acted
    acts_has WorkRefused state' now action wanted ready acted = breaks_off_has state' now action wanted ready acted

pub jobs_stay : JobsStay
jobs_stay plan worker flag state state' places place place' sound table has at (ended nothing stands) =
    stands_has plan worker state places place has at state' place' (asked_nothing place nothing) stands
jobs_stay plan worker flag state state' places place place' sound table has at (idles action wanted idle stands) =
    stands_has plan worker state places place has at state' place' (asked_refusable place action wanted (idle_refusable state action idle)) stands
jobs_stay plan worker flag state state' places place place' sound table has at (acts action wanted ready acted) =
    acts_has plan worker state places place has at sound table flag state' place' action wanted ready acted
