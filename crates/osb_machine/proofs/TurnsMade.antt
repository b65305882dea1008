-- What the code of a turn comes to.
use Rattle.std.proofs.Common.{◌≡◌, ℕ, inl, inr, true, false, Option, Some, None, refl, sym, ap, subst, ◌∙◌}
use Rattle.std.specs.Prelude.{◌≢◌}
use Rattle.osb_tree.specs.declared.numbers.WorkerNo.{WorkerNo}
use Rattle.osb_recipe.specs.declared.plans.Plan.{Plan}
use Rattle.osb_job.specs.declared.actions.Action.{Action}
use Rattle.osb_job.specs.declared.actions.Reply.{Reply}
use Rattle.osb_job.specs.declared.actions.Flag.{Flag}
use Rattle.osb_job.specs.declared.actions.Flag.TheVariants.{Fine, ActRefused, WorkRefused}
use Rattle.osb_job.specs.declared.places.Place.{Place}
use Rattle.osb_job.specs.declared.places.Place.TheVariants.{Outside, Gone, Fetching, Looking, Reading, Holding, Reserving, Filling, Putting, Unpinning, Dropping, Ending, Ended}
use Rattle.osb_job.specs.Jobs.{wants, asked, taken, refused, IsTaken, IsPlace}
use Rattle.osb_state.specs.States.{State, is_ready, is_refusable, gives, after}
use Rattle.osb_state.specs.Schedules.{Counts, Acted, Turned}
use Rattle.osb_state.specs.Turns.{idles, acts}

-- what was given up is given up once
pub refused_twice : (place : Place) → refused (refused place) ≡ refused place
refused_twice Outside = refl
refused_twice Gone = refl
refused_twice (Fetching task dep got) = refl
refused_twice (Looking setup) = refl
refused_twice (Reading setup key count parts) = refl
refused_twice (Holding setup key tree) = refl
refused_twice (Reserving setup key tree run) = refl
refused_twice (Filling setup key tree run parts) = refl
refused_twice (Putting setup key tree run parts) = refl
refused_twice (Unpinning task key) = refl
refused_twice (Dropping task key) = refl
refused_twice (Ending task outcome) = refl
refused_twice Ended = refl

fine≢work : Fine ≢ WorkRefused
fine≢work e = subst is_fine e tt
  where
    is_fine : Flag → Type 0
    is_fine Fine = Unit {0}
    is_fine ActRefused = ⊥
    is_fine WorkRefused = ⊥

counts_fine : (flag : Flag) (action : Action) → flag ≢ WorkRefused → (flag ≡ ActRefused → is_refusable action ≡ true → ⊥) → Counts (Some action) flag Fine
counts_fine Fine action calm sure = tt
counts_fine ActRefused action calm sure = λ may. absurd (sure refl may)
counts_fine WorkRefused action calm sure = absurd (calm refl)

counts_cut : (flag : Flag) (action : Action) → (flag ≡ ActRefused → is_refusable action ≡ true → ⊥) → Counts (Some action) flag WorkRefused
counts_cut Fine action sure = tt
counts_cut ActRefused action sure = λ may. absurd (sure refl may)
counts_cut WorkRefused action sure = λ e. fine≢work (sym e)

module _ (plan : Plan) (flag : Flag) (state state' : State) (worker worker' : WorkerNo) (action : Action) (reply : Reply) (place asking was : Place) (steps steps' : ℕ) (asks : asked place ≡ asking) (same : worker' ≡ worker) (replied : reply ≡ gives state worker' action) (left : state' ≡ after state worker' action)
    (took : IsTaken (taken plan asking reply) steps steps' was) where
  next_is : (taken plan asking reply).place ≡ (taken plan (asked place) (gives state worker action)).place
  next_is = ap (λ (p : Place). (taken plan p reply).place) (sym asks) ∙ ap (λ (r : Reply). (taken plan (asked place) r).place) (replied ∙ ap (λ (w : WorkerNo). gives state w action) same)

  state_is : state' ≡ after state worker action
  state_is = left ∙ ap (λ (w : WorkerNo). after state w action) same

  pub acted_taken : IsPlace was → flag ≢ WorkRefused → (flag ≡ ActRefused → is_refusable action ≡ true → ⊥) → Acted plan worker flag state state' place was action
  acted_taken is calm sure =
      elim took [
        | inl due ↦ record { met = Fine; counts = counts_fine flag action calm sure; acts = record { state_is = state_is; place_is = due.place_is ∙ next_is; is = is } }
        | inr cut ↦ record { met = WorkRefused; counts = counts_cut flag action sure; acts = record { state_is = state_is; place_is = cut.0 ∙ ap refused next_is } }
      ]

  pub acted_refused : (now : Place) → now ≡ refused was → (flag ≡ ActRefused → is_refusable action ≡ true → ⊥) → Acted plan worker flag state state' place now action
  acted_refused now gives_up sure =
      let at : refused was ≡ refused (taken plan asking reply).place = elim took [ inl due ↦ ap refused due.place_is | inr cut ↦ ap refused cut.0 ∙ refused_twice _ ] in
      record { met = WorkRefused; counts = counts_cut flag action sure; acts = record { state_is = state_is; place_is = gives_up ∙ at ∙ ap refused next_is } }

-- ---- a turn

counts_self : (wanted : Option Action) (flag : Flag) → Counts wanted flag flag
counts_self wanted Fine = tt
counts_self None ActRefused = tt
counts_self (Some action) ActRefused = λ may. refl
counts_self wanted WorkRefused = λ e. fine≢work (sym e)

pub turned_idle : (plan : Plan) (worker : WorkerNo) (flag : Flag) (state : State) (place place' : Place) (action : Action) → wants place ≡ Some action → is_ready state action ≡ false → place' ≡ asked place → Turned plan worker flag state state place place'
turned_idle plan worker flag state place place' action wanted idle is =
    record { met = flag; counts = counts_self (wants place) flag; turns = idles action wanted idle (record { state_is = refl; place_is = is }) }

pub turned_acted : (plan : Plan) (worker worker' : WorkerNo) (flag : Flag) (state state' : State) (place place' : Place) (action : Action) → worker' ≡ worker → wants place ≡ Some action → is_ready state action ≡ true → Acted plan worker' flag state state' place place' action
    → Turned plan worker flag state state' place place'
turned_acted plan worker worker' flag state state' place place' action same wanted ready acted =
    let mine : Acted plan worker flag state state' place place' action = subst (λ (w : WorkerNo). Acted plan w flag state state' place place' action) same acted in
    record {
      met = mine.met;
      counts = subst (λ (w : Option Action). Counts w flag mine.met) (sym wanted) mine.counts;
      turns = acts action wanted ready mine.acts;
    }
