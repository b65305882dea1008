-- One turn of a worker: what it comes to with its job.
use Rattle.std.proofs.Common.{◌≡◌, ℕ, inl, inr, Bool, true, false, List, [], ◌∷◌, ◌++◌, Option, Some, refl, sym, ap, subst, ◌∙◌}
use Rattle.std.specs.Prelude.{MatchOption}
use Rattle.osb_tree.specs.declared.numbers.WorkerNo.{WorkerNo}
use Rattle.osb_recipe.specs.Plans.{IsSound}
use Rattle.osb_recipe.specs.Tables.{IsTable}
use Rattle.osb_recipe.specs.declared.plans.Plan.{Plan}
use Rattle.osb_job.specs.Allowed.{Part}
use Rattle.osb_job.specs.declared.actions.Action.{Action}
use Rattle.osb_job.specs.declared.actions.Reply.{Reply}
use Rattle.osb_job.specs.declared.places.Place.{Place}
use Rattle.osb_job.specs.declared.places.Place.TheVariants.{Outside}
use Rattle.osb_job.specs.Jobs.{wants, asked, taken, refused, Fits, IsTaken, IsPlace}
use Rattle.osb_job.specs.Moves.{Lives}
use Rattle.osb_job.proofs.Knowing.{refused_is}
use Rattle.osb_job.proofs.Wanting.{wants_what_is_allowed}
use Rattle.osb_state.specs.States.{State, part, Allows, gives, after, is_ready, is_refusable}
use Rattle.osb_state.specs.Kept.{Valid}
use Rattle.osb_state.specs.Replies.{IsOfPlan}
use Rattle.osb_state.specs.Turns.{HasJob}
use Rattle.osb_state.proofs.Boards.{deps_stay}
use Rattle.osb_state.proofs.JobsKept.{IsPlayed, is_played}
use Rattle.osb_state.proofs.OtherParts.{part_stays}
use Rattle.osb_state.proofs.StagePlaces.{Asks}
use Rattle.osb_state.proofs.Taking.{asked_refusable, refused_asks}
use Rattle.osb_state.proofs.ValidMoves.{valid_stays}
use Rattle.osb_turn.specs.Histories.{replay, IsHistory}
use Rattle.osb_turn.specs.Seats.{state_seen, IsSeatOf, Looks, Acts}
use Rattle.osb_turn.proofs.Parts.{valid_after, history_front}
use Rattle.osb_work.specs.Works.{is_ready_for, Turn, Stays, Takes, Goes, Stile, Stool, Begins, Works, HasAsked, HasEnded}
use Rattle.osb_work.proofs.Places.{given_up_once, stays_outside}

abbrev IsHistoryOf : State → List Turn → Type 0
IsHistoryOf state turns = IsHistory gives after is_ready_for Allows state turns

-- ---- along a history

pub valid_along : (state : State) (turns : List Turn) → Valid state → IsHistoryOf state turns → Valid (replay after state turns)
valid_along state turns valid played = valid_after gives after is_ready_for Allows Valid part valid_stays part_stays state turns valid played

pub of_plan_along : (plan : Plan) (state : State) (turns : List Turn) → IsOfPlan plan state → IsOfPlan plan (replay after state turns)
of_plan_along plan state [] of_plan = of_plan
of_plan_along plan state (turn ∷ turns) of_plan =
    of_plan_along plan (after state turn.worker turn.action) turns
    (record { deps = deps_stay state.board turn.worker turn.action ∙ of_plan.deps; marked = of_plan.marked; keys = of_plan.keys })

-- ---- a course of one turn more

pub goes_more : (plan : Plan) (worker : WorkerNo) (last here next place : Place) (turns : List Turn) (action : Action) (reply : Reply) → Goes plan worker last place turns → Stays last here → wants here ≡ Some action → Takes plan here reply next
    → Goes plan worker next place (turns ++ record { worker = worker; action = action; reply = reply } ∷ [])
goes_more plan worker last here next place turns action reply Goes.stops stays wanted takes = Goes.goes_on last here next action reply [] stays wanted takes Goes.stops
goes_more plan worker last here next place turns action reply (Goes.goes_on p h p' a r ts stay want take goes) stays wanted takes =
    Goes.goes_on p h p' a r (ts ++ record { worker = worker; action = action; reply = reply } ∷ []) stay want take (goes_more plan worker last here next p' ts action reply goes stays wanted takes)

-- ---- a job by its own part

-- a job stands alike in two states in which its worker's own part is the same
pub job_alike : (plan : Plan) (state state' : State) (worker worker' : WorkerNo) (place : Place) → part state' worker ≡ part state worker → worker' ≡ worker → HasJob plan state worker.0 place → HasJob plan state' worker'.0 place
job_alike plan state state' worker worker' place same who has =
    subst (λ (w : WorkerNo). HasJob plan state' w.0 place) (sym who)
    (record { asks = has.asks; same = has.same; is = has.is; lives = subst (λ (q : Part). Lives plan worker place q) (sym same) has.lives })

-- memory is refused to its action
pub job_refused : (plan : Plan) (state : State) (worker : WorkerNo) (place place' : Place) (action : Action) → HasJob plan state worker.0 place → wants place ≡ Some action → is_refusable action ≡ true → place' ≡ refused (asked place) → HasJob plan state worker.0 place'
job_refused plan state worker place place' action has wanted may gives =
    let is : place' ≡ refused place = gives ∙ ap refused (asked_refusable place action wanted may) in
    let asks : Asks plan place' = subst (Asks plan) (sym is) (refused_asks plan place (record { can = has.asks; same = has.same })) in
    record {
      asks = asks.can;
      same = asks.same;
      is = subst IsPlace (sym is) (refused_is place);
      lives = Lives.gives_up place place' (part state worker) has.lives is;
    }

-- it takes a reply
pub job_took : (plan : Plan) (state : State) (worker : WorkerNo) (place place' : Place) (action : Action) → HasJob plan state worker.0 place → wants place ≡ Some action → IsPlayed plan state worker place action → Takes plan place (gives state worker action) place'
    → HasJob plan (after state worker action) worker.0 place'
job_took plan state worker place place' action has wanted played (inl due) =
    let asks : Asks plan place' = subst (Asks plan) (sym due.0) played.asks in
    record {
      asks = asks.can;
      same = asks.same;
      is = due.1;
      lives = Lives.goes_on place place' (part state worker) (part (after state worker action) worker) action (gives state worker action) has.lives wanted played.moves played.fits due.0 due.1;
    }
job_took plan state worker place place' action has wanted played (inr cut) =
    let next : Place = (taken plan (asked place) (gives state worker action)).place in
    let asks : Asks plan place' = subst (Asks plan) (sym cut) (refused_asks plan next played.asks) in
    record {
      asks = asks.can;
      same = asks.same;
      is = subst IsPlace (sym cut) (refused_is next);
      lives = Lives.breaks_off place place' (part state worker) (part (after state worker action) worker) action (gives state worker action) has.lives wanted played.moves played.fits cut;
    }

-- ---- a seat's turn

module _ (plan : Plan) (turnstile : Stile) (seat seat' : Stool) (place : Place) (who : seat'.worker ≡ seat.worker) (works : Works plan turnstile seat place) where
  goes_here : (last : Place) (turns : List Turn) → seat'.mine ≡ turns → Goes plan seat.worker last Outside turns → Goes plan seat'.worker last Outside seat'.mine
  goes_here last turns mine goes =
      subst (λ (w : WorkerNo). Goes plan w last Outside seat'.mine) (sym who) (subst (λ (ts : List Turn). Goes plan seat.worker last Outside ts) (sym mine) goes)

  module _ (looks : Looks after part turnstile seat seat') where
    -- it has looked, and nothing else
    pub looked_works : Works plan turnstile seat' place
    looked_works =
        record {
          has = job_alike plan (state_seen after turnstile seat) (state_seen after turnstile seat') seat.worker seat'.worker place looks.own_part who works.has;
          last = works.last;
          goes = goes_here works.last seat.mine looks.mine works.goes;
          stays = works.stays;
        }

    -- memory is refused to what the job asked for
    pub refused_works : (place' : Place) (action : Action) → wants place ≡ Some action → is_refusable action ≡ true → ((state : State) → is_ready state action ≡ true) → place' ≡ refused (asked place) → Works plan turnstile seat' place'
    refused_works place' action wanted may ready is =
        let at : works.last ≡ place = given_up_once works.last place action works.stays wanted may in
        record {
          has = job_refused plan (state_seen after turnstile seat') seat'.worker place place' action (job_alike plan (state_seen after turnstile seat) (state_seen after turnstile seat') seat.worker seat'.worker place looks.own_part who works.has) wanted may is;
          last = works.last;
          goes = goes_here works.last seat.mine looks.mine works.goes;
          stays = inr (record { action = action; wanted = ap wants at ∙ wanted; may = may; ready = ready; is = is ∙ ap (λ (p : Place). refused (asked p)) (sym at) });
        }

    -- the worker leaves, or has ended
    pub outside_ends : place ≡ Outside → HasEnded plan seat'
    outside_ends is = record { last = works.last; goes = goes_here works.last seat.mine looks.mine works.goes; away = stays_outside works.last (subst (Stays works.last) is works.stays) }

  module _ (sound : IsSound plan) (table : IsTable plan.table) (begins : Begins plan turnstile.opening) (own : IsSeatOf gives after is_ready_for Allows turnstile seat') (action : Action) (reply : Reply) (acts : Acts gives after is_ready_for part turnstile seat action reply seat') (wanted : wants place ≡ Some action) where
    abbrev at_turn : State
    at_turn = replay after turnstile.opening acts.before

    before_played : IsHistoryOf turnstile.opening acts.before
    before_played =
        history_front gives after is_ready_for Allows Valid part valid_stays part_stays turnstile.opening acts.before (record { worker = seat.worker; action = action; reply = reply } ∷ [])
        (subst (IsHistoryOf turnstile.opening) acts.seen own.seen)

    has_turn : HasJob plan at_turn seat.worker.0 place
    has_turn = job_alike plan (state_seen after turnstile seat) at_turn seat.worker seat.worker place acts.own_part refl works.has

    played_turn : IsPlayed plan at_turn seat.worker place action
    played_turn =
        is_played plan at_turn seat.worker place action sound table (valid_along turnstile.opening acts.before begins.valid before_played) (of_plan_along plan turnstile.opening acts.before begins.of_plan) has_turn wanted acts.ready

    module _ (asking : Place) (is : asking ≡ asked place) where
      -- the reply fits
      pub played_fits : Fits plan asking reply
      played_fits = subst (λ (p : Place). Fits plan p reply) (sym is) (subst (Fits plan (asked place)) (sym acts.replies) played_turn.fits)

      -- it is taken
      pub played_works : (steps steps' : ℕ) (place' : Place) → IsTaken (taken plan asking reply) steps steps' place' → IsPlace place' → Works plan turnstile seat' place'
      played_works steps steps' place' taken_so is' =
          let took : IsTaken (taken plan (asked place) reply) steps steps' place' = subst (λ (p : Place). IsTaken (taken plan p reply) steps steps' place') is taken_so in
          let takes : Takes plan place reply place' = elim took [ inl due ↦ inl (due.place_is, is') | inr cut ↦ inr cut.0 ] in
          let told : Takes plan place (gives at_turn seat.worker action) place' = subst (λ (r : Reply). Takes plan place r place') acts.replies takes in
          let has : HasJob plan (after at_turn seat.worker action) seat.worker.0 place' = job_took plan at_turn seat.worker place place' action has_turn wanted played_turn told in
          let here : HasJob plan (state_seen after turnstile seat') seat.worker.0 place' = subst (λ (s : State). HasJob plan s seat.worker.0 place') (sym acts.plays) has in
          record {
            has = subst (λ (w : WorkerNo). HasJob plan (state_seen after turnstile seat') w.0 place') (sym who) here;
            last = place';
            goes = goes_here place' (seat.mine ++ record { worker = seat.worker; action = action; reply = reply } ∷ []) acts.mine (goes_more plan seat.worker works.last place place' Outside seat.mine action reply works.goes works.stays wanted takes);
            stays = inl refl;
          }

-- what a job that has asked may do
pub asks_allowed : (plan : Plan) (turnstile : Stile) (seat : Stool) (place : Place) (action : Action) → IsSound plan → IsTable plan.table → Works plan turnstile seat place → wants place ≡ Some action → Allows (state_seen after turnstile seat) seat.worker action
asks_allowed plan turnstile seat place action sound table works wanted = wants_what_is_allowed plan seat.worker place (part (state_seen after turnstile seat) seat.worker) action sound table works.has.lives wanted

-- ---- the beginning

pub begins_works : (plan : Plan) (turnstile : Stile) (seat : Stool) (place : Place) → Begins plan turnstile.opening → seat.seen ≡ [] → seat.mine ≡ [] → place ≡ Outside → Works plan turnstile seat place
begins_works plan turnstile seat place begins seen mine outside =
    let has : HasJob plan (state_seen after turnstile seat) seat.worker.0 Outside =
    subst (λ (ts : List Turn). HasJob plan (replay after turnstile.opening ts) seat.worker.0 Outside) (sym seen) (begins.jobs seat.worker.0) in
    record {
      has = subst (HasJob plan (state_seen after turnstile seat) seat.worker.0) (sym outside) has;
      last = Outside;
      goes = subst (λ (ts : List Turn). Goes plan seat.worker Outside Outside ts) (sym mine) Goes.stops;
      stays = inl outside;
    }

-- ---- a job that has asked

refusable_of : (action : Action) (b : Bool) → is_refusable action ≡ b → (is_refusable action ≡ false → false ≡ true) → is_refusable action ≡ true
refusable_of action true is may = is
refusable_of action false is may = is ∙ may is

-- memory is refused to it
pub asked_refused : (plan : Plan) (turnstile : Stile) (seat seat' : Stool) (action : Action) (place place' : Place) → seat'.worker ≡ seat.worker → HasAsked plan turnstile seat action place → Looks after part turnstile seat seat' → (is_refusable action ≡ false → false ≡ true) → place' ≡ refused place
    → Works plan turnstile seat' place'
asked_refused plan turnstile seat seat' action place place' who asks looks may is =
    refused_works plan turnstile seat seat' asks.before who asks.works looks place' action asks.wanted (refusable_of action (is_refusable action) refl may) asks.ready (is ∙ ap refused asks.is)

-- what an answer that is a reply tells
pub acts_of : (turnstile : Stile) (seat seat' : Stool) (action : Action) (answer : Option Reply) (reply : Reply) → answer ≡ Some reply
    → MatchOption answer (Looks after part turnstile seat seat') (λ told. Acts gives after is_ready_for part turnstile seat action told seat') → Acts gives after is_ready_for part turnstile seat action reply seat'
acts_of turnstile seat seat' action answer reply is told =
    subst (λ (a : Option Reply). MatchOption a (Looks after part turnstile seat seat') (λ r. Acts gives after is_ready_for part turnstile seat action r seat')) is told
