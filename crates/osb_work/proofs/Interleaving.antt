-- The courses of the workers along one history are the turns of a machine, one after the other.
use Rattle.std.proofs.Common.{◌≡◌, ℕ, zero, suc, ◌<◌, inl, inr, Bool, true, cond, List, [], ◌∷◌, length, get_or, All, Some, slice_set, refl, sym, ap, subst, ◌∙◌, arith, eq-eqb, ne_eqb}
use Rattle.std.specs.Prelude.{slice_get}
use Rattle.std.proofs.lemmas.Option.{slice_get-get_or}
use Rattle.std.proofs.lemmas.List.{length-set}
use Rattle.std.proofs.lemmas.List.Elements.{All-nil, All-cons, All-head, All-tail}
use Rattle.osb_tree.specs.declared.numbers.WorkerNo.{WorkerNo}
use Rattle.osb_recipe.specs.declared.plans.Plan.{Plan}
use Rattle.osb_job.specs.declared.actions.Flag.{Flag}
use Rattle.osb_job.specs.declared.actions.Flag.TheVariants.{Fine, ActRefused, WorkRefused}
use Rattle.osb_job.specs.declared.places.Place.{Place}
use Rattle.osb_job.specs.declared.places.Place.TheVariants.{Outside}
use Rattle.osb_job.specs.Jobs.{wants}
use Rattle.osb_state.specs.States.{State, Allows, gives, after}
use Rattle.osb_state.specs.Turns.{Turns}
use Rattle.osb_state.specs.Schedules.{Turned, Runs}
use Rattle.osb_state.proofs.JobsKept.{by_job}
use Rattle.osb_turn.specs.Histories.{own, replay, IsHistory}
use Rattle.osb_work.specs.Works.{is_ready_for, Turn, IsGivenUp, Stays, Takes, Goes, IsAway}

pub record HasCourse (plan : Plan) (number : ℕ) (place : Place) (turns : List Turn) : Type 0 where
  pub last : Place
  pub goes : Goes plan (record { 0 = number }) last place turns
  pub away : IsAway last

-- each worker's own turns of a history take its job from where it is to where it is away
abbrev pub HaveCourses : Plan → List Place → List Turn → Type 0
HaveCourses plan places turns = (number : ℕ) (place : Place) → slice_get places number ≡ Some place → HasCourse plan number place (own number turns)

-- a schedule of so many workers leads from a state with these jobs to another one, where all are away
pub record AreRun (plan : Plan) (state end : State) (places : List Place) (workers : ℕ) : Type 0 where
  pub schedule : List (WorkerNo × Flag)
  pub ends : List Place
  pub runs : Runs plan end ends state places schedule
  pub within : All (λ turn. turn.0.0 < workers) schedule
  pub away : (number : ℕ) (place : Place) → slice_get ends number ≡ Some place → IsAway place

-- ---- the first turn of a course

stopped_course : (plan : Plan) (worker : WorkerNo) (last place : Place) (turns : List Turn) → turns ≡ [] → Goes plan worker last place turns → IsAway last → IsAway place
stopped_course plan worker last place turns none Goes.stops away = away
stopped_course plan worker last place turns none (Goes.goes_on p h p' a r ts stays wanted takes goes) away = absurd (cc)

record GoesFirst (plan : Plan) (worker : WorkerNo) (last place : Place) (turn : Turn) (turns : List Turn) : Type 0 where
  here : Place
  next : Place
  stays : Stays place here
  wanted : wants here ≡ Some turn.action
  takes : Takes plan here turn.reply next
  goes : Goes plan worker last next turns

first_turn : (plan : Plan) (worker : WorkerNo) (last place : Place) (all : List Turn) (turn : Turn) (turns : List Turn) → all ≡ turn ∷ turns → Goes plan worker last place all → GoesFirst plan worker last place turn turns
first_turn plan worker last place all turn turns same Goes.stops = absurd (cc)
first_turn plan worker last place all turn turns same (Goes.goes_on p h p' a r ts stays wanted takes goes) =
    let this : Turn = record { worker = worker; action = a; reply = r } in
    let head : this ≡ turn = cc in
    let tail : ts ≡ turns = cc in
    record {
      here = h;
      next = p';
      stays = stays;
      wanted = wanted ∙ ap (λ (t : Turn). Some t.action) head;
      takes = subst (λ (t : Turn). Takes plan h t.reply p') head takes;
      goes = subst (Goes plan worker last p') tail goes;
    }

-- ---- lists of places

set_here : (places : List Place) (number : ℕ) (place : Place) → number < length places → slice_get (slice_set places number place) number ≡ Some place
set_here [] number place within = absurd (omega arith)
set_here (first ∷ places) zero place within = refl
set_here (first ∷ places) (suc number) place within = set_here places number place (omega arith)

set_twice : (places : List Place) (number : ℕ) (place other : Place) → slice_set (slice_set places number other) number place ≡ slice_set places number place
set_twice [] number place other = refl
set_twice (first ∷ places) zero place other = refl
set_twice (first ∷ places) (suc number) place other = ap (λ (ps : List Place). first ∷ ps) (set_twice places number place other)

-- ---- one turn

turned_given : (plan : Plan) (worker : WorkerNo) (state : State) (place place' : Place) → IsGivenUp place place' → Turned plan worker Fine state state place place'
turned_given plan worker state place place' given =
    record { met = ActRefused; counts = tt; turns = Turns.acts given.action given.wanted (given.ready state) (record { may = given.may; state_is = refl; place_is = given.is }) }

turned_taken : (plan : Plan) (state : State) (turn : Turn) (place place' : Place) → wants place ≡ Some turn.action → is_ready_for state turn.worker turn.action ≡ true → Takes plan place (gives state turn.worker turn.action) place'
    → Turned plan turn.worker Fine state (after state turn.worker turn.action) place place'
turned_taken plan state turn place place' wanted ready (inl due) =
    record { met = Fine; counts = tt; turns = Turns.acts turn.action wanted ready (record { state_is = refl; place_is = due.0; is = due.1 }) }
turned_taken plan state turn place place' wanted ready (inr cut) =
    record { met = WorkRefused; counts = tt; turns = Turns.acts turn.action wanted ready (record { state_is = refl; place_is = cut }) }

own_here : (turn : Turn) (turns : List Turn) → own turn.worker.0 (turn ∷ turns) ≡ turn ∷ own turn.worker.0 turns
own_here turn turns = ap (λ (b : Bool). cond b (turn ∷ own turn.worker.0 turns) (own turn.worker.0 turns)) (eq-eqb turn.worker.0 turn.worker.0 refl)

own_there : (number : ℕ) (turn : Turn) (turns : List Turn) → (turn.worker.0 ≡ number → ⊥) → own number (turn ∷ turns) ≡ own number turns
own_there number turn turns other = ap (λ (b : Bool). cond b (turn ∷ own number turns) (own number turns)) (ne_eqb turn.worker.0 number other)

-- the job of the turn's worker is first where it stays, and then where it goes
module _ (plan : Plan) (state end : State) (places : List Place) (turn : Turn) (place here next : Place) (within : turn.worker.0 < length places) (at : slice_get places turn.worker.0 ≡ Some place)
    (turned : Turned plan turn.worker Fine state (after state turn.worker turn.action) here next) where
  run_more : (count : ℕ) → Stays place here → turn.worker.0 < count → AreRun plan (after state turn.worker turn.action) end (slice_set places turn.worker.0 next) count → AreRun plan state end places count
  run_more count (inl same) few rest =
      record {
        schedule = (turn.worker, Fine) ∷ rest.schedule;
        ends = rest.ends;
        runs = Runs.goes_on state (after state turn.worker turn.action) places place next turn.worker Fine rest.schedule at
            (subst (λ (p : Place). Turned plan turn.worker Fine state (after state turn.worker turn.action) p next) same turned) rest.runs;
        within = All-cons (λ (t : WorkerNo × Flag). t.0.0 < count) (turn.worker, Fine) rest.schedule few rest.within;
        away = rest.away;
      }
  run_more count (inr given) few rest =
      let stayed : List Place = slice_set places turn.worker.0 here in
      record {
        schedule = (turn.worker, Fine) ∷ (turn.worker, Fine) ∷ rest.schedule;
        ends = rest.ends;
        runs = Runs.goes_on state state places place here turn.worker Fine ((turn.worker, Fine) ∷ rest.schedule) at (turned_given plan turn.worker state place here given)
            (Runs.goes_on state (after state turn.worker turn.action) stayed here next turn.worker Fine rest.schedule (set_here places turn.worker.0 here within) turned
            (subst (λ (ps : List Place). Runs plan end rest.ends (after state turn.worker turn.action) ps rest.schedule) (sym (set_twice places turn.worker.0 next here)) rest.runs));
        within = All-cons (λ (t : WorkerNo × Flag). t.0.0 < count) (turn.worker, Fine) ((turn.worker, Fine) ∷ rest.schedule) few
            (All-cons (λ (t : WorkerNo × Flag). t.0.0 < count) (turn.worker, Fine) rest.schedule few rest.within);
        away = rest.away;
      }

-- ---- the whole history

pub are_run : (plan : Plan) (state : State) (turns : List Turn) (places : List Place) (count : ℕ) → length places ≡ count → IsHistory gives after is_ready_for Allows state turns → All (λ turn. turn.worker.0 < count) turns → HaveCourses plan places turns
    → AreRun plan state (replay after state turns) places count
are_run plan state [] places count long played known courses =
    record {
      schedule = [];
      ends = places;
      runs = Runs.stops;
      within = All-nil (λ (t : WorkerNo × Flag). t.0.0 < count);
      away = λ number place at.
          let course = courses number place at in
          stopped_course plan (record { 0 = number }) course.last place [] refl course.goes course.away;
    }
are_run plan state (turn ∷ turns) places count long played known courses =
    let number : ℕ = turn.worker.0 in
    let few : number < count = All-head (λ (t : Turn). t.worker.0 < count) turn turns known in
    let within : number < length places = subst (λ (n : ℕ). number < n) (sym long) few in
    let place : Place = get_or places number Outside in
    let at : slice_get places number ≡ Some place = slice_get-get_or places number Outside within in
    let course : HasCourse plan number place (own number (turn ∷ turns)) = courses number place at in
    let first = first_turn plan turn.worker course.last place (own number (turn ∷ turns)) turn (own number turns) (own_here turn turns) course.goes in
    let turned = turned_taken plan state turn first.here first.next first.wanted played.1 (subst (λ r. Takes plan first.here r first.next) played.2 first.takes) in
    let mine : HasCourse plan number first.next (own number turns) = record { last = course.last; goes = first.goes; away = course.away } in
    let later : HaveCourses plan (slice_set places number first.next) turns =
    by_job (λ (n : ℕ) (p : Place). HasCourse plan n p (own n turns)) places number place first.next at mine
    (λ other p apart is. subst (HasCourse plan other p) (own_there other turn turns apart) (courses other p is)) in
    run_more plan state (replay after (after state turn.worker turn.action) turns) places turn place first.here first.next within at turned count first.stays few
    (are_run plan (after state turn.worker turn.action) turns (slice_set places number first.next) count (length-set places number first.next ∙ long) played.3 (All-tail (λ (t : Turn). t.worker.0 < count) turn turns known) later)
