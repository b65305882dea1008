-- How many stages the turns of one worker have run.
use Rattle.std.proofs.Common.{◌≡◌, ℕ, ◌+◌, ◌≤◌, ◌&&◌, Bool, true, false, not, List, [], ◌∷◌, ◌++◌, Option, Some, refl, sym, ap, subst, ◌∙◌, arith}
use Rattle.std.specs.List.{fold}
use Rattle.std.specs.Option.{option_map_or}
use Rattle.std.proofs.lemmas.Bool.{false≢true}
use Rattle.osb_recipe.specs.Plans.{IsSound}
use Rattle.osb_recipe.specs.Tables.{IsTable}
use Rattle.osb_recipe.specs.declared.plans.Plan.{Plan}
use Rattle.osb_job.specs.declared.actions.Action.{Action}
use Rattle.osb_job.specs.declared.actions.Flag.{Flag}
use Rattle.osb_job.specs.declared.actions.Flag.TheVariants.{Fine, ActRefused, WorkRefused}
use Rattle.osb_job.specs.declared.actions.Reply.{Reply}
use Rattle.osb_job.specs.declared.actions.Reply.TheVariants as replies
use Rattle.osb_job.specs.declared.entries.Entry.{Entry}
use Rattle.osb_job.specs.declared.entries.Event.{Event}
use Rattle.osb_job.specs.declared.entries.Event.TheVariants as events
use Rattle.osb_job.specs.declared.places.Place.{Place}
use Rattle.osb_job.specs.declared.places.Place.TheVariants.{Filling, Ending, Ended}
use Rattle.osb_job.specs.Scripts.{Progress, idle, busy, over, turn, progress_of}
use Rattle.osb_job.specs.Jobs.{wants, asked, taken, refused}
use Rattle.osb_job.specs.Moves.{Follows, puts_of, refused_after}
use Rattle.osb_job.proofs.Blocks.{progress_on}
use Rattle.osb_state.specs.States.{State, own, progress_in, part, is_ready, gives, after}
use Rattle.osb_state.specs.Runs.{is_done}
use Rattle.osb_state.specs.Serial.{first_worker, stages_due, RunsStages}
use Rattle.osb_state.specs.Spent.{Spends, stages_ended, stages_run, since, IsSpent, BlocksAreSpent}
use Rattle.osb_state.specs.Truth.{IsTrueState}
use Rattle.osb_state.specs.Turns.{Stands, GivesUp, Plays, BreaksOff, Acts, Turns, ended, idles, acts, HasJobs}
use Rattle.osb_state.proofs.Entries.{entries, own-same}
use Rattle.osb_state.proofs.JobsKept.{IsPlayed, is_played}
use Rattle.osb_state.proofs.Noting.{idle_refusable}
use Rattle.osb_state.proofs.Taking.{asked_refusable, asked_nothing}
use Rattle.osb_state.proofs.TrueReplies.{replies_are_true}

-- all entries are the first worker's, whose job has run no more stages than its ended blocks have, with those of the one
-- that it is in
pub record HasRun (plan : Plan) (state : State) (place : Place) (steps : ℕ) : Type 0 where
  pub off : Bool
  pub spent : ℕ
  pub spends : Spends plan place (progress_in state first_worker) off spent
  pub most : steps ≤ stages_run plan idle state.log + spent
  pub alone : own 0 state.log ≡ state.log

-- what a job has run aside, it follows the script
pub spends_follows : (plan : Plan) (place : Place) (progress : Progress) (off : Bool) (steps : ℕ) → Spends plan place progress off steps → Follows plan place progress off
spends_follows plan place progress off steps Spends.begins = Follows.begins
spends_follows plan place progress off steps (Spends.goes_on before now from was action reply puts event run spends wanted made fits true_so comes_to is_place) =
    Follows.goes_on before now from was action reply puts event (spends_follows plan before from was run spends) wanted made fits true_so comes_to is_place
spends_follows plan place progress off steps (Spends.gives_up before now from was run spends comes_to) =
    Follows.gives_up before now from was (spends_follows plan before from was run spends) comes_to
spends_follows plan place progress off steps (Spends.breaks_off before now from was action reply puts event run spends wanted made fits true_so comes_to) =
    Follows.breaks_off before now from was action reply puts event (spends_follows plan before from was run spends) wanted made fits true_so comes_to

-- ---- one entry more

stages_push : (plan : Plan) (progress : Progress) (log : List Entry) (entry : Entry) → stages_run plan progress (log ++ entry ∷ []) ≡ stages_run plan progress log + stages_ended plan (fold (λ at entry. turn at entry.event) progress log) entry.event
stages_push plan progress [] entry = omega arith
stages_push plan progress (first ∷ log) entry = omega (arith, stages_push plan (turn progress first.event) log entry)

-- a block ends with no more stages than it has
ends_within : (plan : Plan) (progress : Progress) (event : Event) (spent due : ℕ) → IsSpent plan progress spent → (refused_after event true ≡ false → due ≡ 0) → spent + due ≤ stages_ended plan progress event + since event (spent + due)
ends_within plan idle (events.Done task word) spent due is still = omega (arith, is, still refl)
ends_within plan (busy block) (events.Done task word) spent due is still = omega (arith, is, still refl)
ends_within plan over (events.Done task word) spent due is still = omega (arith, is, still refl)
ends_within plan progress event spent due is still = omega arith

-- ---- the last action of a block runs no stage

is_last : (done : Bool) → (not done && true) ≡ false → done ≡ true
is_last true is = refl
is_last false is = sym is

ended_still : (plan : Plan) (reply : Reply) → (taken plan Ended reply).steps ≡ 0
ended_still plan replies.Plain = refl
ended_still plan reply = refl

last_still : (plan : Plan) (place : Place) (reply : Reply) → option_map_or is_done (wants place) false ≡ true → (taken plan (asked place) reply).steps ≡ 0
last_still plan (Filling setup key tree run (chunk ∷ chunks)) reply is = absurd (false≢true is)
last_still plan (Ending task outcome) reply is = ended_still plan reply
last_still plan place reply is = absurd (false≢true is)

-- ---- one turn

module _ (plan : Plan) (state : State) (place : Place) (steps : ℕ) (was : HasRun plan state place steps) where
  stands_run : (state' : State) (place' : Place) (steps' : ℕ) → asked place ≡ place → Stands state state' place place' → RunsStages plan first_worker state state' place steps steps' → HasRun plan state' place' steps'
  stands_run state' place' steps' same stands stages =
      subst (λ (s : State). HasRun plan s place' steps') (sym stands.state_is)
      (subst (λ (p : Place). HasRun plan state p steps') (sym (stands.place_is ∙ same)) (subst (HasRun plan state place) (sym (stages.none (ap (λ (s : State). s.log) stands.state_is))) was))

  gives_up_run : (state' : State) (place' : Place) (steps' : ℕ) (action : Action) → wants place ≡ Some action → GivesUp state state' place place' action → RunsStages plan first_worker state state' place steps steps' → HasRun plan state' place' steps'
  gives_up_run state' place' steps' action wanted gives stages =
      let is : place' ≡ refused place = gives.place_is ∙ ap refused (asked_refusable place action wanted gives.may) in
      let same : steps' ≡ steps = stages.none (ap (λ (s : State). s.log) gives.state_is) in
      subst (λ (s : State). HasRun plan s place' steps') (sym gives.state_is)
      (record {
        off = true;
        spent = was.spent;
        spends = Spends.gives_up place place' (progress_in state first_worker) was.off was.spent was.spends is;
        most = omega (arith, was.most, same);
        alone = was.alone;
      })

  -- an action is played, behind whose reply so many stages are due
  module _ (sound : IsSound plan) (table : IsTable plan.table) (blocks : BlocksAreSpent) (action : Action) (wanted : wants place ≡ Some action) (played : IsPlayed plan state first_worker place action) where
    abbrev due : ℕ
    due = (taken plan (asked place) (gives state first_worker action)).steps

    due_is : stages_due plan first_worker state place ≡ due
    due_is = ap (λ (o : Option Action). option_map_or (λ action. (taken plan (asked place) (gives state first_worker action)).steps) o 0) wanted

    due_last : refused_after played.noted.event true ≡ false → due ≡ 0
    due_last ends =
        let last : is_done action ≡ true = is_last (is_done action) (sym (played.noted.off true) ∙ ends) in
        last_still plan place (gives state first_worker action) (ap (λ (o : Option Action). option_map_or is_done o false) wanted ∙ last)

    log_after : (after state first_worker action).log ≡ state.log ++ entries first_worker (Some played.noted.event)
    log_after = ap (λ (o : Option Event). state.log ++ entries first_worker o) played.noted.is

    alone_after : own 0 (after state first_worker action).log ≡ (after state first_worker action).log
    alone_after =
        subst (λ (log : List Entry). own 0 log ≡ log) (sym log_after)
        (own-same first_worker state.log played.noted.event ∙ ap (λ (log : List Entry). log ++ entries first_worker (Some played.noted.event)) was.alone)

    stages_after : stages_run plan idle (after state first_worker action).log ≡ stages_run plan idle state.log + stages_ended plan (progress_in state first_worker) played.noted.event
    stages_after =
        ap (stages_run plan idle) log_after
        ∙ stages_push plan idle state.log (record { worker = first_worker; event = played.noted.event })
        ∙ ap (λ (log : List Entry). stages_run plan idle state.log + stages_ended plan (progress_of log) played.noted.event) (sym was.alone)

    progress_after : progress_in (after state first_worker action) first_worker ≡ turn (progress_in state first_worker) played.noted.event
    progress_after =
        progress_on first_worker action (gives state first_worker action) (part state first_worker) (part (after state first_worker action) first_worker) played.noted.event played.noted.is played.moves

    play_run : (place' : Place) (off : Bool) (steps' : ℕ) → Spends plan place' (turn (progress_in state first_worker) played.noted.event) off (since played.noted.event (was.spent + due)) → steps' ≤ steps + stages_due plan first_worker state place → HasRun plan (after state first_worker action) place' steps'
    play_run place' off steps' spends few =
        let within = blocks plan place (progress_in state first_worker) was.off was.spent sound table was.spends in
        let ends = ends_within plan (progress_in state first_worker) played.noted.event was.spent due within due_last in
        record {
          off = off;
          spent = since played.noted.event (was.spent + due);
          spends = subst (λ (p : Progress). Spends plan place' p off (since played.noted.event (was.spent + due))) (sym progress_after) spends;
          most = omega (arith, few, due_is, was.most, ends, stages_after);
          alone = alone_after;
        }

  module _ (sound : IsSound plan) (table : IsTable plan.table) (blocks : BlocksAreSpent) (true_is : IsTrueState plan state) (has : HasJobs plan state (place ∷ [])) where
    plays_run : (state' : State) (place' : Place) (steps' : ℕ) (action : Action) → wants place ≡ Some action → is_ready state action ≡ true → Plays plan first_worker state state' place place' action → steps' ≤ steps + stages_due plan first_worker state place → HasRun plan state' place' steps'
    plays_run state' place' steps' action wanted ready plays few =
        let mine = has.jobs 0 place refl in
        let played = is_played plan state first_worker place action sound table has.valid has.of_plan mine wanted ready in
        let true_reply = replies_are_true plan state first_worker place action sound table true_is mine.lives wanted in
        let spends = Spends.goes_on place place' (progress_in state first_worker) was.off action (gives state first_worker action) (puts_of (part state first_worker)) played.noted.event was.spent was.spends wanted played.noted.is played.fits true_reply plays.place_is plays.is in
        subst (λ (s : State). HasRun plan s place' steps') (sym plays.state_is) (play_run sound table blocks action wanted played place' (refused_after played.noted.event was.off) steps' spends few)

    breaks_off_run : (state' : State) (place' : Place) (steps' : ℕ) (action : Action) → wants place ≡ Some action → is_ready state action ≡ true → BreaksOff plan first_worker state state' place place' action → steps' ≤ steps + stages_due plan first_worker state place → HasRun plan state' place' steps'
    breaks_off_run state' place' steps' action wanted ready breaks few =
        let mine = has.jobs 0 place refl in
        let played = is_played plan state first_worker place action sound table has.valid has.of_plan mine wanted ready in
        let true_reply = replies_are_true plan state first_worker place action sound table true_is mine.lives wanted in
        let spends = Spends.breaks_off place place' (progress_in state first_worker) was.off action (gives state first_worker action) (puts_of (part state first_worker)) played.noted.event was.spent was.spends wanted played.noted.is played.fits true_reply breaks.place_is in
        subst (λ (s : State). HasRun plan s place' steps') (sym breaks.state_is) (play_run sound table blocks action wanted played place' true steps' spends few)

    acts_run : (flag : Flag) (state' : State) (place' : Place) (steps' : ℕ) (action : Action) → wants place ≡ Some action → is_ready state action ≡ true → Acts plan first_worker flag state state' place place' action → RunsStages plan first_worker state state' place steps steps' → HasRun plan state' place' steps'
    acts_run Fine state' place' steps' action wanted ready acted stages = plays_run state' place' steps' action wanted ready acted stages.most
    acts_run ActRefused state' place' steps' action wanted ready acted stages = gives_up_run state' place' steps' action wanted acted stages
    acts_run WorkRefused state' place' steps' action wanted ready acted stages = breaks_off_run state' place' steps' action wanted ready acted stages.most

    pub turn_run : (flag : Flag) (state' : State) (place' : Place) (steps' : ℕ) → Turns plan first_worker flag state state' place place' → RunsStages plan first_worker state state' place steps steps' → HasRun plan state' place' steps'
    turn_run flag state' place' steps' (ended nothing stands) stages = stands_run state' place' steps' (asked_nothing place nothing) stands stages
    turn_run flag state' place' steps' (idles action wanted waits stands) stages =
        stands_run state' place' steps' (asked_refusable place action wanted (idle_refusable state action waits)) stands stages
    turn_run flag state' place' steps' (acts action wanted ready acted) stages = acts_run flag state' place' steps' action wanted ready acted stages
