-- How many stages a turn runs, and where its worker stops.
use Rattle.std.proofs.Common.{◌≡◌, ℕ, ◌+◌, ◌≤◌, inl, inr, false, [], map, Option, Some, None, refl, sym, ap, ◌∙◌, append-nil, arith}
use Rattle.std.specs.Option.{option_map_or, option_to_list}
use Rattle.std.proofs.lemmas.Bool.{false≢true}
use Rattle.std.proofs.lemmas.List.{append_cancel_left}
use Rattle.osb_tree.specs.declared.numbers.WorkerNo.{WorkerNo}
use Rattle.osb_recipe.specs.declared.plans.Plan.{Plan}
use Rattle.osb_board.specs.declared.tasks.Claim.{Claim}
use Rattle.osb_board.specs.declared.tasks.Claim.TheVariants as claims
use Rattle.osb_board.specs.Boards.{claim_of}
use Rattle.osb_job.specs.declared.actions.Action.{Action}
use Rattle.osb_job.specs.declared.actions.Action.TheVariants as actions
use Rattle.osb_job.specs.declared.actions.Reply.{Reply}
use Rattle.osb_job.specs.declared.actions.Reply.TheVariants as replies
use Rattle.osb_job.specs.declared.entries.Entry.{Entry}
use Rattle.osb_job.specs.declared.entries.Event.{Event}
use Rattle.osb_job.specs.declared.places.Place.{Place}
use Rattle.osb_job.specs.declared.places.Place.TheVariants.{Outside}
use Rattle.osb_job.specs.Jobs.{Turn, wants, asked, taken, IsTaken}
use Rattle.osb_job.specs.Moves.{event_of, puts_of}
use Rattle.osb_state.specs.States.{State, part, is_ready, gives, after, entries_of}
use Rattle.osb_state.specs.Serial.{RunsStages, HasStopped, stages_due}
use Rattle.osb_state.proofs.Noting.{idle_refusable}
use Rattle.osb_state.proofs.Taking.{asked_nothing, asked_refusable}

-- ---- where there is no entry

no_event : (worker : WorkerNo) (event : Option Event) → map (λ (e : Event). let entry : Entry = record { worker = worker; event = e } in entry) (option_to_list event) ≡ [] → event ≡ None
no_event worker None is = refl
no_event worker (Some event) is = cc

still_idle : (plan : Plan) (place : Place) → (taken plan place (replies.Claimed claims.Idle)).steps ≡ 0
still_idle plan Outside = refl
still_idle plan place = refl

still_claimed : (plan : Plan) (puts : ℕ) (place : Place) (claim : Claim) → event_of puts actions.Claim (replies.Claimed claim) ≡ None → (taken plan place (replies.Claimed claim)).steps ≡ 0
still_claimed plan puts place (claims.Task task) none = cc
still_claimed plan puts place claims.Idle none = still_idle plan place
still_claimed plan puts place claims.Over none = cc

still_taken : (plan : Plan) (puts : ℕ) (state : State) (worker : WorkerNo) (place : Place) (action : Action) → event_of puts action (gives state worker action) ≡ None → (taken plan place (gives state worker action)).steps ≡ 0
still_taken plan puts state worker place actions.Claim none = still_claimed plan puts place (claim_of state.board) none
still_taken plan puts state worker place action none = cc

unnoted : (state state' : State) (worker : WorkerNo) (action : Action) → state' ≡ after state worker action → state'.log ≡ state.log → event_of (puts_of (part state worker)) action (gives state worker action) ≡ None
unnoted state state' worker action left same =
    no_event worker (event_of (puts_of (part state worker)) action (gives state worker action))
    (append_cancel_left state.log (entries_of state worker action) [] (sym (ap (λ (s : State). s.log) left) ∙ same ∙ sym (append-nil state.log)))

-- ---- where a reply was taken

more_taken : (next : Turn) (steps steps' : ℕ) (was : Place) → IsTaken next steps steps' was → (steps ≤ steps') × (steps' ≤ steps + next.steps)
more_taken next steps steps' was took = elim took [ inl due ↦ (omega arith, omega arith) | inr cut ↦ (cut.1.more, cut.1.most) ]

module _ (plan : Plan) (state state' : State) (worker worker' : WorkerNo) (action : Action) (reply : Reply) (asking was : Place) (steps steps' : ℕ) (same : worker' ≡ worker) (replied : reply ≡ gives state worker' action) (left : state' ≡ after state worker' action)
    (took : IsTaken (taken plan asking reply) steps steps' was) where
  stages_here : (taken plan asking reply).steps ≡ (taken plan asking (gives state worker action)).steps
  stages_here = ap (λ (r : Reply). (taken plan asking r).steps) (replied ∙ ap (λ (w : WorkerNo). gives state w action) same)

  pub counted_most : steps' ≤ steps + (taken plan asking (gives state worker action)).steps
  counted_most =
      let more = more_taken (taken plan asking reply) steps steps' was took in
      omega (arith, more.1, stages_here)

  pub counted_none : state'.log ≡ state.log → steps' ≡ steps
  counted_none kept =
      let more = more_taken (taken plan asking reply) steps steps' was took in
      let none = ap (λ (r : Reply). (taken plan asking r).steps) replied ∙ still_taken plan (puts_of (part state worker')) state worker' asking action (unnoted state state' worker' action left kept) in
      omega (arith, more.0, more.1, none)

-- ---- a turn

pub counted_turn : (plan : Plan) (worker worker' : WorkerNo) (state state' : State) (place asking : Place) (action : Action) (steps steps' : ℕ) → worker' ≡ worker → asking ≡ asked place → wants place ≡ Some action → (state'.log ≡ state.log → steps' ≡ steps) → steps' ≤ steps + (taken plan asking (gives state worker' action)).steps
    → RunsStages plan worker state state' place steps steps'
counted_turn plan worker worker' state state' place asking action steps steps' same asks wanted none most =
    let due : stages_due plan worker state place ≡ (taken plan asking (gives state worker' action)).steps =
    ap (λ (w : Option Action). option_map_or (λ a. (taken plan (asked place) (gives state worker a)).steps) w 0) wanted
    ∙ ap (λ (p : Place). (taken plan p (gives state worker action)).steps) (sym asks)
    ∙ ap (λ (w : WorkerNo). (taken plan asking (gives state w action)).steps) (sym same) in
    record { none = none; most = omega (arith, most, due) }

pub stopped_ended : (state : State) (place place' : Place) → wants place ≡ None → place' ≡ asked place → HasStopped state place'
stopped_ended state place place' nothing is = inl (ap wants (is ∙ asked_nothing place nothing) ∙ nothing)

waits_to_claim : (state : State) (action : Action) → is_ready state action ≡ false → (action ≡ actions.Claim) × (is_ready state actions.Claim ≡ false)
waits_to_claim state actions.Claim idle = (refl, idle)
waits_to_claim state action idle = absurd (false≢true (sym idle))

pub stopped_waiting : (state : State) (place place' : Place) (action : Action) → wants place ≡ Some action → is_ready state action ≡ false → place' ≡ asked place → HasStopped state place'
stopped_waiting state place place' action wanted idle is =
    let claims = waits_to_claim state action idle in
    inr (ap wants (is ∙ asked_refusable place action wanted (idle_refusable state action idle)) ∙ wanted ∙ ap (λ (a : Action). Some a) claims.0, claims.1)
