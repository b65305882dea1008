-- What a call tells of its seat.
use Rattle.std.proofs.Common.{◌≡◌, ◌≢◌, ℕ, ◌<◌, Bool, true, false, List, [], ◌∷◌, ◌++◌, Some, Result, Ok, Err, MatchResult, refl, sym, ap, subst, ◌∙◌}
use mathlib.Core.List.{IsPrefix}
use Rattle.atomic_table.specs.Seated.{TableId}
use Rattle.osb_tree.specs.declared.numbers.WorkerNo.{WorkerNo}
use Rattle.osb_turn.specs.declared.views.Entry.{Entry}
use Rattle.osb_turn.specs.declared.views.View.{View}
use Rattle.osb_turn.specs.declared.views.Stage.TheVariants.{Idle}
use Rattle.osb_turn.specs.Histories.{own, replay, entry_of, IsHistory}
use Rattle.osb_turn.specs.Rule.{Seated, at_stage, in_turn, with_entry}
use Rattle.osb_turn.specs.Passes.{Entered}
use Rattle.osb_turn.specs.Seats.{TurnstileState, SeatState, state_seen, IsSeatOf, Looks, Acts}
use Rattle.osb_turn.proofs.Lists.{own_more}
use Rattle.osb_turn.proofs.Parts.{valid_after, part_lasts}
use Rattle.osb_turn.proofs.Steps.{history_more, replay-append}

module _ {S A R : Type 0} where
  -- what callers see of a seat with this view
  abbrev pub shown : TableId → WorkerNo → View S A R → SeatState S A R
  shown table worker view = record { table = table; opening = view.opening; made = view.made; worker = worker; seen = view.seen; mine = view.mine }

module _ {S A R P : Type 0} (gives : S → WorkerNo → A → R) (after : S → WorkerNo → A → S) (is_ready : S → WorkerNo → A → Bool) (allows : S → WorkerNo → A → Type 0) (valid : S → Type 0) (part : S → WorkerNo → P)
    (by_part : (s t : S) (worker : WorkerNo) (action : A) → valid s → valid t → part s worker ≡ part t worker → allows s worker action → allows t worker action)
    (valid_stays : (s : S) (worker : WorkerNo) (action : A) → valid s → allows s worker action → valid (after s worker action))
    (part_stays : (s : S) (worker other : WorkerNo) (action : A) → valid s → allows s worker action → other ≢ worker → part (after s worker action) other ≡ part s other) where
  -- the seat has its turn after this history
  pub record AtTurn (turnstile : TurnstileState S) (seat : SeatState S A R) (history : List (Entry A R)) (state : S) : Type 0 where
    pub is_seat : IsSeatOf gives after is_ready allows turnstile seat
    pub sound : valid turnstile.opening
    pub played : IsHistory gives after is_ready allows turnstile.opening history
    pub sees : IsPrefix seat.seen history
    pub owns : seat.mine ≡ own seat.worker.0 history
    pub brought : state ≡ replay after turnstile.opening history

  pub at_turn : (turnstile : TurnstileState S) (seat : SeatState S A R) (table : TableId) (opening : S) (workers : ℕ) (passed : TableId) (worker : WorkerNo) (view : View S A R)
      → (let t : TurnstileState S = record { table = table; opening = opening; workers = workers } in t ≡ turnstile) → shown passed worker view ≡ seat → view.worker ≡ worker → IsSeatOf gives after is_ready allows turnstile seat
      → (state : S) (me' : Seated S A R) (e : Entered gives after is_ready allows valid opening view state me') → AtTurn turnstile seat e.history state
  at_turn turnstile seat table opening workers passed worker view is is' by told state me' e = let first : opening ≡ turnstile.opening = ap (λ (t : TurnstileState S). t.opening) is in record {
    is_seat = told;
    sound = subst valid first e.sound;
    played = subst (λ (s : S). IsHistory gives after is_ready allows s e.history) first e.played;
    sees = subst (λ (s : SeatState S A R). IsPrefix s.seen e.history) is' e.sees;
    owns = subst (λ (s : SeatState S A R). s.mine ≡ own s.worker.0 e.history) is' (e.owns ∙ ap (λ (w : WorkerNo). own w.0 e.history) by);
    brought = e.brought ∙ ap (λ (s : S). replay after s e.history) first;
  }

  module _ (turnstile : TurnstileState S) (seat : SeatState S A R) (history : List (Entry A R)) (state : S) (h : AtTurn turnstile seat history state) where
    pub turn_valid : valid state
    turn_valid = subst valid (sym h.brought) (valid_after gives after is_ready allows valid part valid_stays part_stays turnstile.opening history h.sound h.played)

    turn_part : part (replay after turnstile.opening history) seat.worker ≡ part (state_seen after turnstile seat) seat.worker
    turn_part = part_lasts gives after is_ready allows valid part valid_stays part_stays turnstile.opening seat.worker seat.seen history h.sound h.played h.sees (sym h.owns ∙ h.is_seat.mine)

    module _ (worker : WorkerNo) (who : worker ≡ seat.worker) where
      pub turn_allowed : (action : A) → allows (state_seen after turnstile seat) seat.worker action → allows state worker action
      turn_allowed action allowed = subst (λ (w : WorkerNo). allows state w action) (sym who) (by_part (state_seen after turnstile seat) state seat.worker action
          (valid_after gives after is_ready allows valid part valid_stays part_stays turnstile.opening seat.seen h.sound h.is_seat.seen) turn_valid (sym turn_part ∙ ap (λ (s : S). part s seat.worker) (sym h.brought)) allowed)

      -- no entry is added
      pub seat_after_look : (passed : TableId) (view : View S A R) → passed ≡ seat.table → view.opening ≡ seat.opening → view.made ≡ seat.made → view.seen ≡ history → view.mine ≡ seat.mine
          → IsSeatOf gives after is_ready allows turnstile (shown passed worker view)
      seat_after_look passed view table opening made seen mine = subst (λ (w : WorkerNo). IsSeatOf gives after is_ready allows turnstile (shown passed w view)) (sym who) record {
        table = table ∙ h.is_seat.table;
        opening = opening ∙ h.is_seat.opening;
        listed = h.is_seat.listed;
        made = λ z. made ∙ h.is_seat.made z;
        seen = subst (IsHistory gives after is_ready allows turnstile.opening) (sym seen) h.played;
        mine = mine ∙ (h.owns ∙ ap (own seat.worker.0) (sym seen));
      }

      pub looks_told : (passed : TableId) (view : View S A R) → view.seen ≡ history → view.mine ≡ seat.mine → Looks after part turnstile seat (shown passed worker view)
      looks_told passed view seen mine = record {
        sees = subst (IsPrefix seat.seen) (sym seen) h.sees;
        mine = mine;
        own_part = ap (λ (l : List (Entry A R)). part (replay after turnstile.opening l) seat.worker) seen ∙ turn_part;
      }

      pub unready_told : (passed : TableId) (view : View S A R) (action : A) → view.seen ≡ history → is_ready state worker action ≡ false → is_ready (state_seen after turnstile (shown passed worker view)) seat.worker action ≡ false
      unready_told passed view action seen not = ap (λ (l : List (Entry A R)). is_ready (replay after turnstile.opening l) seat.worker action) seen
          ∙ (ap (λ (s : S). is_ready s seat.worker action) (sym h.brought) ∙ (ap (λ (w : WorkerNo). is_ready state w action) (sym who) ∙ not))

      module _ (action : A) where
        abbrev pub added : Entry A R
        added = entry_of gives state worker action

        pub seat_after_act : (passed : TableId) (view : View S A R) → allows state worker action → is_ready state worker action ≡ true → passed ≡ seat.table → view.opening ≡ seat.opening → view.made ≡ seat.made
            → view.seen ≡ history ++ added ∷ [] → view.mine ≡ seat.mine ++ added ∷ [] → IsSeatOf gives after is_ready allows turnstile (shown passed worker view)
        seat_after_act passed view allowed ready table opening made seen mine = record {
          table = table ∙ h.is_seat.table;
          opening = opening ∙ h.is_seat.opening;
          listed = subst (λ (w : WorkerNo). w.0 < turnstile.workers) (sym who) h.is_seat.listed;
          made = λ z. made ∙ h.is_seat.made (ap (λ (w : WorkerNo). w.0) (sym who) ∙ z);
          seen = subst (IsHistory gives after is_ready allows turnstile.opening) (sym seen) (history_more gives after is_ready allows turnstile.opening history added h.played
              (subst (λ (s : S). allows s worker action) h.brought allowed) (ap (λ (s : S). is_ready s worker action) (sym h.brought) ∙ ready) (ap (λ (s : S). gives s worker action) h.brought));
          mine = mine ∙ (ap (λ (l : List (Entry A R)). l ++ added ∷ []) (h.owns ∙ ap (λ (w : WorkerNo). own w.0 history) (sym who)) ∙ (sym (own_more worker.0 history added refl) ∙ ap (own worker.0) (sym seen)));
        }

        pub acts_told : (passed : TableId) (view : View S A R) (reply : R) → is_ready state worker action ≡ true → reply ≡ gives state worker action → view.seen ≡ history ++ added ∷ [] → view.mine ≡ seat.mine ++ added ∷ []
            → Acts gives after is_ready part turnstile seat action reply (shown passed worker view)
        acts_told passed view reply ready replies seen mine =
            let same : added ≡ record { worker = seat.worker; action = action; reply = reply } = λ i. record { worker = who i; action = action; reply = sym replies i } in record {
              before = history;
              sees = h.sees;
              own_part = turn_part;
              ready = ap (λ (s : S). is_ready s seat.worker action) (sym h.brought) ∙ (ap (λ (w : WorkerNo). is_ready state w action) (sym who) ∙ ready);
              replies = replies ∙ (ap (λ (s : S). gives s worker action) h.brought ∙ ap (λ (w : WorkerNo). gives (replay after turnstile.opening history) w action) who);
              seen = seen ∙ ap (λ (e : Entry A R). history ++ e ∷ []) same;
              mine = mine ∙ ap (λ (e : Entry A R). seat.mine ++ e ∷ []) same;
              plays = ap (replay after turnstile.opening) seen ∙ (replay-append after turnstile.opening history (added ∷ []) ∙ ap (λ (w : WorkerNo). after (replay after turnstile.opening history) w action) who);
            }

    -- the same, by what the steps tell of the view
    module _ (passed : TableId) (worker : WorkerNo) (view : View S A R) (is : shown passed worker view ≡ seat) where
      who : worker ≡ seat.worker
      who = ap (λ (s : SeatState S A R). s.worker) is

      pub allowed_now : (action : A) → allows (state_seen after turnstile seat) seat.worker action → allows state worker action
      allowed_now action allowed = turn_allowed worker who action allowed

      module _ (ticket : ℕ) (passed' : TableId) (view' : View S A R) (stays : passed' ≡ passed) where
        pub looked_seat : view' ≡ at_stage Idle (in_turn ticket history view) → IsSeatOf gives after is_ready allows turnstile (shown passed' worker view')
        looked_seat e = seat_after_look worker who passed' view' (stays ∙ ap (λ (s : SeatState S A R). s.table) is) (ap (λ (v : View S A R). v.opening) e ∙ ap (λ (s : SeatState S A R). s.opening) is)
            (ap (λ (v : View S A R). v.made) e ∙ ap (λ (s : SeatState S A R). s.made) is) (ap (λ (v : View S A R). v.seen) e) (ap (λ (v : View S A R). v.mine) e ∙ ap (λ (s : SeatState S A R). s.mine) is)

        pub looked_told : view' ≡ at_stage Idle (in_turn ticket history view) → Looks after part turnstile seat (shown passed' worker view')
        looked_told e = looks_told worker who passed' view' (ap (λ (v : View S A R). v.seen) e) (ap (λ (v : View S A R). v.mine) e ∙ ap (λ (s : SeatState S A R). s.mine) is)

        pub looked_unready : (action : A) → view' ≡ at_stage Idle (in_turn ticket history view) → is_ready state worker action ≡ false → is_ready (state_seen after turnstile (shown passed' worker view')) seat.worker action ≡ false
        looked_unready action e not = unready_told worker who passed' view' action (ap (λ (v : View S A R). v.seen) e) not

        module _ (action : A) (e : view' ≡ at_stage Idle (with_entry (Some (entry_of gives state worker action)) (in_turn ticket history view))) (ready : is_ready state worker action ≡ true) where
          mine_then : view'.mine ≡ seat.mine ++ entry_of gives state worker action ∷ []
          mine_then = ap (λ (v : View S A R). v.mine) e ∙ ap (λ (s : SeatState S A R). s.mine ++ entry_of gives state worker action ∷ []) is

          pub acted_seat : allows (state_seen after turnstile seat) seat.worker action → IsSeatOf gives after is_ready allows turnstile (shown passed' worker view')
          acted_seat allowed = seat_after_act worker who action passed' view' (allowed_now action allowed) ready (stays ∙ ap (λ (s : SeatState S A R). s.table) is)
              (ap (λ (v : View S A R). v.opening) e ∙ ap (λ (s : SeatState S A R). s.opening) is) (ap (λ (v : View S A R). v.made) e ∙ ap (λ (s : SeatState S A R). s.made) is)
              (ap (λ (v : View S A R). v.seen) e) mine_then

          pub acted_told : (reply : R) → reply ≡ gives state worker action → Acts gives after is_ready part turnstile seat action reply (shown passed' worker view')
          acted_told reply replies = acts_told worker who action passed' view' reply ready replies (ap (λ (v : View S A R). v.seen) e) mine_then

module _ {T E : Type 0} where
  -- both outcomes lead to one fact
  pub by_outcome : {P : T → Type 0} {Q : E → Type 0} {G : Type 0} (r : Result T E) → ((x : T) → P x → G) → ((e : E) → Q e → G) → MatchResult r P Q → G
  by_outcome (Ok x) f h m = f x m
  by_outcome (Err e) f h m = h e m
