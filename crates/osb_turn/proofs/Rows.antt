-- Seats in a row.
use Rattle.std.proofs.Common.{◌≡◌, ℕ, zero, suc, ◌+◌, ◌<◌, Bool, List, [], ◌∷◌, ◌++◌, length, Option, Some, ◌⊎◌, inl, inr, refl, sym, ap, subst, ◌∙◌, arith}
use Rattle.std.specs.List.{slice_get, insert}
use Rattle.std.proofs.lemmas.Option.{slice_get_within}
use Rattle.atomic_table.specs.Seated.{TableId}
use Rattle.atomic_table.specs.declared.shared.Seat.{Seat}
use Rattle.osb_tree.specs.declared.numbers.WorkerNo.{WorkerNo}
use Rattle.osb_turn.specs.declared.views.View.{View}
use Rattle.osb_turn.specs.declared.views.Stage.TheVariants.{Idle}
use Rattle.osb_turn.specs.Rule.{noted, new_seat, with_joined}
use Rattle.osb_turn.specs.Seats.{TurnstileState, SeatState, IsSeatOf, AreSeatsOf, HaveSeenNothing}
use Rattle.osb_turn.specs.Rows.{first_view, new_state, made_of, AreNewFrom, AreNewSeats, Has, note_of, HasTakenIn}
use Rattle.osb_turn.proofs.Calls.{shown}

module _ {A : Type 0} where
  get_push : (xs : List A) (x s : A) (i : ℕ) → slice_get (xs ++ x ∷ []) i ≡ Some s → (slice_get xs i ≡ Some s) ⊎ ((i ≡ length xs) × (x ≡ s))
  get_push [] x s zero e = inr (refl, cc)
  get_push [] x s (suc i) e = absurd (cc)
  get_push (y ∷ ys) x s zero e = inl e
  get_push (y ∷ ys) x s (suc i) e = elim (get_push ys x s i e) [ inl h ↦ inl h | inr h ↦ inr (ap suc h.0, h.1) ]

  pub insert_first : (xs : List A) (x : A) → insert xs 0 x ≡ x ∷ xs
  insert_first [] x = refl
  insert_first (y ∷ ys) x = refl

module _ {S A R : Type 0} where
  pub new_is : (table table' : TableId) (opening : S) (number : ℕ) (view : View S A R) → table' ≡ table → view ≡ new_seat (first_view opening number) → shown table' (record { 0 = number }) view ≡ new_state table opening 0 number
  new_is table table' opening number view e f = λ i. record { table = e i; opening = (f i).opening; made = (f i).made; worker = record { 0 = number }; seen = (f i).seen; mine = (f i).mine }

  pub first_is : (table table' : TableId) (opening : S) (made : ℕ) (view : View S A R) → table' ≡ table → view ≡ first_view opening made → shown table' (record { 0 = 0 }) view ≡ new_state table opening made 0
  first_is table table' opening made view e f = λ i. record { table = e i; opening = (f i).opening; made = (f i).made; worker = record { 0 = 0 }; seen = (f i).seen; mine = (f i).mine }

  pub new_push : (table : TableId) (opening : S) (xs : List (SeatState S A R)) (x : SeatState S A R) (number : ℕ) → length xs + 1 ≡ number → AreNewFrom table opening 1 xs → x ≡ new_state table opening 0 number
      → AreNewFrom table opening 1 (xs ++ x ∷ [])
  new_push table opening xs x number long h new i seat e = elim (get_push xs x seat i e) [
    | inl at ↦ h i seat at
    | inr at ↦ let same : number ≡ 1 + i = (let k = at.0 in omega arith) in sym at.1 ∙ (new ∙ ap (new_state table opening 0) same)
  ]

  each_new : (table : TableId) (opening : S) (xs : List (SeatState S A R)) (x : SeatState S A R) (workers : ℕ) → AreNewFrom table opening 1 xs → x ≡ new_state table opening workers 0
      → (i : ℕ) (seat : SeatState S A R) → slice_get (x ∷ xs) i ≡ Some seat → seat ≡ new_state table opening (made_of workers i) i
  each_new table opening xs x workers h new zero seat e = let same : x ≡ seat = cc in sym same ∙ new
  each_new table opening xs x workers h new (suc i) seat e = h i seat e ∙ ap (new_state table opening 0) (let k : 1 + i ≡ suc i = omega arith in k)

  pub all_new : (table : TableId) (opening : S) (xs : List (SeatState S A R)) (x : SeatState S A R) (workers : ℕ) → length xs + 1 ≡ workers → AreNewFrom table opening 1 xs → x ≡ new_state table opening workers 0
      → AreNewSeats table opening workers (x ∷ xs)
  all_new table opening xs x workers long h new = record { count = omega arith; each = each_new table opening xs x workers h new }

  pub takes_none : (first : SeatState S A R) (worker : WorkerNo) (kept : Seat (Option S) (View S A R)) → shown kept.table_id worker kept.me.0 ≡ first → kept.me.0.worker ≡ worker → kept.me.0.stage ≡ Idle → kept.me.1 ≡ []
      → HasTakenIn first [] kept
  takes_none first worker kept is by idle empty = record {
    table = ap (λ (s : SeatState S A R). s.table) is;
    idle = idle;
    empty = empty;
    worker = by ∙ ap (λ (s : SeatState S A R). s.worker) is;
    made = ap (λ (s : SeatState S A R). s.made) is;
    seen = ap (λ (s : SeatState S A R). s.seen) is;
    mine = ap (λ (s : SeatState S A R). s.mine) is;
    notes = λ i seat e. absurd (cc);
  }

  pub noted_is : (seat : SeatState S A R) (table : TableId) (worker : WorkerNo) (view : View S A R) → shown table worker view ≡ seat → view.worker ≡ worker → noted view ≡ note_of seat
  noted_is seat table worker view is by = (λ i. record { worker = by i; seen = view.seen; mine = view.mine }) ∙ ap note_of is

  noted_one : (first seat : SeatState S A R) (gone : List (SeatState S A R)) (kept kept' : Seat (Option S) (View S A R)) (view : View S A R) → HasTakenIn first gone kept → kept'.me ≡ (with_joined kept.me.0 view, kept.me.1)
      → noted view ≡ note_of seat → (i : ℕ) (other : SeatState S A R) → slice_get (seat ∷ gone) i ≡ Some other → Has kept'.me.0.joined (note_of other)
  noted_one first seat gone kept kept' view h now note zero other e = let same : seat ≡ other = cc in
      (0, ap (λ m. slice_get m.0.joined 0) now ∙ ap Some (note ∙ ap note_of same))
  noted_one first seat gone kept kept' view h now note (suc i) other e = let at = h.notes i other e in (suc at.0, ap (λ m. slice_get m.0.joined (suc at.0)) now ∙ at.1)

  pub takes_one : (first seat : SeatState S A R) (gone : List (SeatState S A R)) (kept kept' : Seat (Option S) (View S A R)) (view : View S A R) → HasTakenIn first gone kept → kept'.table_id ≡ kept.table_id
      → kept'.me ≡ (with_joined kept.me.0 view, kept.me.1) → noted view ≡ note_of seat → HasTakenIn first (seat ∷ gone) kept'
  takes_one first seat gone kept kept' view h table now note = record {
    table = table ∙ h.table;
    idle = ap (λ m. m.0.stage) now ∙ h.idle;
    empty = ap (λ m. m.1) now ∙ h.empty;
    worker = ap (λ m. m.0.worker) now ∙ h.worker;
    made = ap (λ m. m.0.made) now ∙ h.made;
    seen = ap (λ m. m.0.seen) now ∙ h.seen;
    mine = ap (λ m. m.0.mine) now ∙ h.mine;
    notes = noted_one first seat gone kept kept' view h now note;
  }

module _ {S A R : Type 0} (gives : S → WorkerNo → A → R) (after : S → WorkerNo → A → S) (is_ready : S → WorkerNo → A → Bool) (allows : S → WorkerNo → A → Type 0) where
  new_seat_fits : (turnstile : TurnstileState S) (i : ℕ) → i < turnstile.workers → IsSeatOf gives after is_ready allows turnstile (new_state turnstile.table turnstile.opening (made_of turnstile.workers i) i)
  new_seat_fits turnstile i inside = record { table = refl; opening = refl; listed = inside; made = λ z. ap (made_of turnstile.workers) z; seen = tt; mine = refl }

  pub new_seats_fit : (turnstile : TurnstileState S) (seats : List (SeatState S A R)) → AreNewSeats turnstile.table turnstile.opening turnstile.workers seats → AreSeatsOf gives after is_ready allows turnstile seats
  new_seats_fit turnstile seats h = let count = h.count in record {
    count = count;
    each = λ i seat e. let within = slice_get_within seats i seat e in
        subst (λ (s : SeatState S A R). IsSeatOf gives after is_ready allows turnstile s × (s.worker.0 ≡ i)) (sym (h.each i seat e)) (new_seat_fits turnstile i (omega arith), refl);
  }

module _ {S A R : Type 0} where
  pub new_seats_empty : (table : TableId) (opening : S) (workers : ℕ) (seats : List (SeatState S A R)) → AreNewSeats table opening workers seats → HaveSeenNothing seats
  new_seats_empty table opening workers seats h i seat e = let is = h.each i seat e in (ap (λ (s : SeatState S A R). s.seen) is, ap (λ (s : SeatState S A R). s.mine) is)
