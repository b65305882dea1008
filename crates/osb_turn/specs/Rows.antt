-- Seats in a row, as they are made and as they are taken in.
use Rattle.std.specs.Prelude.{◌≡◌, ℕ, zero, suc, ◌+◌, List, [], length, Option, Some}
use Rattle.std.specs.List.{slice_get}
use Rattle.atomic_table.specs.Seated.{TableId}
use Rattle.atomic_table.specs.declared.shared.Seat.{Seat}
use Rattle.osb_turn.specs.declared.views.Joined.{Joined}
use Rattle.osb_turn.specs.declared.views.View.{View}
use Rattle.osb_turn.specs.declared.views.Stage.TheVariants.{Idle}
use Rattle.osb_turn.specs.Seats.{SeatState}

-- only the first seat knows the number of seats
abbrev pub made_of : ℕ → ℕ → ℕ
made_of workers zero = workers
made_of workers (suc i) = 0

module _ {S A R : Type 0} where
  -- the view of the first seat, which has made this many
  abbrev pub first_view : S → ℕ → View S A R
  first_view opening made = record { stage = Idle; worker = record { 0 = 0 }; opening = Some opening; seen = []; mine = []; joined = []; made = made }

  abbrev pub new_state : TableId → S → ℕ → ℕ → SeatState S A R
  new_state table opening made number = record { table = table; opening = Some opening; made = made; worker = record { 0 = number }; seen = []; mine = [] }

  -- the seats of workers from this number on
  abbrev pub AreNewFrom : TableId → S → ℕ → List (SeatState S A R) → Type 0
  AreNewFrom table opening from seats = (i : ℕ) (seat : SeatState S A R) → slice_get seats i ≡ Some seat → seat ≡ new_state table opening 0 (from + i)

  pub record AreNewSeats (table : TableId) (opening : S) (workers : ℕ) (seats : List (SeatState S A R)) : Type 0 where
    pub count : length seats ≡ workers
    pub each : (i : ℕ) (seat : SeatState S A R) → slice_get seats i ≡ Some seat → seat ≡ new_state table opening (made_of workers i) i

module _ {A : Type 0} where
  -- the element is in the list
  abbrev pub Has : List A → A → Type 0
  Has list element = (i : ℕ) × (slice_get list i ≡ Some element)

module _ {S A R : Type 0} where
  abbrev pub note_of : SeatState S A R → Joined A R
  note_of seat = record { worker = seat.worker; seen = seat.seen; mine = seat.mine }

  -- this pass was the first seat's, and has taken in the others
  pub record HasTakenIn (first : SeatState S A R) (others : List (SeatState S A R)) (kept : Seat (Option S) (View S A R)) : Type 0 where
    pub table : kept.table_id ≡ first.table
    pub idle : kept.me.0.stage ≡ Idle
    pub empty : kept.me.1 ≡ []
    pub worker : kept.me.0.worker ≡ first.worker
    pub made : kept.me.0.made ≡ first.made
    pub seen : kept.me.0.seen ≡ first.seen
    pub mine : kept.me.0.mine ≡ first.mine
    pub notes : (i : ℕ) (seat : SeatState S A R) → slice_get others i ≡ Some seat → Has kept.me.0.joined (note_of seat)
