-- What callers see of a turnstile and of a seat, and what a turn tells them.
use Rattle.std.specs.Prelude.{◌≡◌, ℕ, ◌<◌, Bool, true, List, [], ◌∷◌, ◌++◌, ◌⊎◌, All, length, Option, Some}
use Rattle.std.specs.List.{slice_get}
use mathlib.Core.List.{IsPrefix}
use Rattle.atomic_table.specs.Seated.{TableId}
use Rattle.osb_tree.specs.declared.numbers.WorkerNo.{WorkerNo}
use Rattle.osb_turn.specs.declared.views.Entry.{Entry}
use Rattle.osb_turn.specs.Histories.{own, replay, IsHistory}

pub record TurnstileState (S : Type 0) : Type 0 where
  pub table : TableId
  pub opening : S
  pub workers : ℕ

-- `seen` is the history as far as the seat has seen it, and `mine` the entries of its worker. `made` is the number of seats, which the seat of worker 0 knows
pub record SeatState (S A R : Type 0) : Type 0 where
  pub table : TableId
  pub opening : Option S
  pub made : ℕ
  pub worker : WorkerNo
  pub seen : List (Entry A R)
  pub mine : List (Entry A R)

module _ {S A R : Type 0} where
  abbrev pub HaveSeenNothing : List (SeatState S A R) → Type 0
  HaveSeenNothing seats = (i : ℕ) (seat : SeatState S A R) → slice_get seats i ≡ Some seat → (seat.seen ≡ []) × (seat.mine ≡ [])

module _ {S A R : Type 0} (after : S → WorkerNo → A → S) where
  -- the state after what the seat has seen
  abbrev pub state_seen : TurnstileState S → SeatState S A R → S
  state_seen turnstile seat = replay after turnstile.opening seat.seen

module _ {S A : Type 0} (is_ready : S → WorkerNo → A → Bool) (valid : S → Type 0) where
  abbrev pub IsAlwaysReady : WorkerNo → A → Type 0
  IsAlwaysReady worker action = (state : S) → valid state → is_ready state worker action ≡ true

module _ {S A R : Type 0} (gives : S → WorkerNo → A → R) (after : S → WorkerNo → A → S) (is_ready : S → WorkerNo → A → Bool) (allows : S → WorkerNo → A → Type 0) where
  -- the seat is one of this turnstile
  pub record IsSeatOf (turnstile : TurnstileState S) (seat : SeatState S A R) : Type 0 where
    pub table : seat.table ≡ turnstile.table
    pub opening : seat.opening ≡ Some turnstile.opening
    pub listed : seat.worker.0 < turnstile.workers
    pub made : seat.worker.0 ≡ 0 → seat.made ≡ turnstile.workers
    pub seen : IsHistory gives after is_ready allows turnstile.opening seat.seen
    pub mine : seat.mine ≡ own seat.worker.0 seat.seen

  -- seat i is that of worker i, and there is one for each worker
  pub record AreSeatsOf (turnstile : TurnstileState S) (seats : List (SeatState S A R)) : Type 0 where
    pub count : length seats ≡ turnstile.workers
    pub each : (i : ℕ) (seat : SeatState S A R) → slice_get seats i ≡ Some seat → IsSeatOf turnstile seat × (seat.worker.0 ≡ i)

module _ {S A R P : Type 0} (after : S → WorkerNo → A → S) (part : S → WorkerNo → P) where
  -- The seat has had a turn and added no entry. None of those that it has seen there is its worker's, and its own part of the state is as it was after those that it had seen before
  pub record Looks (turnstile : TurnstileState S) (seat seat' : SeatState S A R) : Type 0 where
    pub sees : IsPrefix seat.seen seat'.seen
    pub mine : seat'.mine ≡ seat.mine
    pub own_part : part (state_seen after turnstile seat') seat.worker ≡ part (state_seen after turnstile seat) seat.worker

module _ {S A R P : Type 0} (gives : S → WorkerNo → A → R) (after : S → WorkerNo → A → S) (is_ready : S → WorkerNo → A → Bool) (part : S → WorkerNo → P) where
  -- The seat has had a turn and added the entry of a play of the action at the state before it, which is that after the history so far
  pub record Acts (turnstile : TurnstileState S) (seat : SeatState S A R) (action : A) (reply : R) (seat' : SeatState S A R) : Type 0 where
    pub before : List (Entry A R)
    pub sees : IsPrefix seat.seen before
    pub own_part : part (replay after turnstile.opening before) seat.worker ≡ part (state_seen after turnstile seat) seat.worker
    pub ready : is_ready (replay after turnstile.opening before) seat.worker action ≡ true
    pub replies : reply ≡ gives (replay after turnstile.opening before) seat.worker action
    pub seen : seat'.seen ≡ before ++ record { worker = seat.worker; action = action; reply = reply } ∷ []
    pub mine : seat'.mine ≡ seat.mine ++ record { worker = seat.worker; action = action; reply = reply } ∷ []
    pub plays : state_seen after turnstile seat' ≡ after (replay after turnstile.opening before) seat.worker action

module _ {S A R : Type 0} (gives : S → WorkerNo → A → R) (after : S → WorkerNo → A → S) (is_ready : S → WorkerNo → A → Bool) (allows : S → WorkerNo → A → Type 0) where
  -- One history, all of whose entries are of workers of the turnstile. Each seat has seen a front of it, and some seat all of it, and `mine` of each seat is the entries of its worker. The state is the one after it
  pub record Closes (turnstile : TurnstileState S) (seats : List (SeatState S A R)) (state : S) : Type 0 where
    pub history : List (Entry A R)
    pub played : IsHistory gives after is_ready allows turnstile.opening history
    pub workers : All (λ entry. entry.worker.0 < turnstile.workers) history
    pub seen : (i : ℕ) (seat : SeatState S A R) → slice_get seats i ≡ Some seat → IsPrefix seat.seen history
    pub mine : (i : ℕ) (seat : SeatState S A R) → slice_get seats i ≡ Some seat → seat.mine ≡ own i history
    pub longest : (history ≡ []) ⊎ ((i : ℕ) × (seat : SeatState S A R) × (slice_get seats i ≡ Some seat) × (seat.seen ≡ history))
    pub ends : state ≡ replay after turnstile.opening history
