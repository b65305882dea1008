-- A pass is a seat at the table.
use Rattle.std.specs.Prelude.{◌≡◌, ℕ, Bool, List, [], ◌∷◌, Option, Some, None}
use mathlib.Core.List.{IsPrefix}
use Rattle.atomic_table.specs.Seated.{TableId}
use Rattle.atomic_table.specs.declared.shared.Seat.{Seat}
use Rattle.osb_tree.specs.declared.numbers.WorkerNo.{WorkerNo}
use Rattle.osb_turn.specs.declared.views.Entry.{Entry}
use Rattle.osb_turn.specs.declared.views.View.{View}
use Rattle.osb_turn.specs.declared.views.Stage.TheVariants.{Holding}
use Rattle.osb_turn.specs.Histories.{own, replay, IsHistory}
use Rattle.osb_turn.specs.Rule.{Seated, in_turn}

module _ {S A R : Type 0} where
  -- the pass is one of this table, which was opened with this state
  abbrev pub IsAt : TableId → S → Seat (Option S) (View S A R) → Type 0
  IsAt table opening pass = (pass.table_id ≡ table) × (table.words ≡ 2) × (table.slots ≡ 1) × (pass.me.0.opening ≡ Some opening)

  abbrev pub IsSamePass : Seat (Option S) (View S A R) → Seat (Option S) (View S A R) → Type 0
  IsSamePass pass pass' = (pass'.table_id ≡ pass.table_id) × (pass'.id ≡ pass.id)

  -- it is the seat's turn, and the seat has taken the state out of the slot
  abbrev pub IsInTurn : Seated S A R → Type 0
  IsInTurn me = (ticket : ℕ) × (me.0.stage ≡ Holding ticket) × (me.1 ≡ (0, None) ∷ [])

module _ {S A R : Type 0} (gives : S → WorkerNo → A → R) (after : S → WorkerNo → A → S) (is_ready : S → WorkerNo → A → Bool) (allows : S → WorkerNo → A → Type 0) (valid : S → Type 0) where
  -- the seat with this view before has its turn: it sees the whole history, in which no entry is its own but those that it knows, and it has this state
  pub record Entered (opening : S) (view : View S A R) (state : S) (me' : Seated S A R) : Type 0 where
    pub history : List (Entry A R)
    pub ticket : ℕ
    pub sound : valid opening
    pub played : IsHistory gives after is_ready allows opening history
    pub sees : IsPrefix view.seen history
    pub owns : view.mine ≡ own view.worker.0 history
    pub brought : state ≡ replay after opening history
    pub now : me' ≡ (in_turn ticket history view, (0, None) ∷ [])
