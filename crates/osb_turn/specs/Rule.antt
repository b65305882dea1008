-- What holds of the table between any two steps, and what each step tells.
-- Word 0 is the next ticket and word 1 the ticket that is served. The one slot has the state. The seat whose ticket is served takes it out, and brings it home before it passes the turn.
use Rattle.std.specs.Prelude.{◌≡◌, ◌≢◌, ℕ, ◌+◌, ◌^◌, ◌<◌, ◌≤◌, Bool, List, [], ◌∷◌, ◌++◌, All, length, Option, Some, None}
use mathlib.Core.Option.{some, none}
use mathlib.Core.Option as maybe
use mathlib.Core.List.{IsPrefix}
use lib.ListN.{get_elem?}
use Rattle.atomic_table.specs.Table.{State, Me, Step, rest}
use Rattle.osb_tree.specs.declared.numbers.WorkerNo.{WorkerNo}
use Rattle.osb_turn.specs.declared.views.Entry.{Entry}
use Rattle.osb_turn.specs.declared.views.Joined.{Joined}
use Rattle.osb_turn.specs.declared.views.View.{View}
use Rattle.osb_turn.specs.declared.views.Stage.{Stage}
use Rattle.osb_turn.specs.declared.views.Stage.TheVariants.{Opening, Idle, Waiting, Holding, Spent}
use Rattle.osb_turn.specs.Histories.{own, replay, IsHistory}

-- Where the state is: not yet brought, at home, or out with a seat
pub data Where : Type 0 where
  absent : Where
  home : Where
  out : Where

abbrev pub IsShelf : {S : Type 0} → S → List (maybe.Option (Option S)) → Where → Type 0
IsShelf state homes absent = homes ≡ some None ∷ []
IsShelf state homes home = homes ≡ some (Some state) ∷ []
IsShelf state homes out = homes ≡ none ∷ []

-- How many tickets a seat has
abbrev pub ticket_count : Stage → ℕ
ticket_count Opening = 1
ticket_count Idle = 0
ticket_count (Waiting ticket) = 1
ticket_count (Holding ticket) = 1
ticket_count Spent = 0

module _ {S A R : Type 0} where
  abbrev pub tickets : List (View S A R) → ℕ
  tickets [] = 0
  tickets (view ∷ views) = ticket_count view.stage + tickets views

  abbrev pub spent : View S A R
  spent = record { stage = Spent; worker = record { 0 = 0 }; opening = None; seen = []; mine = []; joined = []; made = 0 }

  -- the first seat, before the state is brought
  abbrev pub opened : S → View S A R
  opened state = record { stage = Opening; worker = record { 0 = 0 }; opening = Some state; seen = []; mine = []; joined = []; made = 1 }

-- What all seats have in common: the history, the ticket that is served and the next one, whose seat has which ticket, and where the state is
pub record Line (A R : Type 0) : Type 0 where
  pub history : List (Entry A R)
  pub served : ℕ
  pub next : ℕ
  pub owner : ℕ → ℕ
  pub place : Where

module _ {A R : Type 0} (line : Line A R) (seat : ℕ) where
  -- the ticket is the seat's, and not yet passed
  pub record HasTicket (ticket : ℕ) : Type 0 where
    pub owned : line.owner ticket ≡ seat
    pub comes : line.served ≤ ticket
    pub drawn : ticket < line.next

module _ {S A R : Type 0} (views : List (View S A R)) (history : List (Entry A R)) where
  -- a seat that was taken in is spent, and what it knew holds
  pub record IsNoted (noted : Joined A R) : Type 0 where
    pub sees : IsPrefix noted.seen history
    pub owns : noted.mine ≡ own noted.worker.0 history
    pub gone : get_elem? views noted.worker.0 ≡ some spent

module _ {S A R : Type 0} (opening : S) (views : List (View S A R)) (line : Line A R) (seat : ℕ) (view : View S A R) where
  -- what every seat that isn't spent knows
  pub record Knows : Type 0 where
    pub opens : view.opening ≡ Some opening
    pub numbered : view.worker.0 ≡ seat
    pub sees : IsPrefix view.seen line.history
    pub owns : view.mine ≡ own seat line.history
    pub counts : seat ≡ 0 → view.made ≡ length views
    pub notes : All (IsNoted views line.history) view.joined

  abbrev pub Stands : Stage → Type 0
  Stands Opening = Knows × HasTicket line seat 0 × (line.history ≡ []) × (line.place ≡ absent)
  Stands Idle = Knows
  Stands (Waiting ticket) = Knows × HasTicket line seat ticket × (ticket ≡ line.served → line.place ≡ home)
  Stands (Holding ticket) = Knows × HasTicket line seat ticket × (ticket ≡ line.served) × (ticket < 2 ^ 63) × (view.seen ≡ line.history) × (line.place ≡ out)
  Stands Spent = Unit {0}

module _ {S A R : Type 0} (gives : S → WorkerNo → A → R) (after : S → WorkerNo → A → S) (is_ready : S → WorkerNo → A → Bool) (allows : S → WorkerNo → A → Type 0) (valid : S → Type 0) where
  pub record Turns (opening : S) (s : State (Option S) (View S A R)) : Type 0 where
    pub line : Line A R
    pub words_are : s.words ≡ line.next ∷ line.served ∷ []
    pub shelf : IsShelf (replay after opening line.history) s.homes line.place
    pub sound : valid opening
    pub played : IsHistory gives after is_ready allows opening line.history
    pub early : line.served ≤ 2 ^ 63
    pub few : length s.views ≤ 64
    pub counted : tickets s.views + line.served ≡ line.next
    pub known : All (λ entry. entry.worker.0 < length s.views) line.history
    pub rests : line.served ≡ line.next → line.place ≡ home
    pub each_seat : (seat : ℕ) (view : View S A R) → get_elem? s.views seat ≡ some view → Stands opening s.views line seat view view.stage

abbrev pub Seated : Type 0 → Type 0 → Type 0 → Type 0
Seated S A R = Me (Option S) (View S A R)

module _ {S A R : Type 0} where
  abbrev pub at_stage : Stage → View S A R → View S A R
  at_stage stage view = record view { stage = stage }

  -- its turn has come, and it sees the whole history
  abbrev pub in_turn : ℕ → List (Entry A R) → View S A R → View S A R
  in_turn ticket history view = record view { stage = Holding ticket; seen = history }

  -- it adds an entry of its own
  abbrev pub with_entry : Option (Entry A R) → View S A R → View S A R
  with_entry None view = view
  with_entry (Some entry) view = record view { seen = view.seen ++ entry ∷ []; mine = view.mine ++ entry ∷ [] }

  abbrev pub noted : View S A R → Joined A R
  noted view = record { worker = view.worker; seen = view.seen; mine = view.mine }

  abbrev pub with_joined : View S A R → View S A R → View S A R
  with_joined view other = record view { joined = noted other ∷ view.joined }

  abbrev pub with_seat_made : View S A R → View S A R
  with_seat_made view = record view { made = view.made + 1 }

  abbrev pub new_seat : View S A R → View S A R
  new_seat view = record { stage = Idle; worker = record { 0 = view.made }; opening = view.opening; seen = []; mine = []; joined = []; made = 0 }

  -- the first turn is the first seat's, which takes the empty slot
  abbrev pub began : Step (Option S) → Seated S A R → ℕ → Seated S A R → Type 0
  began step me found me' = me' ≡ (in_turn 0 [] me.0, (0, None) ∷ me.1)

  abbrev pub drew : Step (Option S) → Seated S A R → ℕ → Seated S A R → Type 0
  drew step me found me' = me' ≡ (at_stage (Waiting found) me.0, me.1)

  abbrev pub announced : Option (Entry A R) → Step (Option S) → Seated S A R → ℕ → Seated S A R → Type 0
  announced entry step me found me' = me' ≡ (with_entry entry me.0, me.1)

  abbrev pub passed : Step (Option S) → Seated S A R → ℕ → Seated S A R → Type 0
  passed step me found me' = me' ≡ (at_stage Idle me.0, rest me.1)

module _ {S A R : Type 0} (gives : S → WorkerNo → A → R) (after : S → WorkerNo → A → S) (is_ready : S → WorkerNo → A → Bool) (allows : S → WorkerNo → A → Type 0) (valid : S → Type 0) where
  -- a seat's turn has come: it sees the whole history, in which no entry is its own but those that it knows, and it has the state
  pub record IsServed (opening : S) (ticket : ℕ) (me me' : Seated S A R) : Type 0 where
    pub history : List (Entry A R)
    pub before : ticket < 2 ^ 63
    pub sound : valid opening
    pub played : IsHistory gives after is_ready allows opening history
    pub sees : IsPrefix me.0.seen history
    pub owns : me.0.mine ≡ own me.0.worker.0 history
    pub now : me' ≡ (in_turn ticket history me.0, (0, Some (replay after opening history)) ∷ me.1)

  abbrev pub looked : Step (Option S) → Seated S A R → ℕ → Seated S A R → Type 0
  looked step me found me' = (opening : S) (ticket : ℕ) → me.0.opening ≡ Some opening → me.0.stage ≡ Waiting ticket → (found ≡ ticket → IsServed opening ticket me me') × (found ≢ ticket → me' ≡ me)
