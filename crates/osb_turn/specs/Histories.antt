-- Histories: the turns in order, each with who played what, and the reply.
use Rattle.std.specs.Prelude.{◌≡◌, ℕ, Bool, true, List, [], ◌∷◌, ◌==◌}
use Rattle.std.specs.List.{filter}
use Rattle.osb_tree.specs.declared.numbers.WorkerNo.{WorkerNo}
use Rattle.osb_turn.specs.declared.views.Entry.{Entry}

-- the entries of a worker
abbrev pub own : {A R : Type 0} → ℕ → List (Entry A R) → List (Entry A R)
own number history = filter (λ entry. entry.worker.0 == number) history

module _ {S A R : Type 0} (after : S → WorkerNo → A → S) where
  -- the state after a history
  abbrev pub replay : S → List (Entry A R) → S
  replay state [] = state
  replay state (entry ∷ entries) = replay (after state entry.worker entry.action) entries

module _ {S A R : Type 0} (gives : S → WorkerNo → A → R) where
  abbrev pub entry_of : S → WorkerNo → A → Entry A R
  entry_of state worker action = record { worker = worker; action = action; reply = gives state worker action }

module _ {S A R : Type 0} (gives : S → WorkerNo → A → R) (after : S → WorkerNo → A → S) (is_ready : S → WorkerNo → A → Bool) (allows : S → WorkerNo → A → Type 0) where
  -- each action was allowed and ready at its turn, and its reply is that of a play at this turn
  abbrev pub IsHistory : S → List (Entry A R) → Type 0
  IsHistory state [] = Unit {0}
  IsHistory state (entry ∷ entries) = allows state entry.worker entry.action × (is_ready state entry.worker entry.action ≡ true) × (entry.reply ≡ gives state entry.worker entry.action) × IsHistory (after state entry.worker entry.action) entries
