-- The places of the log that are owed to later releases: what a worker holds it can give up without memory.
use Rattle.std.specs.Prelude.{◌≡◌, ℕ, ◌+◌, ◌-◌, ◌^◌, ◌≤◌, ◌==◌, ◌&&◌, Bool, true, false, List, length, map, sum_by}
use Rattle.osb_tree.specs.Trees.{Listing}
use Rattle.osb_board.specs.declared.tasks.TaskState.{TaskState}
use Rattle.osb_board.specs.declared.tasks.TaskState.TheVariants.{Waiting, Running, Done}
use Rattle.osb_board.specs.Boards.{state_count}
use Rattle.osb_cache.specs.Caches.{Line, Draft}
use Rattle.osb_machine.specs.declared.stagings.Staging.{Staging}
use Rattle.osb_state.specs.States.{State}
use Rattle.osb_state.specs.Kept.{Valid}

abbrev pub is_running : {O : Type 0} → TaskState O → Bool
is_running Waiting = false
is_running (Running worker) = true
is_running (Done outcome) = false

-- the chunks that are still to be put, and the commit
abbrev pub draft_owes : Draft Listing → ℕ
draft_owes draft = draft.count - length draft.chunks + 1

abbrev pub pin_count : List (Line Listing) → ℕ
pin_count lines = sum_by (λ line. length line.pins) lines

abbrev pub owed : State → ℕ
owed state = state_count is_running state.board + pin_count state.cache.lines + sum_by draft_owes state.cache.drafts

-- ---- staged entries in numbers

abbrev pub staging_of : Draft Listing → Staging
staging_of draft = record {
  worker = record { 0 = draft.worker };
  key = record { 0 = draft.key };
  count = draft.count;
  left = draft.count - length draft.chunks;
}

abbrev pub is_staging : ℕ → ℕ → Staging → Bool
is_staging worker key staging = staging.worker.0 == worker && staging.key.0 == key

abbrev pub one_put : Staging → Staging
one_put staging = record staging { left = staging.left - 1 }

-- ---- what holds of the shared state beside its numbers of staged entries, of places that are owed, and of places

pub record IsShared (state : State) (stagings : List Staging) (due capacity : ℕ) : Type 0 where
  pub valid : Valid state
  pub staged : stagings ≡ map staging_of state.cache.drafts
  pub due_is : due ≡ owed state
  pub room : length state.log + due ≤ capacity
  pub opening : state.opened.kept + state.opened.evicted ≤ 2 ^ 62
