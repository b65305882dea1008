-- What a log keeps, from its first entry to its last: nothing that is pinned changes or leaves, the bytes that are counted
-- stay within the limit, and entries appear only whole.
use Rattle.std.specs.Prelude.{◌≡◌, ℕ, ◌+◌, ◌<◌, ◌≤◌, ◌==◌, ◌&&◌, Bool, false, List, [], ◌∷◌, ◌++◌, length, All, count_by, find, sum_by, Option, Some, None, option_map}
use Rattle.std.specs.List.{list_any}
use Rattle.osb_tree.specs.Trees.{Listing, tree_size}
use Rattle.osb_tree.specs.declared.numbers.Key.{Key}
use Rattle.osb_tree.specs.declared.numbers.WorkerNo.{WorkerNo}
use Rattle.osb_recipe.specs.Plans.{IsSound}
use Rattle.osb_recipe.specs.Tables.{IsTable}
use Rattle.osb_recipe.specs.declared.plans.Plan.{Plan}
use Rattle.osb_board.specs.Boards.{HasDoneDeps, is_run_by, state_at}
use Rattle.osb_cache.specs.Caches.{Line, Rises, CanOpen, counted, has_key, drafts_key, is_draft, pins_on}
use Rattle.osb_cache.specs.declared.answers.Stored.{Stored}
use Rattle.osb_job.specs.declared.entries.Entry.{Entry}
use Rattle.osb_job.specs.declared.entries.Event.{Event}
use Rattle.osb_job.specs.declared.entries.Event.TheVariants as events
use Rattle.osb_state.specs.States.{State, hand_of}
use Rattle.osb_state.specs.Kept.{IsEntry, pins_due, drafts_due, puts_due, puts_on, runs, progress_by}
use Rattle.osb_state.specs.Runs.{replay, IsRunFrom}
use Rattle.osb_state.specs.Truth.{AreMeant, IsMeantDraft, IsTrueOpening}
use Rattle.osb_state.specs.Openings.{opened_state}

-- in the state after each front of a log
abbrev pub Throughout : Plan → State → List Entry → (State → Type 0) → Type 0
Throughout plan start log Holds = (before rest : List Entry) → log ≡ before ++ rest → Holds (replay plan start before)

-- the chunks of the entry of a key, where it has one
abbrev pub entry_at : State → ℕ → Option (List Listing)
entry_at state key = option_map (λ line. line.chunks) (find (has_key key) state.cache.lines)

abbrev pub entry_by : WorkerNo → Event → Entry
entry_by worker event = record { worker = worker; event = event }

-- ---- what is pinned

abbrev pub unpins : Key → Event → Bool
unpins key (events.Unpin held) = held.0 == key.0
unpins key event = false

abbrev pub is_unpin : WorkerNo → Key → Entry → Bool
is_unpin worker key entry = entry.worker.0 == worker.0 && unpins key entry.event

-- from a hit on and until it is unpinned by the worker, the key has an entry with the chunks that it had at the hit
abbrev pub PinsStand : Plan → State → List Entry → Type 0
PinsStand plan start log =
    (before between rest : List Entry) (worker : WorkerNo) (key : Key) → log ≡ before ++ (entry_by worker (events.Hit key) ∷ between) ++ rest → list_any (is_unpin worker key) between ≡ false
    → (chunks : List Listing) × (entry_at (replay plan start before) key.0 ≡ Some chunks) × (entry_at (replay plan start (before ++ entry_by worker (events.Hit key) ∷ between)) key.0 ≡ Some chunks)

-- ---- what is counted

abbrev pub IsWithin : ℕ → State → Type 0
IsWithin limit state = counted state.cache ≤ limit

-- ---- what is committed

-- an entry has all chunks of its key's tree, and their weight
pub record IsWholeEntry (plan : Plan) (line : Line Listing) : Type 0 where
  pub chunks : AreMeant plan line.key line.chunks
  pub size : line.size ≡ sum_by tree_size line.chunks

abbrev pub AreWhole : Plan → State → Type 0
AreWhole plan state = All (IsWholeEntry plan) state.cache.lines

-- a key without an entry gets one by a commit alone
abbrev pub EntriesAreCommitted : Plan → State → List Entry → Type 0
EntriesAreCommitted plan start log =
    (before rest : List Entry) (entry : Entry) (key : Key) (chunks : List Listing) → log ≡ before ++ entry ∷ rest → entry_at (replay plan start before) key.0 ≡ None → entry_at (replay plan start (before ++ entry ∷ [])) key.0 ≡ Some chunks
    → entry.event ≡ events.Commit key

-- ---- what workers hold

-- one pin for each hit that is not unpinned, one staged entry for each room that is neither committed nor dropped, with as
-- many chunks as were put since, the first ones of its key's tree; there are no others
pub record AreHeld (plan : Plan) (state : State) : Type 0 where
  pub pinned : (worker key : ℕ) → pins_on worker key state.cache.lines ≡ pins_due (hand_of (progress_by state worker)) key
  pub staged : (worker key : ℕ) → count_by (is_draft worker key) state.cache.drafts ≡ drafts_due (hand_of (progress_by state worker)) key
  pub put : (worker key : ℕ) → puts_on worker key state.cache.drafts ≡ puts_due (hand_of (progress_by state worker)) key
  pub drafts : All (IsMeantDraft plan) state.cache.drafts

-- ---- keys and times

-- the keys of entries and staged entries differ, and the times of use, which are at most the clock
pub record AreNumbered (opening : ℕ) (state : State) : Type 0 where
  pub apart : (key : ℕ) → count_by (has_key key) state.cache.lines + count_by (drafts_key key) state.cache.drafts ≤ 1
  pub rising : Rises 0 state.cache.lines state.cache.clock
  pub clocked : state.cache.clock ≤ opening + length state.log

-- ---- tasks

-- a task is run by a worker exactly where that has it claimed and not done; what it waited for is done
pub record AreClaimed (state : State) : Type 0 where
  pub running : (worker task : ℕ) → state_at (is_run_by worker) state.board task ≡ runs (progress_by state worker) task
  pub ready : HasDoneDeps state.board

-- ---- trees of the plan's keys

pub record AreTrees (keys : ℕ) (state : State) : Type 0 where
  pub entries : All (IsEntry keys) state.cache.lines
  pub drafts : All (λ draft. draft.key < keys) state.cache.drafts

-- ---- all of it

pub record IsKeptLog (plan : Plan) (opening : List (Stored Listing)) (limit : ℕ) (log : List Entry) : Type 0 where
  pub pins : PinsStand plan (opened_state plan opening limit) log
  pub within : Throughout plan (opened_state plan opening limit) log (IsWithin limit)
  pub whole : Throughout plan (opened_state plan opening limit) log (AreWhole plan)
  pub committed : EntriesAreCommitted plan (opened_state plan opening limit) log
  pub held : Throughout plan (opened_state plan opening limit) log (AreHeld plan)
  pub numbered : Throughout plan (opened_state plan opening limit) log (AreNumbered (length opening))
  pub claimed : Throughout plan (opened_state plan opening limit) log AreClaimed
  pub trees : Throughout plan (opened_state plan opening limit) log (AreTrees (length plan.table.recipes))

-- each run from a true opening keeps all of it
abbrev pub RunsAreKept : Type 0
RunsAreKept =
    (plan : Plan) (opening : List (Stored Listing)) (limit workers : ℕ) (log : List Entry) → IsSound plan → IsTable plan.table → CanOpen tree_size limit opening → IsTrueOpening plan opening
    → IsRunFrom plan workers (opened_state plan opening limit) (λ worker. false) log → IsKeptLog plan opening limit log
