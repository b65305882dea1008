-- What holds besides where the cache began with what the plan means: every entry, and what is staged, is what its key
-- means, and tasks end with what their chains mean.
use Rattle.std.specs.Prelude.{◌≡◌, ℕ, ◌≤◌, ◌⊎◌, ◌++◌, Bool, false, List, length, map, take, slice_get, All, Some}
use Rattle.osb_tree.specs.Trees.{Listing, tree_size}
use Rattle.osb_tree.specs.Chunks.{chunks_of}
use Rattle.osb_tree.specs.declared.numbers.TaskNo.{TaskNo}
use Rattle.osb_tree.specs.declared.numbers.WorkerNo.{WorkerNo}
use Rattle.osb_recipe.specs.Meanings.{meaning, meant}
use Rattle.osb_recipe.specs.Plans.{IsSound}
use Rattle.osb_recipe.specs.Tables.{IsTable}
use Rattle.osb_recipe.specs.declared.outcomes.Outcome.{Outcome}
use Rattle.osb_recipe.specs.declared.outcomes.Outcome.TheVariants as outcomes
use Rattle.osb_recipe.specs.declared.plans.Plan.{Plan}
use Rattle.osb_board.specs.Boards.{outcome_at}
use Rattle.osb_cache.specs.Caches.{Draft, CanOpen}
use Rattle.osb_cache.specs.declared.answers.Stored.{Stored}
use Rattle.osb_job.specs.declared.actions.Action.{Action}
use Rattle.osb_job.specs.declared.entries.Entry.{Entry}
use Rattle.osb_job.specs.declared.entries.Word.{Word}
use Rattle.osb_job.specs.Scripts.{Block, busy, word_of, next, chain_at, deps_at}
use Rattle.osb_state.specs.States.{State, progress_in, after}
use Rattle.osb_state.specs.Kept.{progress_by, Valid}
use Rattle.osb_state.specs.Openings.{opened_state}
use Rattle.osb_state.specs.Runs.{replay, IsRunFrom}

-- a key has a tree, of which these are all chunks
pub record AreMeant (plan : Plan) (key : ℕ) (chunks : List Listing) : Type 0 where
  pub tree : Listing
  pub means : meaning plan.table (record { 0 = key }) ≡ Some tree
  pub all : chunks ≡ chunks_of tree

-- a key has a tree, for which this much is staged
pub record IsMeantDraft (plan : Plan) (draft : Draft Listing) : Type 0 where
  pub tree : Listing
  pub means : meaning plan.table (record { 0 = draft.key }) ≡ Some tree
  pub size_is : draft.size ≡ tree_size tree
  pub count_is : draft.count ≡ length (chunks_of tree)
  pub chunks_are : draft.chunks ≡ take (length draft.chunks) (chunks_of tree)

-- a task ends with what its chain means, or for want of memory
abbrev pub IsEnd : Plan → ℕ → Outcome → Type 0
IsEnd plan task outcome = (outcome ≡ meant plan.table (chain_at plan (record { 0 = task }))) ⊎ (outcome ≡ outcomes.NoMemory)

-- the words that a worker has fetched are those of its task's first dependencies
pub record IsTold (plan : Plan) (state : State) (block : Block) : Type 0 where
  pub few : length block.words ≤ length (deps_at plan block.task)
  pub words : (place : ℕ) (dep : TaskNo) (word : Word) → slice_get (deps_at plan block.task) place ≡ Some dep → slice_get block.words place ≡ Some word
      → (outcome : Outcome) × (outcome_at state.board dep.0 ≡ Some outcome) × (word ≡ word_of outcome)

pub record IsTrueState (plan : Plan) (state : State) : Type 0 where
  pub valid : Valid state
  pub deps : map (λ task. task.deps) state.board ≡ map (λ task. task.deps) plan.tasks
  pub marked : state.marked ≡ map (λ task. task.marked) plan.tasks
  pub keys : state.keys ≡ length plan.table.recipes
  pub entries : All (λ line. AreMeant plan line.key line.chunks) state.cache.lines
  pub drafts : All (IsMeantDraft plan) state.cache.drafts
  pub ends : (task : ℕ) (outcome : Outcome) → outcome_at state.board task ≡ Some outcome → IsEnd plan task outcome
  pub told : (worker : ℕ) (block : Block) → progress_by state worker ≡ busy block → IsTold plan state block

-- ---- laws

-- each entry of an opening is what its key means
abbrev pub IsTrueOpening : Plan → List (Stored Listing) → Type 0
IsTrueOpening plan opening = All (λ stored. AreMeant plan stored.key.0 stored.chunks) opening

abbrev pub TrueOpens : Type 0
TrueOpens =
    (plan : Plan) (opening : List (Stored Listing)) (limit : ℕ) → IsSound plan → IsTable plan.table → CanOpen tree_size limit opening → IsTrueOpening plan opening
    → IsTrueState plan (opened_state plan opening limit)

-- what the script says keeps a state true
abbrev pub TrueStays : Type 0
TrueStays =
    (plan : Plan) (state : State) (worker : WorkerNo) (off : Bool) (action : Action) → IsSound plan → IsTable plan.table → IsTrueState plan state
    → next plan (progress_in state worker) off ≡ Some action → IsTrueState plan (after state worker action)

-- the state after each front of a log is true, and has this front as its log
pub record Keeps (plan : Plan) (state : State) (log : List Entry) : Type 0 where
  pub front : (before rest : List Entry) → log ≡ before ++ rest → IsTrueState plan (replay plan state before)
  pub logs : (before rest : List Entry) → log ≡ before ++ rest → (replay plan state before).log ≡ state.log ++ before

abbrev pub RunsKeep : Type 0
RunsKeep =
    (plan : Plan) (opening : List (Stored Listing)) (limit workers : ℕ) (log : List Entry) → IsSound plan → IsTable plan.table → CanOpen tree_size limit opening → IsTrueOpening plan opening
    → IsRunFrom plan workers (opened_state plan opening limit) (λ worker. false) log → Keeps plan (opened_state plan opening limit) log
