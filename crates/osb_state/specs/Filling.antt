-- Where there is room for all, all that is marked comes to stand in the cache.
use Rattle.std.specs.Prelude.{◌≡◌, ◌≢◌, ℕ, ◌≤◌, ◌==◌, ◌||◌, Bool, true, false, List, ◌∷◌, ◌++◌, length, sum_by, Option, Some, None, if◌then◌else◌}
use Rattle.std.specs.List.{list_any, range_with_len}
use Rattle.osb_tree.specs.Trees.{Listing, tree_size}
use Rattle.osb_tree.specs.declared.numbers.Key.{Key}
use Rattle.osb_tree.specs.declared.numbers.TaskNo.{TaskNo}
use Rattle.osb_tree.specs.declared.numbers.WorkerNo.{WorkerNo}
use Rattle.osb_recipe.specs.Plans.{IsSound, has_key}
use Rattle.osb_recipe.specs.Tables.{IsTable}
use Rattle.osb_recipe.specs.declared.plans.Plan.{Plan}
use Rattle.osb_cache.specs.Caches.{CanOpen}
use Rattle.osb_cache.specs.declared.answers.Stored.{Stored}
use Rattle.osb_job.specs.declared.entries.Entry.{Entry}
use Rattle.osb_job.specs.declared.entries.Event.{Event}
use Rattle.osb_job.specs.declared.entries.Event.TheVariants as events
use Rattle.osb_job.specs.declared.entries.Word.TheVariants as words
use Rattle.osb_job.specs.Scripts.{Block, busy, progress_of, is_no_memory, chain_at, marked_at, left_after, chunks_meant, size_meant}
use Rattle.osb_state.specs.States.{own}
use Rattle.osb_state.specs.Runs.{replay, IsRunFrom}
use Rattle.osb_state.specs.Truth.{IsTrueOpening}
use Rattle.osb_state.specs.Openings.{opened_state}
use Rattle.osb_state.specs.KeptLogs.{entry_at, entry_by}

abbrev pub key_no : ℕ → Key
key_no number = record { 0 = number }

-- the trees that may come to stand in a cache: those of its opening, and the marked ones
abbrev pub may_stand : Plan → List (Stored Listing) → ℕ → Bool
may_stand plan opening number = list_any (λ stored. stored.key.0 == number) opening || list_any (λ task. has_key task.marked (key_no number)) plan.tasks

-- their sizes together, each tree once
abbrev pub size_of_all : Plan → List (Stored Listing) → ℕ
size_of_all plan opening = sum_by (λ number. if may_stand plan opening number then size_meant plan (key_no number) else 0) (range_with_len 0 (length plan.table.recipes))

abbrev pub ends_without_memory : Event → Bool
ends_without_memory (events.Done task word) = is_no_memory word
ends_without_memory event = false

-- no task ended for want of memory
abbrev pub HasMemory : List Entry → Type 0
HasMemory log = list_any (λ entry. ends_without_memory entry.event) log ≡ false

-- no worker is in the midst of a task
abbrev pub IsAtRest : List Entry → Type 0
IsAtRest log = (worker : ℕ) (block : Block) → progress_of (own worker log) ≢ busy block

-- the keys of a chain from the one on that the look found
abbrev pub from_look : Option (Option Key) → List Key → List Key
from_look None chain = chain
from_look (Some None) chain = chain
from_look (Some (Some key)) chain = key ∷ left_after (Some (Some key)) chain

-- each marked key, from the hit on, of a task that ended with a tree has an entry at the end, with all chunks of its tree
abbrev pub IsFilled : Plan → List (Stored Listing) → ℕ → List Entry → Type 0
IsFilled plan opening limit log =
    (before rest : List Entry) (worker : WorkerNo) (task : TaskNo) (block : Block) (key : Key) → log ≡ before ++ entry_by worker (events.Done task words.Tree) ∷ rest → progress_of (own worker.0 before) ≡ busy block
    → has_key (from_look block.looked (chain_at plan task)) key ≡ true → has_key (marked_at plan task) key ≡ true → entry_at (replay plan (opened_state plan opening limit) log) key.0 ≡ Some (chunks_meant plan key)

-- a run fills the cache
abbrev pub RunsFill : Type 0
RunsFill =
    (plan : Plan) (opening : List (Stored Listing)) (limit workers : ℕ) (log : List Entry) → IsSound plan → IsTable plan.table → CanOpen tree_size limit opening → IsTrueOpening plan opening
    → IsRunFrom plan workers (opened_state plan opening limit) (λ worker. false) log → size_of_all plan opening ≤ limit → HasMemory log → IsAtRest log → IsFilled plan opening limit log
