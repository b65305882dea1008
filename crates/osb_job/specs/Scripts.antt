-- The script of a worker: what it does next, told by its own entries so far.
use Rattle.std.specs.Prelude.{ℕ, ◌+◌, ◌==◌, ◌&&◌, Bool, true, false, not, List, [], ◌∷◌, ◌++◌, length, find, slice_get, Option, Some, None, is_some, is_none, if◌then◌else◌}
use Rattle.std.specs.List.{fold, list_any, after_first}
use Rattle.std.specs.Option.{option_map_or}
use Rattle.osb_tree.specs.Trees.{Listing, tree_size}
use Rattle.osb_tree.specs.Chunks.{chunks_of}
use Rattle.osb_tree.specs.declared.numbers.Key.{Key}
use Rattle.osb_tree.specs.declared.numbers.TaskNo.{TaskNo}
use Rattle.osb_recipe.specs.Meanings.{meaning, meant}
use Rattle.osb_recipe.specs.Plans.{has_key}
use Rattle.osb_recipe.specs.declared.outcomes.Outcome.{Outcome}
use Rattle.osb_recipe.specs.declared.outcomes.Outcome.TheVariants as outcomes
use Rattle.osb_recipe.specs.declared.plans.Plan.{Plan}
use Rattle.osb_job.specs.declared.actions.Action.{Action}
use Rattle.osb_job.specs.declared.actions.Action.TheVariants as actions
use Rattle.osb_job.specs.declared.entries.Word.{Word}
use Rattle.osb_job.specs.declared.entries.Word.TheVariants as words
use Rattle.osb_job.specs.declared.entries.Event.{Event}
use Rattle.osb_job.specs.declared.entries.Event.TheVariants as events
use Rattle.osb_job.specs.declared.entries.Entry.{Entry}

-- ---- how far a worker is

-- what it has in hand: nothing, a pinned entry of which so many chunks are read, or a staged one with so many put
pub data Hand : Type 0 where
  free : Hand
  reads : Key → ℕ → Hand
  fills : Key → ℕ → Hand

-- a task that it has claimed: how the fetched dependencies ended, what the look found (a key, or none at a miss), and
-- the keys for which it asked room
pub record Block : Type 0 where
  pub task : TaskNo
  pub words : List Word
  pub looked : Option (Option Key)
  pub tried : List Key
  pub hand : Hand

pub data Progress : Type 0 where
  idle : Progress
  busy : Block → Progress
  over : Progress

abbrev pub new_block : TaskNo → Block
new_block task = record { task = task; words = []; looked = None; tried = []; hand = free }

abbrev pub in_block : (Block → Block) → Progress → Progress
in_block change idle = idle
in_block change (busy block) = busy (change block)
in_block change over = over

abbrev pub one_more : Hand → Hand
one_more free = free
one_more (reads key count) = reads key (count + 1)
one_more (fills key count) = fills key (count + 1)

abbrev pub with_hand : Hand → Progress → Progress
with_hand hand progress = in_block (λ block. record block { hand = hand }) progress

abbrev pub with_one_more : Progress → Progress
with_one_more progress = in_block (λ block. record block { hand = one_more block.hand }) progress

abbrev pub with_word : Word → Progress → Progress
with_word word progress = in_block (λ block. record block { words = block.words ++ word ∷ [] }) progress

abbrev pub with_look : Option Key → Progress → Progress
with_look found progress = in_block (λ block. record block { looked = Some found }) progress

abbrev pub with_tried : Key → Progress → Progress
with_tried key progress = in_block (λ block. record block { tried = block.tried ++ key ∷ [] }) progress

-- how far it is after one more event
abbrev pub turn : Progress → Event → Progress
turn progress (events.Claim task) = busy (new_block task)
turn progress events.Over = over
turn progress (events.Fetch dep word) = with_word word progress
turn progress (events.Hit key) = with_hand (reads key 0) (with_look (Some key) progress)
turn progress events.Miss = with_look None progress
turn progress (events.Read key place) = with_one_more progress
turn progress (events.Unpin key) = with_hand free progress
turn progress (events.Room key evicted) = with_hand (fills key 0) (with_tried key progress)
turn progress (events.Already key) = with_tried key progress
turn progress (events.TooLarge key) = with_tried key progress
turn progress (events.Full key) = with_tried key progress
turn progress (events.Put key place) = with_one_more progress
turn progress (events.Commit key) = with_hand free progress
turn progress (events.Drop key) = with_hand free progress
turn progress (events.Done task word) = idle

-- by its own entries
abbrev pub progress_of : List Entry → Progress
progress_of mine = fold (λ progress entry. turn progress entry.event) idle mine

-- ---- what a plan says of a task and of a key

abbrev pub chain_at : Plan → TaskNo → List Key
chain_at plan task = option_map_or (λ t. t.chain) (slice_get plan.tasks task.0) []

-- the last first
abbrev pub marked_at : Plan → TaskNo → List Key
marked_at plan task = option_map_or (λ t. t.marked) (slice_get plan.tasks task.0) []

abbrev pub deps_at : Plan → TaskNo → List TaskNo
deps_at plan task = option_map_or (λ t. t.deps) (slice_get plan.tasks task.0) []

-- the chunks of the tree that a key means
abbrev pub chunks_meant : Plan → Key → List Listing
chunks_meant plan key = option_map_or chunks_of (meaning plan.table key) []

-- and its size
abbrev pub size_meant : Plan → Key → ℕ
size_meant plan key = option_map_or tree_size (meaning plan.table key) 0

abbrev pub word_of : Outcome → Word
word_of (outcomes.Tree listing) = words.Tree
word_of (outcomes.Fault stage fault) = words.Fault
word_of outcomes.Blocked = words.Blocked
word_of outcomes.NoMemory = words.NoMemory

abbrev pub is_tree : Word → Bool
is_tree words.Tree = true
is_tree words.Fault = false
is_tree words.Blocked = false
is_tree words.NoMemory = false

abbrev pub is_no_memory : Word → Bool
is_no_memory words.Tree = false
is_no_memory words.Fault = false
is_no_memory words.Blocked = false
is_no_memory words.NoMemory = true

-- ---- the next action

-- the keys of the stages that are left to run: those behind the one that the look found
abbrev pub left_after : Option (Option Key) → List Key → List Key
left_after None chain = chain
left_after (Some None) chain = chain
left_after (Some (Some key)) chain = after_first (λ k. k.0 == key.0) chain

-- room is asked for this key: it is marked and has a tree, and none was asked before
abbrev pub is_to_keep : Plan → Block → Key → Bool
is_to_keep plan block key = has_key (marked_at plan block.task) key && is_some (meaning plan.table key) && not (has_key block.tried key)

abbrev pub keeping : Plan → Block → Option Key → Action
keeping plan block (Some key) = actions.Reserve key (size_meant plan key) (length (chunks_meant plan key))
keeping plan block None = actions.Done block.task (meant plan.table (chain_at plan block.task))

-- all dependencies are fetched
abbrev pub working : Plan → Block → Action
working plan block =
    if list_any is_no_memory block.words then actions.Done block.task outcomes.NoMemory
    else if list_any (λ word. not (is_tree word)) block.words then actions.Done block.task outcomes.Blocked
    else if not (length (marked_at plan block.task) == 0) && is_none block.looked then actions.Look block.task
    else keeping plan block (find (is_to_keep plan block) (left_after block.looked (chain_at plan block.task)))

abbrev pub fetching : Plan → Block → Option TaskNo → Action
fetching plan block (Some dep) = actions.Fetch dep
fetching plan block None = working plan block

abbrev pub reading : Key → ℕ → Option Listing → Action
reading key count (Some chunk) = actions.Read key count
reading key count None = actions.Unpin key

abbrev pub filling : Key → Option Listing → Action
filling key (Some chunk) = actions.Put key chunk
filling key None = actions.Commit key

-- what is in hand is brought to its end first
abbrev pub going_on : Plan → Block → Hand → Action
going_on plan block free = fetching plan block (slice_get (deps_at plan block.task) (length block.words))
going_on plan block (reads key count) = reading key count (slice_get (chunks_meant plan key) count)
going_on plan block (fills key count) = filling key (slice_get (chunks_meant plan key) count)

-- where memory was refused, what is in hand is given up
abbrev pub giving_up : TaskNo → Hand → Action
giving_up task free = actions.Done task outcomes.NoMemory
giving_up task (reads key count) = actions.Unpin key
giving_up task (fills key count) = actions.Drop key

-- what a worker does next, where memory was refused in its block, or was not
abbrev pub next : Plan → Progress → Bool → Option Action
next plan idle refused = if refused then None else Some actions.Claim
next plan (busy block) refused = Some (if refused then giving_up block.task block.hand else going_on plan block block.hand)
next plan over refused = None
