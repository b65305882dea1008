-- What a worker may do, whatever the shared state is beyond its own part.
use Rattle.std.specs.Prelude.{◌≡◌, ℕ, ◌<◌, ◌==◌, true, List, [], length, map, take, Option, Some}
use Rattle.std.specs.List.{list_any, slice_index_or}
use Rattle.osb_tree.specs.Trees.{Listing, tree_size}
use Rattle.osb_tree.specs.Chunks.{AreOfATree}
use Rattle.osb_tree.specs.declared.numbers.Key.{Key}
use Rattle.osb_tree.specs.declared.numbers.TaskNo.{TaskNo}
use Rattle.osb_recipe.specs.Meanings.{meaning}
use Rattle.osb_recipe.specs.declared.plans.Plan.{Plan}
use Rattle.osb_cache.specs.Caches.{Draft, HasRoom, IsWhole}
use Rattle.osb_job.specs.declared.actions.Action.{Action}
use Rattle.osb_job.specs.declared.actions.Action.TheVariants as actions
use Rattle.osb_job.specs.declared.entries.Entry.{Entry}
use Rattle.osb_job.specs.Scripts.{Hand, free, reads, fills, Block, Progress, idle, busy, over, progress_of, chunks_meant, size_meant}

-- what of the shared state is a worker's own: its entries, what it has staged, and the chunks of the entry that it has
-- pinned; beside what is known of the plan, the dependencies of its tasks and the number of its keys
pub record Part : Type 0 where
  pub deps : List (List TaskNo)
  pub keys : ℕ
  pub mine : List Entry
  pub draft : Option (Draft Listing)
  pub chunks : Option (List Listing)

-- the worker is in a block, with this in hand
pub record IsBusy (part : Part) (task : TaskNo) (hand : Hand) : Type 0 where
  pub block : Block
  pub at : progress_of part.mine ≡ busy block
  pub task_is : block.task ≡ task
  pub hand_is : block.hand ≡ hand

pub record MayFetch (part : Part) (dep : TaskNo) : Type 0 where
  pub task : TaskNo
  pub hand : Hand
  pub busy : IsBusy part task hand
  pub waits : list_any (λ d. d.0 == dep.0) (slice_index_or part.deps task.0 []) ≡ true

pub record MayReserve (part : Part) (key : Key) : Type 0 where
  pub task : TaskNo
  pub busy : IsBusy part task free
  pub known : key.0 < part.keys

-- an entry of this key is pinned
pub record IsReading (part : Part) (key : Key) : Type 0 where
  pub task : TaskNo
  pub count : ℕ
  pub busy : IsBusy part task (reads key count)

pub record MayRead (part : Part) (key : Key) (place : ℕ) : Type 0 where
  pub reading : IsReading part key
  pub chunks : List Listing
  pub pinned : part.chunks ≡ Some chunks
  pub within : place < length chunks

-- an entry of this key is staged
pub record IsFilling (part : Part) (key : Key) : Type 0 where
  pub task : TaskNo
  pub count : ℕ
  pub busy : IsBusy part task (fills key count)

pub record MayPut (part : Part) (key : Key) (chunk : Listing) : Type 0 where
  pub filling : IsFilling part key
  pub draft : Draft Listing
  pub own : part.draft ≡ Some draft
  pub room : HasRoom tree_size chunk draft

pub record MayCommit (part : Part) (key : Key) : Type 0 where
  pub filling : IsFilling part key
  pub draft : Draft Listing
  pub own : part.draft ≡ Some draft
  pub whole : IsWhole tree_size draft
  pub tree : AreOfATree draft.chunks

abbrev pub Allowed : Part → Action → Type 0
Allowed part actions.Claim = progress_of part.mine ≡ idle
Allowed part (actions.Fetch dep) = MayFetch part dep
Allowed part (actions.Look task) = IsBusy part task free
Allowed part (actions.Read key place) = MayRead part key place
Allowed part (actions.Unpin key) = IsReading part key
Allowed part (actions.Reserve key size count) = MayReserve part key
Allowed part (actions.Put key chunk) = MayPut part key chunk
Allowed part (actions.Commit key) = MayCommit part key
Allowed part (actions.Drop key) = IsFilling part key
Allowed part (actions.Done task outcome) = IsBusy part task free

-- ---- where the cache began with what the plan means

-- the key of a staged entry has a tree: the entry has its size and number of chunks, and so many of them are put
pub record IsTrueDraft (plan : Plan) (part : Part) (key : Key) (count : ℕ) : Type 0 where
  pub tree : Listing
  pub means : meaning plan.table key ≡ Some tree
  pub draft : Draft Listing
  pub own : part.draft ≡ Some draft
  pub size : draft.size ≡ size_meant plan key
  pub count_is : draft.count ≡ length (chunks_meant plan key)
  pub chunks : draft.chunks ≡ take count (chunks_meant plan key)

abbrev pub IsTrueHand : Plan → Part → Hand → Type 0
IsTrueHand plan part free = Unit {0}
IsTrueHand plan part (reads key count) = part.chunks ≡ Some (chunks_meant plan key)
IsTrueHand plan part (fills key count) = IsTrueDraft plan part key count

abbrev pub IsTrueBlock : Plan → Part → Progress → Type 0
IsTrueBlock plan part idle = Unit {0}
IsTrueBlock plan part (busy block) = IsTrueHand plan part block.hand
IsTrueBlock plan part over = Unit {0}

-- what a worker has pinned or staged is what the plan means
pub record IsTruePart (plan : Plan) (part : Part) : Type 0 where
  pub deps : part.deps ≡ map (λ task. task.deps) plan.tasks
  pub keys : part.keys ≡ length plan.table.recipes
  pub hand : IsTrueBlock plan part (progress_of part.mine)
