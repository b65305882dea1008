-- A job step by step: which action it wants, and where a reply takes it.
use Rattle.std.specs.Prelude.{◌≡◌, ℕ, ◌+◌, ◌<◌, ◌≤◌, ◌==◌, ◌⊎◌, not, List, [], ◌∷◌, ◌++◌, length, drop, slice_get, nat_lt, replicate, Option, Some, None, if◌then◌else◌}
use Rattle.std.specs.List.{list_any, position_or_len}
use Rattle.osb_tree.specs.Trees.{Listing, IsTree, IsWithinLimits, tree_size, empty_tree}
use Rattle.osb_tree.specs.Chunks.{chunk_count, chunks_of, pairs_of, AreOfATree}
use Rattle.osb_tree.specs.declared.numbers.Key.{Key}
use Rattle.osb_tree.specs.declared.numbers.TaskNo.{TaskNo}
use Rattle.osb_tree.specs.declared.numbers.WorkerNo.{WorkerNo}
use Rattle.osb_recipe.specs.Works.{tree_of}
use Rattle.osb_recipe.specs.Meanings.{Found}
use Rattle.osb_recipe.specs.Plans.{has_key}
use Rattle.osb_recipe.specs.Tables.{last_of}
use Rattle.osb_recipe.specs.declared.outcomes.Outcome.{Outcome}
use Rattle.osb_recipe.specs.declared.outcomes.Outcome.TheVariants as outcomes
use Rattle.osb_recipe.specs.declared.plans.Plan.{Plan}
use Rattle.osb_tasks.specs.Running.{with_tree}
use Rattle.osb_tasks.specs.Stages.{made_at, steps_at}
use Rattle.osb_tasks.specs.declared.stages.Made.{Made}
use Rattle.osb_tasks.specs.declared.stages.Made.TheVariants as made
use Rattle.osb_board.specs.declared.tasks.Claim.TheVariants as claims
use Rattle.osb_cache.specs.declared.answers.Look.{Look}
use Rattle.osb_cache.specs.declared.answers.Look.TheVariants as looks
use Rattle.osb_cache.specs.declared.answers.Reserve.{Reserve}
use Rattle.osb_cache.specs.declared.answers.Reserve.TheVariants as reserves
use Rattle.osb_job.specs.declared.actions.Action.{Action}
use Rattle.osb_job.specs.declared.actions.Action.TheVariants as actions
use Rattle.osb_job.specs.declared.actions.Reply.{Reply}
use Rattle.osb_job.specs.declared.actions.Reply.TheVariants as replies
use Rattle.osb_job.specs.declared.places.Setup.{Setup}
use Rattle.osb_job.specs.declared.places.Place.{Place}
use Rattle.osb_job.specs.declared.places.Place.TheVariants.{Outside, Gone, Fetching, Looking, Reading, Holding, Reserving, Filling, Putting, Unpinning, Dropping, Ending, Ended}
use Rattle.osb_job.specs.Scripts.{word_of, is_tree, is_no_memory, chain_at, marked_at, deps_at}

pub record JobState : Type 0 where
  pub worker : WorkerNo
  pub place : Place

-- ---- the next action

abbrev pub filling : Key → List Listing → Action
filling key [] = actions.Commit key
filling key (chunk ∷ chunks) = actions.Put key chunk

abbrev pub wants : Place → Option Action
wants Outside = Some actions.Claim
wants Gone = None
wants (Fetching task dep got) = Some (actions.Fetch dep)
wants (Looking setup) = Some (actions.Look setup.task)
wants (Reading setup key count parts) = Some (actions.Read key (length parts))
wants (Holding setup key tree) = Some (actions.Unpin key)
wants (Reserving setup key tree run) = Some (actions.Reserve key (tree_size tree) (chunk_count tree))
wants (Filling setup key tree run parts) = Some (filling key parts)
wants (Putting setup key tree run parts) = None
wants (Unpinning task key) = Some (actions.Unpin key)
wants (Dropping task key) = Some (actions.Drop key)
wants (Ending task outcome) = Some (actions.Done task outcome)
wants Ended = None

-- a chunk, and an outcome, are handed out with the action
abbrev pub asked : Place → Place
asked (Filling setup key tree run (chunk ∷ chunks)) = Putting setup key tree run chunks
asked (Ending task outcome) = Ended
asked place = place

-- what is handed out was replied to
abbrev pub CanWant : Place → Type 0
CanWant (Putting setup key tree run parts) = ⊥
CanWant Ended = ⊥
CanWant place = Unit {0}

-- ---- running stages

-- where a job is, and how many stages were run on the way
pub record Turn : Type 0 where
  pub place : Place
  pub steps : ℕ

abbrev pub still : Place → Turn
still place = record { place = place; steps = 0 }

abbrev pub after_steps : ℕ → Turn → Turn
after_steps steps next = record { place = next.place; steps = steps + next.steps }

abbrev pub after_stage : TaskNo → ℕ → (Listing → Turn) → Made → Turn
after_stage task run later (made.Tree tree) = later tree
after_stage task run later (made.Fault fault) = still (Ending task (outcomes.Fault run fault))
after_stage task run later made.Blocked = still (Ending task outcomes.Blocked)

-- the stages of these keys are run, as far as a marked one that has a tree; so many were run before
abbrev pub run_on : Plan → Setup → ℕ → Listing → List Key → Turn
run_on plan setup run tree [] = still (Ending setup.task (outcomes.Tree tree))
run_on plan setup run tree (key ∷ keys) =
    after_steps (steps_at setup.trees plan.table key)
    (after_stage setup.task run
    (λ next. if has_key (marked_at plan setup.task) key then still (Reserving setup key next (run + 1)) else run_on plan setup (run + 1) next keys)
    (made_at setup.trees plan.table key tree))

-- from a place of the chain on
abbrev pub run_from : Plan → Setup → ℕ → Listing → Turn
run_from plan setup run tree = run_on plan setup run tree (drop run (chain_at plan setup.task))

-- the place of a chain behind a key
abbrev pub place_behind : Key → List Key → ℕ
place_behind key chain = position_or_len (λ k. k.0 == key.0) chain + 1

-- ---- what a reply does

-- the trees of outcomes, by the keys that the chains of their tasks end with
abbrev pub trees_with : Plan → List TaskNo → List Outcome → Found → Found
trees_with plan [] got found = found
trees_with plan (dep ∷ deps) [] found = found
trees_with plan (dep ∷ deps) (outcome ∷ got) found = trees_with plan deps got (with_tree (last_of (chain_at plan dep)) (tree_of outcome) found)

abbrev pub trees_of : Plan → List TaskNo → List Outcome → Found
trees_of plan deps got = trees_with plan deps got (replicate (length plan.table.recipes) None)

abbrev pub begun : Plan → Setup → Turn
begun plan setup = if length (marked_at plan setup.task) == 0 then run_from plan setup 0 empty_tree else still (Looking setup)

-- all outcomes are fetched
abbrev pub gathered : Plan → TaskNo → List Outcome → Turn
gathered plan task got =
    if list_any (λ outcome. is_no_memory (word_of outcome)) got then still (Ending task outcomes.NoMemory)
    else if list_any (λ outcome. not (is_tree (word_of outcome))) got then still (Ending task outcomes.Blocked)
    else begun plan (record { task = task; trees = trees_of plan (deps_at plan task) got })

abbrev pub fetching : Plan → TaskNo → List Outcome → Option TaskNo → Turn
fetching plan task got (Some dep) = still (Fetching task dep got)
fetching plan task got None = gathered plan task got

-- so many outcomes are fetched
abbrev pub fetched : Plan → TaskNo → List Outcome → Turn
fetched plan task got = fetching plan task got (slice_get (deps_at plan task) (length got))

abbrev pub looked : Plan → Setup → Look → Turn
looked plan setup (looks.Hit place key count) = still (Reading setup key count [])
looked plan setup looks.Miss = run_from plan setup 0 empty_tree

abbrev pub read : Setup → Key → ℕ → List Listing → Turn
read setup key count parts = still (if nat_lt (length parts) count then Reading setup key count parts else Holding setup key (pairs_of parts))

abbrev pub reserved : Plan → Setup → Key → Listing → ℕ → Reserve → Turn
reserved plan setup key tree run (reserves.Room evicted) = still (Filling setup key tree run (chunks_of tree))
reserved plan setup key tree run reserves.Already = run_from plan setup run tree
reserved plan setup key tree run reserves.TooLarge = run_from plan setup run tree
reserved plan setup key tree run reserves.Full = run_from plan setup run tree

-- where a reply takes a job that has asked, where no memory is refused on the way
abbrev pub taken : Plan → Place → Reply → Turn
taken plan Outside (replies.Claimed (claims.Task task)) = fetched plan task []
taken plan Outside (replies.Claimed claims.Over) = still Gone
taken plan (Fetching task dep got) (replies.Fetched outcome) = fetched plan task (got ++ outcome ∷ [])
taken plan (Looking setup) (replies.Looked look) = looked plan setup look
taken plan (Reading setup key count parts) (replies.Chunk chunk) = read setup key count (parts ++ chunk ∷ [])
taken plan (Holding setup key tree) replies.Plain = run_from plan setup (place_behind key (chain_at plan setup.task)) tree
taken plan (Reserving setup key tree run) (replies.Reserved reserve) = reserved plan setup key tree run reserve
taken plan (Filling setup key tree run parts) replies.Plain = run_from plan setup run tree
taken plan (Putting setup key tree run parts) replies.Plain = still (Filling setup key tree run parts)
taken plan (Unpinning task key) replies.Plain = still (Ending task outcomes.NoMemory)
taken plan (Dropping task key) replies.Plain = still (Ending task outcomes.NoMemory)
taken plan Ended replies.Plain = still Outside
taken plan place reply = still place

-- ---- where memory is refused

-- what is in hand is given up, and then the task ends; without a task the job leaves
abbrev pub refused : Place → Place
refused Outside = Gone
refused Gone = Gone
refused (Fetching task dep got) = Ending task outcomes.NoMemory
refused (Looking setup) = Ending setup.task outcomes.NoMemory
refused (Reading setup key count parts) = Unpinning setup.task key
refused (Holding setup key tree) = Unpinning setup.task key
refused (Reserving setup key tree run) = Ending setup.task outcomes.NoMemory
refused (Filling setup key tree run parts) = Dropping setup.task key
refused (Putting setup key tree run parts) = Dropping setup.task key
refused (Unpinning task key) = Unpinning task key
refused (Dropping task key) = Dropping task key
refused (Ending task outcome) = Ending task outcomes.NoMemory
refused Ended = Ended

-- a turn was made as it is due
pub record IsAsDue (next : Turn) (steps steps' : ℕ) (place : Place) : Type 0 where
  pub place_is : place ≡ next.place
  pub steps_are : steps' ≡ steps + next.steps

-- memory was refused on the way: some of its stages may not have been run
pub record IsCut (next : Turn) (steps steps' : ℕ) : Type 0 where
  pub more : steps ≤ steps'
  pub most : steps' ≤ steps + next.steps

abbrev pub IsTaken : Turn → ℕ → ℕ → Place → Type 0
IsTaken next steps steps' place = IsAsDue next steps steps' place ⊎ ((place ≡ refused next.place) × IsCut next steps steps')

-- ---- which replies fit

-- a claimed task is in the plan; a hit names a marked key of the task at its place, and has chunks; the chunks of an
-- entry, once all are read, are those of a tree
abbrev pub Fits : Plan → Place → Reply → Type 0
Fits plan Outside (replies.Claimed (claims.Task task)) = task.0 < length plan.tasks
Fits plan Outside (replies.Claimed claims.Idle) = Unit {0}
Fits plan Outside (replies.Claimed claims.Over) = Unit {0}
Fits plan (Fetching task dep got) (replies.Fetched outcome) = Unit {0}
Fits plan (Looking setup) (replies.Looked (looks.Hit place key count)) = (slice_get (marked_at plan setup.task) place ≡ Some key) × 0 < count
Fits plan (Looking setup) (replies.Looked looks.Miss) = Unit {0}
Fits plan (Reading setup key count parts) (replies.Chunk chunk) = length (parts ++ chunk ∷ []) ≡ count → AreOfATree (parts ++ chunk ∷ [])
Fits plan (Holding setup key tree) replies.Plain = Unit {0}
Fits plan (Reserving setup key tree run) (replies.Reserved reserve) = Unit {0}
Fits plan (Filling setup key tree run []) replies.Plain = Unit {0}
Fits plan (Putting setup key tree run parts) replies.Plain = Unit {0}
Fits plan (Unpinning task key) replies.Plain = Unit {0}
Fits plan (Dropping task key) replies.Plain = Unit {0}
Fits plan Ended replies.Plain = Unit {0}
Fits plan place reply = ⊥

-- ---- what holds of each job

-- the trees of a task stand by the keys of the plan
abbrev pub HasTrees : Plan → Setup → Type 0
HasTrees plan setup = length setup.trees ≡ length plan.table.recipes

-- the job has this plan from its first reply on
abbrev pub IsOf : Plan → Place → Type 0
IsOf plan (Looking setup) = HasTrees plan setup
IsOf plan (Reading setup key count parts) = HasTrees plan setup
IsOf plan (Holding setup key tree) = HasTrees plan setup
IsOf plan (Reserving setup key tree run) = HasTrees plan setup
IsOf plan (Filling setup key tree run parts) = HasTrees plan setup
IsOf plan (Putting setup key tree run parts) = HasTrees plan setup
IsOf plan place = Unit {0}

-- what is in hand is the listing of a tree; some chunks of an entry are still to be read
pub record IsWhole (tree : Listing) : Type 0 where
  pub tree_is : IsTree tree
  pub limits : IsWithinLimits tree

abbrev pub IsPlace : Place → Type 0
IsPlace (Reading setup key count parts) = length parts < count
IsPlace (Holding setup key tree) = IsWhole tree
IsPlace (Reserving setup key tree run) = IsWhole tree
IsPlace (Filling setup key tree run parts) = IsWhole tree
IsPlace (Putting setup key tree run parts) = IsWhole tree
IsPlace place = Unit {0}
