-- What a job is at, against how far its worker is by its own entries, where it was replied what the plan means.
use Rattle.std.proofs.Common.{◌≡◌, ◌⊎◌, ◌==◌, ◌&&◌, ℕ, ◌<◌, Bool, true, false, not, List, [], ◌∷◌, ◌++◌, length, map, take, drop, find, Option, Some, None}
use Rattle.std.specs.Prelude.{slice_get, is_none}
use Rattle.std.specs.List.{list_any}
use Rattle.osb_tree.specs.Trees.{Listing, tree_size}
use Rattle.osb_tree.specs.Chunks.{chunk_count}
use Rattle.osb_tree.specs.declared.numbers.Key.{Key}
use Rattle.osb_tree.specs.declared.numbers.TaskNo.{TaskNo}
use Rattle.osb_recipe.specs.Meanings.{meaning, meant}
use Rattle.osb_recipe.specs.Plans.{has_key}
use Rattle.osb_recipe.specs.declared.references.TreeRef.{TreeRef}
use Rattle.osb_recipe.specs.declared.outcomes.Outcome.{Outcome}
use Rattle.osb_recipe.specs.declared.plans.Plan.{Plan}
use Rattle.osb_job.specs.declared.actions.Action.TheVariants as actions
use Rattle.osb_job.specs.declared.entries.Word.{Word}
use Rattle.osb_job.specs.declared.places.Setup.{Setup}
use Rattle.osb_job.specs.declared.places.Place.{Place}
use Rattle.osb_job.specs.declared.places.Place.TheVariants.{Outside, Gone, Fetching, Looking, Reading, Holding, Reserving, Filling, Putting, Unpinning, Dropping, Ending, Ended}
use Rattle.osb_job.specs.Scripts.{Hand, free, reads, fills, Block, Progress, idle, busy, over, chain_at, marked_at, deps_at, chunks_meant, word_of, is_tree, is_no_memory, left_after, is_to_keep, next}
use Rattle.osb_job.proofs.AlikeStages.{CanRun}
use Rattle.osb_job.proofs.ChainRests.{IsRest}
use Rattle.osb_job.proofs.PlanTasks.{IsKnown}
use Rattle.osb_job.proofs.FetchedTrees.{AreTold}

abbrev pub block_at : TaskNo → List Word → Option (Option Key) → List Key → Hand → Block
block_at task words looked tried hand = record { task = task; words = words; looked = looked; tried = tried; hand = hand }

-- all dependencies are fetched, and are trees
pub record IsReady (plan : Plan) (task : TaskNo) (words : List Word) : Type 0 where
  pub fetched : slice_get (deps_at plan task) (length words) ≡ None
  pub memory : list_any is_no_memory words ≡ false
  pub trees : list_any (λ word. not (is_tree word)) words ≡ false

-- so the stages of the task's chain can run
pub record IsPrepared (plan : Plan) (setup : Setup) (words : List Word) : Type 0 where
  pub ready : IsReady plan setup.task words
  pub known : IsKnown plan setup.task
  pub stages : CanRun plan.table setup.trees (chain_at plan setup.task)

-- a tree is in hand, and the rest of the chain is to be run: the script goes through the same keys
pub record IsOnWay (plan : Plan) (setup : Setup) (words : List Word) (looked : Option (Option Key)) (tried : List Key) (run : ℕ) (tree : Listing) (base : TreeRef) (rest : List Key) : Type 0 where
  pub prepared : IsPrepared plan setup words
  pub here : drop run (chain_at plan setup.task) ≡ rest
  pub at : IsRest plan.table setup.trees (meant plan.table (chain_at plan setup.task)) run tree base rest
  pub untried : (key : Key) → has_key rest key ≡ true → has_key tried key ≡ false
  -- whatever is tried beside
  pub left : (more : List Key) → find (is_to_keep plan (block_at setup.task words looked (tried ++ more) free)) (left_after looked (chain_at plan setup.task)) ≡ find (is_to_keep plan (block_at setup.task words looked (tried ++ more) free)) rest
  pub seen : (not (length (marked_at plan setup.task) == 0) && is_none looked) ≡ false

-- ---- by the place

pub record IsFetching (plan : Plan) (task dep : TaskNo) (got : List Outcome) (progress : Progress) (off : Bool) : Type 0 where
  pub at : progress ≡ busy (block_at task (map word_of got) None [] free)
  pub fine : off ≡ false
  pub known : IsKnown plan task
  pub next : slice_get (deps_at plan task) (length got) ≡ Some dep
  pub told : AreTold plan (deps_at plan task) got

pub record IsLooking (plan : Plan) (setup : Setup) (progress : Progress) (off : Bool) : Type 0 where
  pub words : List Word
  pub at : progress ≡ busy (block_at setup.task words None [] free)
  pub fine : off ≡ false
  pub prepared : IsPrepared plan setup words
  pub some : (length (marked_at plan setup.task) == 0) ≡ false

-- the first chunks of the tree that a marked key means are read
pub record IsReading (plan : Plan) (setup : Setup) (key : Key) (count : ℕ) (parts : List Listing) (progress : Progress) (off : Bool) : Type 0 where
  pub words : List Word
  pub at : progress ≡ busy (block_at setup.task words (Some (Some key)) [] (reads key (length parts)))
  pub fine : off ≡ false
  pub prepared : IsPrepared plan setup words
  pub marked : has_key (marked_at plan setup.task) key ≡ true
  pub all : count ≡ length (chunks_meant plan key)
  pub first : parts ≡ take (length parts) (chunks_meant plan key)
  pub more : length parts < count

pub record IsHolding (plan : Plan) (setup : Setup) (key : Key) (tree : Listing) (progress : Progress) (off : Bool) : Type 0 where
  pub words : List Word
  pub at : progress ≡ busy (block_at setup.task words (Some (Some key)) [] (reads key (length (chunks_meant plan key))))
  pub fine : off ≡ false
  pub prepared : IsPrepared plan setup words
  pub marked : has_key (marked_at plan setup.task) key ≡ true
  pub means : meaning plan.table key ≡ Some tree

pub record IsReserving (plan : Plan) (setup : Setup) (key : Key) (tree : Listing) (run : ℕ) (progress : Progress) (off : Bool) : Type 0 where
  pub words : List Word
  pub looked : Option (Option Key)
  pub tried : List Key
  pub base : TreeRef
  pub rest : List Key
  pub at : progress ≡ busy (block_at setup.task words looked tried free)
  pub fine : off ≡ false
  pub means : meaning plan.table key ≡ Some tree
  pub asks : next plan progress off ≡ Some (actions.Reserve key (tree_size tree) (chunk_count tree))
  pub way : IsOnWay plan setup words looked (tried ++ key ∷ []) run tree base rest

-- so many chunks are put, and these are left
pub record IsFilling (plan : Plan) (setup : Setup) (key : Key) (tree : Listing) (run : ℕ) (parts : List Listing) (progress : Progress) (off : Bool) : Type 0 where
  pub words : List Word
  pub looked : Option (Option Key)
  pub tried : List Key
  pub base : TreeRef
  pub rest : List Key
  pub count : ℕ
  pub at : progress ≡ busy (block_at setup.task words looked tried (fills key count))
  pub fine : off ≡ false
  pub left : drop count (chunks_meant plan key) ≡ parts
  pub way : IsOnWay plan setup words looked tried run tree base rest

-- memory was refused, and this is given up
pub record GivesUp (task : TaskNo) (hand : Hand) (progress : Progress) (off : Bool) : Type 0 where
  pub words : List Word
  pub looked : Option (Option Key)
  pub tried : List Key
  pub at : progress ≡ busy (block_at task words looked tried hand)
  pub refused : off ≡ true

pub record IsEnding (plan : Plan) (task : TaskNo) (outcome : Outcome) (progress : Progress) (off : Bool) : Type 0 where
  pub words : List Word
  pub looked : Option (Option Key)
  pub tried : List Key
  pub at : progress ≡ busy (block_at task words looked tried free)
  pub ends : next plan progress off ≡ Some (actions.Done task outcome)

abbrev pub Agrees : Plan → Place → Progress → Bool → Type 0
Agrees plan Outside progress off = (progress ≡ idle) × (off ≡ false)
Agrees plan Gone progress off = (progress ≡ over) ⊎ ((progress ≡ idle) × (off ≡ true))
Agrees plan (Fetching task dep got) progress off = IsFetching plan task dep got progress off
Agrees plan (Looking setup) progress off = IsLooking plan setup progress off
Agrees plan (Reading setup key count parts) progress off = IsReading plan setup key count parts progress off
Agrees plan (Holding setup key tree) progress off = IsHolding plan setup key tree progress off
Agrees plan (Reserving setup key tree run) progress off = IsReserving plan setup key tree run progress off
Agrees plan (Filling setup key tree run parts) progress off = IsFilling plan setup key tree run parts progress off
Agrees plan (Putting setup key tree run parts) progress off = ⊥
Agrees plan (Unpinning task key) progress off = (count : ℕ) × GivesUp task (reads key count) progress off
Agrees plan (Dropping task key) progress off = (count : ℕ) × GivesUp task (fills key count) progress off
Agrees plan (Ending task outcome) progress off = IsEnding plan task outcome progress off
Agrees plan Ended progress off = ⊥
