-- What a job knows of its worker's own part, by what it is at.
use Rattle.std.proofs.Common.{◌≡◌, ℕ, ◌+◌, ◌<◌, ◌==◌, Bool, true, cond, List, [], ◌∷◌, map, length, drop, Option, Some, None, refl, sym, subst}
use Rattle.std.specs.Prelude.{slice_get, not}
use Rattle.std.specs.List.{All, list_any, slice_index_or}
use Rattle.std.proofs.lemmas.Bool.{cond_both}
use Rattle.std.proofs.lemmas.List.Elements.{All-head, All-tail, All-drop}
use Rattle.osb_tree.specs.Trees.{Listing, empty_tree}
use Rattle.osb_tree.specs.Chunks.{chunks_of}
use Rattle.osb_tree.specs.declared.numbers.Key.{Key}
use Rattle.osb_tree.specs.declared.numbers.TaskNo.{TaskNo}
use Rattle.osb_recipe.specs.Plans.{IsSound, has_key}
use Rattle.osb_recipe.specs.declared.outcomes.Outcome.{Outcome}
use Rattle.osb_recipe.specs.declared.outcomes.Outcome.TheVariants as outcomes
use Rattle.osb_recipe.specs.declared.plans.Plan.{Plan}
use Rattle.osb_tasks.specs.Stages.{made_at}
use Rattle.osb_tasks.specs.declared.stages.Made.{Made}
use Rattle.osb_tasks.specs.declared.stages.Made.TheVariants as made
use Rattle.osb_cache.specs.Caches.{Draft}
use Rattle.osb_job.specs.declared.places.Setup.{Setup}
use Rattle.osb_job.specs.declared.places.Place.{Place}
use Rattle.osb_job.specs.declared.places.Place.TheVariants.{Outside, Gone, Fetching, Looking, Reading, Holding, Reserving, Filling, Putting, Unpinning, Dropping, Ending, Ended}
use Rattle.osb_job.specs.Scripts.{free, reads, fills, idle, progress_of, word_of, is_tree, is_no_memory, chain_at, marked_at, deps_at}
use Rattle.osb_job.specs.Allowed.{Part, IsBusy}
use Rattle.osb_job.specs.Jobs.{Turn, still, after_stage, run_on, run_from, trees_of, begun, gathered, fetching, fetched, refused, IsPlace}
use Rattle.osb_job.proofs.Drafts.{IsFront}
use Rattle.osb_job.proofs.PlanKeys.{IsKey, chain_keys, waits_for}

-- the part is one beside this plan
pub record IsBeside (plan : Plan) (part : Part) : Type 0 where
  pub deps : part.deps ≡ map (λ task. task.deps) plan.tasks
  pub keys : part.keys ≡ length plan.table.recipes

pub record HasDep (part : Part) (task dep : TaskNo) : Type 0 where
  pub busy : IsBusy part task free
  pub waits : list_any (λ d. d.0 == dep.0) (slice_index_or part.deps task.0 []) ≡ true

-- some chunks of a pinned entry are read
pub record IsPinning (part : Part) (task : TaskNo) (key : Key) : Type 0 where
  pub count : ℕ
  pub busy : IsBusy part task (reads key count)

pub record HasPinned (part : Part) (task : TaskNo) (key : Key) (count : ℕ) : Type 0 where
  pub pins : IsPinning part task key
  pub chunks : List Listing
  pub pinned : part.chunks ≡ Some chunks
  pub long : length chunks ≡ count

pub record HasKey (part : Part) (task : TaskNo) (key : Key) : Type 0 where
  pub busy : IsBusy part task free
  pub known : key.0 < part.keys

-- some chunks are staged
pub record IsStaging (part : Part) (task : TaskNo) (key : Key) : Type 0 where
  pub count : ℕ
  pub busy : IsBusy part task (fills key count)

-- of the tree's chunks these are left
pub record HasStaged (part : Part) (task : TaskNo) (key : Key) (tree : Listing) (left : List Listing) : Type 0 where
  pub stages : IsStaging part task key
  pub draft : Draft Listing
  pub own : part.draft ≡ Some draft
  pub front : IsFront draft left (chunks_of tree)

abbrev pub Stands : Part → Place → Type 0
Stands part Outside = progress_of part.mine ≡ idle
Stands part Gone = Unit {0}
Stands part (Fetching task dep got) = HasDep part task dep
Stands part (Looking setup) = IsBusy part setup.task free
Stands part (Reading setup key count parts) = HasPinned part setup.task key count
Stands part (Holding setup key tree) = IsPinning part setup.task key
Stands part (Reserving setup key tree run) = HasKey part setup.task key
Stands part (Filling setup key tree run parts) = HasStaged part setup.task key tree parts
Stands part (Putting setup key tree run parts) = ⊥
Stands part (Unpinning task key) = IsPinning part task key
Stands part (Dropping task key) = IsStaging part task key
Stands part (Ending task outcome) = IsBusy part task free
Stands part Ended = ⊥

pub record Knows (plan : Plan) (part : Part) (place : Place) : Type 0 where
  pub beside : IsBeside plan part
  pub is : IsPlace place
  pub stands : Stands part place

-- ---- after stages are run

stage_stands : (part : Part) (task : TaskNo) (run : ℕ) (later : Listing → Turn) (made : Made) → IsBusy part task free → ((tree : Listing) → Stands part (later tree).place) → Stands part (after_stage task run later made).place
stage_stands part task run later (made.Tree tree) busy on = on tree
stage_stands part task run later (made.Fault fault) busy on = busy
stage_stands part task run later made.Blocked busy on = busy

module _ (plan : Plan) (part : Part) (beside : IsBeside plan part) where
  run_on_stands : (setup : Setup) (run : ℕ) (tree : Listing) (keys : List Key) → All (IsKey plan) keys → IsBusy part setup.task free → Stands part (run_on plan setup run tree keys).place
  run_on_stands setup run tree [] known busy = busy
  run_on_stands setup run tree (key ∷ keys) known busy =
      let is_marked : Bool = has_key (marked_at plan setup.task) key in
      let keeps : Listing → Turn = λ next. still (Reserving setup key next (run + 1)) in
      let goes : Listing → Turn = λ next. run_on plan setup (run + 1) next keys in
      let here : HasKey part setup.task key = record { busy = busy; known = subst (λ count. key.0 < count) (sym beside.keys) (All-head (IsKey plan) key keys known) } in
      stage_stands part setup.task run (λ next. cond is_marked (keeps next) (goes next)) (made_at setup.trees plan.table key tree) busy
      (λ next. cond_both is_marked (keeps next) (goes next) (λ turn. Stands part turn.place) (λ _. here) (λ _. run_on_stands setup (run + 1) next keys (All-tail (IsKey plan) key keys known) busy))

  pub run_stands : (setup : Setup) (run : ℕ) (tree : Listing) → IsSound plan → IsBusy part setup.task free → Stands part (run_from plan setup run tree).place
  run_stands setup run tree sound busy =
      let chain = chain_at plan setup.task in
      run_on_stands setup run tree (drop run chain) (All-drop (IsKey plan) run chain (chain_keys plan setup.task sound)) busy

  -- ---- after outcomes are fetched

  begun_stands : (setup : Setup) → IsSound plan → IsBusy part setup.task free → Stands part (begun plan setup).place
  begun_stands setup sound busy =
      cond_both (length (marked_at plan setup.task) == 0) (run_from plan setup 0 empty_tree) (still (Looking setup)) (λ turn. Stands part turn.place) (λ _. run_stands setup 0 empty_tree sound busy) (λ _. busy)

  gathered_stands : (task : TaskNo) (got : List Outcome) → IsSound plan → IsBusy part task free → Stands part (gathered plan task got).place
  gathered_stands task got sound busy =
      let setup : Setup = record { task = task; trees = trees_of plan (deps_at plan task) got } in
      let blocked : Turn = cond (list_any (λ outcome. not (is_tree (word_of outcome))) got) (still (Ending task outcomes.Blocked)) (begun plan setup) in
      cond_both (list_any (λ outcome. is_no_memory (word_of outcome)) got) (still (Ending task outcomes.NoMemory)) blocked (λ turn. Stands part turn.place) (λ _. busy)
      (λ _. cond_both (list_any (λ outcome. not (is_tree (word_of outcome))) got) (still (Ending task outcomes.Blocked)) (begun plan setup) (λ turn. Stands part turn.place) (λ _. busy) (λ _. begun_stands setup sound busy))

  pub fetched_stands : (task : TaskNo) (got : List Outcome) → IsSound plan → IsBusy part task free → Stands part (fetched plan task got).place
  fetched_stands task got sound busy = by (slice_get (deps_at plan task) (length got)) refl
    where
      by : (dep : Option TaskNo) → slice_get (deps_at plan task) (length got) ≡ dep → Stands part (fetching plan task got dep).place
      by None is = gathered_stands task got sound busy
      by (Some dep) is = record { busy = busy; waits = waits_for plan part.deps task dep (length got) beside.deps is }

-- ---- after memory was refused

pub refused_stands : (part : Part) (place : Place) → Stands part place → Stands part (refused place)
refused_stands part Outside stands = tt
refused_stands part Gone stands = tt
refused_stands part (Fetching task dep got) stands = stands.busy
refused_stands part (Looking setup) stands = stands
refused_stands part (Reading setup key count parts) stands = stands.pins
refused_stands part (Holding setup key tree) stands = stands
refused_stands part (Reserving setup key tree run) stands = stands.busy
refused_stands part (Filling setup key tree run parts) stands = stands.stages
refused_stands part (Putting setup key tree run parts) stands = absurd stands
refused_stands part (Unpinning task key) stands = stands
refused_stands part (Dropping task key) stands = stands
refused_stands part (Ending task outcome) stands = stands
refused_stands part Ended stands = stands

pub refused_is : (place : Place) → IsPlace (refused place)
refused_is Outside = tt
refused_is place = tt
