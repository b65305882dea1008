-- What a whole run does, from its words on, as it is seen from outside.
use Rattle.std.specs.Prelude.{◌≡◌, ℕ, ◌⊎◌, Bool, true, false, List, Option, Some, None, IfSome, IfOk, Result, Ok, Err, count_by}
use Rattle.std.specs.List.{AllZip}
use Rattle.osb_base.specs.Shelves.{Files, file_of}
use Rattle.osb_base.specs.declared.faults.ReadStop.TheVariants as read_stops
use Rattle.osb_store.specs.declared.stores.Store.{Store}
use Rattle.osb_store.specs.declared.refusals.StoreRefusal.{StoreRefusal}
use Rattle.osb_words.specs.declared.requests.Settings.{Settings}
use Rattle.osb_ready.specs.Readying.{Reply}
use Rattle.osb_builder.specs.Stores.{Opens}
use Rattle.osb_answers.specs.Exports.{HasRisen, RoseBy}
use Rattle.osb_top.specs.Seen.{ShelfSeen, KeeperSeen, Seen}
use Rattle.osb_top.specs.Stops.{Stops, words_refused, load_failed, store_refused, no_memory}
use Rattle.osb_top.specs.Runs.{IsRunOver}

-- ---- manifests

-- where the shelf tells, bytes that are given are those that it holds under the name, and none are where it holds none
abbrev pub IsGiven : Option Files → List ℕ → Reply → Type 0
IsGiven held name reply = IfSome held (λ files. IfOk reply (λ found. found ≡ file_of files name))

abbrev pub is_fault : Reply → Bool
is_fault (Err read_stops.Failed) = true
is_fault (Err read_stops.NoMemory) = false
is_fault (Ok found) = false

-- each manifest is read, and the run goes on with what was given; the shelf's count rose by the reads that failed
pub record Reads (settings : Settings) (workers : ℕ) (store : Store) (shelf : ShelfSeen) (seen : Seen) (status : ℕ) : Type 0 where
  pub reads : List Reply
  pub given : AllZip (IsGiven shelf.files) settings.manifests reads
  pub faults : RoseBy (count_by is_fault reads) shelf.faults
  pub run : IsRunOver settings workers store reads seen status

-- ---- the store

-- what is opened is a store, over which the run goes on, or is refused
abbrev pub GoesOnWith : Settings → ℕ → ShelfSeen → Seen → ℕ → Result Store StoreRefusal → Type 0
GoesOnWith settings workers shelf seen status (Err refusal) = Stops seen (store_refused refusal) status
GoesOnWith settings workers shelf seen status (Ok store) = Reads settings workers store shelf seen status

pub record OpensStore (settings : Settings) (workers : ℕ) (loaded : Option (List ℕ)) (shelf : ShelfSeen) (seen : Seen) (status : ℕ) : Type 0 where
  pub opened : Result Store StoreRefusal
  pub opens : Opens loaded opened
  pub run : GoesOnWith settings workers shelf seen status opened

-- without a store none is loaded; with it a keeper that tells gave what it held
abbrev pub IsLoaded : Option (List ℕ) → Option (Option (List ℕ)) → Reply → Type 0
IsLoaded None held loaded = loaded ≡ Ok None
IsLoaded (Some name) held loaded = IfSome held (λ bytes. IfOk loaded (λ found. found ≡ bytes))

-- without a store the keeper is not called
abbrev pub IsUncalled : Option (List ℕ) → KeeperSeen → Type 0
IsUncalled None keeper = (keeper.now ≡ keeper.before) × (keeper.faults.now ≡ keeper.faults.before)
IsUncalled (Some name) keeper = Unit {0}

-- the store was loaded, or the keeper failed, or there was no memory
abbrev pub GoesOnFrom : Settings → ℕ → ShelfSeen → Seen → ℕ → Reply → Type 0
GoesOnFrom settings workers shelf seen status (Err read_stops.Failed) = Stops seen load_failed status × HasRisen seen.keeper.faults
GoesOnFrom settings workers shelf seen status (Err read_stops.NoMemory) = Stops seen no_memory status
GoesOnFrom settings workers shelf seen status (Ok loaded) = OpensStore settings workers loaded shelf seen status ⊎ Stops seen no_memory status

pub record Loads (settings : Settings) (workers : ℕ) (shelf : ShelfSeen) (seen : Seen) (status : ℕ) : Type 0 where
  pub loaded : Reply
  pub load : IsLoaded settings.store seen.keeper.before loaded
  pub uncalled : IsUncalled settings.store seen.keeper
  pub run : GoesOnFrom settings workers shelf seen status loaded

-- ---- words

-- what the words ask for is run; words are refused only for a cause, and for want of memory it may not be known
abbrev pub IsRun : (Settings → ℕ) → Type 0 → Option Settings → ShelfSeen → Seen → ℕ → Type 0
IsRun workers refused None shelf seen status = Stops seen words_refused status ⊎ Stops seen no_memory status
IsRun workers refused (Some settings) shelf seen status =
    Loads settings (workers settings) shelf seen status ⊎ (Stops seen no_memory status ⊎ (Stops seen words_refused status × refused))
