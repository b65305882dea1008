-- Runs in which no count of faults rose, over a true store: each build is answered what is due of it, and each of its
-- exports is whole, want of memory aside.
use Rattle.std.specs.Prelude.{◌≡◌, ◌≢◌, ℕ, ◌⊎◌, List, [], ◌∷◌, map, Option, Some, None, Result, Ok, Err}
use Rattle.std.specs.List.{All, AllZip}
use Rattle.osb_base.specs.Fetchers.{FetcherState}
use Rattle.osb_sources.specs.Rounds.{Gathers, SomeRose}
use Rattle.osb_sources.specs.declared.answers.SourceAnswer.{SourceAnswer}
use Rattle.osb_sources.specs.declared.answers.SourceAnswer.TheVariants as sources
use Rattle.osb_plan.specs.declared.builds.Build.{Build}
use Rattle.osb_store.specs.declared.stores.Store.{Store}
use Rattle.osb_store.specs.declared.refusals.StoreRefusal.{StoreRefusal}
use Rattle.osb_words.specs.declared.requests.Settings.{Settings}
use Rattle.osb_ready.specs.Readying.{Reply, asked, ready_of}
use Rattle.osb_ready.specs.Trees.{exports_due}
use Rattle.osb_ready.specs.declared.exports.Export.{Export}
use Rattle.osb_ready.specs.declared.unbuilt.Unbuilt.{Unbuilt as WhyUnbuilt}
use Rattle.osb_ready.specs.declared.unbuilt.Unbuilt.TheVariants as whys
use Rattle.osb_builder.specs.Stores.{IsTrueStore, Opens}
use Rattle.osb_answers.specs.Exports.{Count, HasRisen, AreExported, all_placed}
use Rattle.osb_answers.specs.declared.answers.Answer.{Answer}
use Rattle.osb_answers.specs.declared.answers.Answer.TheVariants.{Unbuilt, Exports}
use Rattle.osb_answers.specs.declared.answers.ExportAnswer.TheVariants.{Fault}
use Rattle.osb_top.specs.Seen.{ShelfSeen, Seen}
use Rattle.osb_top.specs.Stops.{Stops, store_refused, no_memory}
use Rattle.osb_top.specs.Wholes.{IsGiven, IsLoaded}

-- ---- no fault

abbrev pub Stands : Count → Type 0
Stands count = HasRisen count → ⊥

-- no count of faults rose, neither the shelf's nor that of a fetcher that is not gone, the keeper's, the exporter's or the
-- sink's
pub record IsQuiet (shelf : ShelfSeen) (seen : Seen) : Type 0 where
  pub of_shelf : Stands shelf.faults
  pub of_fetchers : SomeRose seen.fetchers.before seen.fetchers.now → ⊥
  pub of_keeper : Stands seen.keeper.faults
  pub of_exporter : Stands seen.exporter.faults
  pub of_sink : Stands seen.sink.faults

-- ---- builds

-- the exports that are due of a build that is ready, or why there are none
abbrev pub due_of_ready : List (List ℕ) → Result Build WhyUnbuilt → Result (List Export) WhyUnbuilt
due_of_ready names (Ok build) = exports_due names build
due_of_ready names (Err why) = Err why

-- what is due of a manifest, by what was given under its name and gathered of its items: those of building it alone
abbrev pub due_of : Settings → Reply → Result (List (List ℕ)) SourceAnswer → Result (List Export) WhyUnbuilt
due_of settings given gathered = due_of_ready settings.exports (ready_of settings given gathered)

-- neither a fault of the shelf nor of a fetcher
abbrev pub IsNoFault : WhyUnbuilt → Type 0
IsNoFault why = (why ≢ whys.ReadFault) × ((digest : List ℕ) → why ≢ whys.Source (sources.Fault digest))

-- the answer is what is due, with each export whole; want of memory may stand in the place of it, or of an export
abbrev pub IsWhole : Result (List Export) WhyUnbuilt → Answer → Type 0
IsWhole due (Unbuilt why) = (why ≢ whys.NoMemory → due ≡ Err why) × IsNoFault why
IsWhole due (Exports list) = (due ≡ Ok (map (λ exported. exported.export) list)) × All (λ exported. exported.answer ≢ Fault) list

-- manifests are answered one after another, by what the shelf gave, and what is gathered with what fetchers one leaves to
-- the next
pub data AreWhole (settings : Settings) : List FetcherState → List Reply → List Answer → List FetcherState → Type 0 where
  all_whole : (fetchers : List FetcherState) → AreWhole settings fetchers [] [] fetchers
  one_whole : (before between now : List FetcherState) (given : Reply) (gathered : Result (List (List ℕ)) SourceAnswer) (answer : Answer) (reads : List Reply) (answers : List Answer)
      → Gathers (asked settings.exports given).items (asked settings.exports given).digests before between gathered → IsWhole (due_of settings given gathered) answer
      → AreWhole settings between reads answers now → AreWhole settings before (given ∷ reads) (answer ∷ answers) now

-- ---- runs

-- the run comes to its exports, and they are whole
pub record Completes (settings : Settings) (shelf : ShelfSeen) (seen : Seen) : Type 0 where
  pub reads : List Reply
  pub given : AllZip (IsGiven shelf.files) settings.manifests reads
  pub answers : List Answer
  pub whole : AreWhole settings seen.fetchers.before reads answers seen.fetchers.now
  pub trees : AreExported seen.exporter (all_placed 1 answers)

abbrev pub CompletesOver : Settings → ShelfSeen → Seen → ℕ → Result Store StoreRefusal → Type 0
CompletesOver settings shelf seen status (Err refusal) = Stops seen (store_refused refusal) status
CompletesOver settings shelf seen status (Ok store) = IsTrueStore store → Completes settings shelf seen ⊎ Stops seen no_memory status

-- the store that was loaded is refused, or is true and the run comes to its end
pub record LoadsWell (settings : Settings) (shelf : ShelfSeen) (seen : Seen) (status : ℕ) : Type 0 where
  pub loaded : Option (List ℕ)
  pub load : IsLoaded settings.store seen.keeper.before (Ok loaded)
  pub opened : Result Store StoreRefusal
  pub opens : Opens loaded opened
  pub run : CompletesOver settings shelf seen status opened

-- words that are accepted ask for such a run, unless there is no memory before its exports
abbrev pub IsCompleteRun : Option Settings → ShelfSeen → Seen → ℕ → Type 0
IsCompleteRun None shelf seen status = Unit {0}
IsCompleteRun (Some settings) shelf seen status = LoadsWell settings shelf seen status ⊎ Stops seen no_memory status
