-- Whole runs in which no count of faults rose.
use Rattle.std.proofs.Common.{◌≡◌, ℕ, ◌⊎◌, Bool, true, false, cond, List, Option, Some, None, Result, Ok, Err, refl, sym, ◌∙◌, inl, inr}
use Rattle.osb_base.specs.declared.faults.ReadStop.TheVariants as read_stops
use Rattle.osb_store.specs.declared.stores.Store.{Store}
use Rattle.osb_store.specs.declared.refusals.StoreRefusal.{StoreRefusal}
use Rattle.osb_words.specs.Requests.{begins_build, request_of, IsTaken, AreRefused, other, faulty, broken}
use Rattle.osb_words.specs.declared.requests.Settings.{Settings}
use Rattle.osb_ready.specs.Readying.{Reply}
use Rattle.osb_builder.specs.Stores.{IsTrueStore}
use Rattle.osb_top.specs.Seen.{ShelfSeen, Seen}
use Rattle.osb_top.specs.Stops.{Stops, no_memory}
use Rattle.osb_top.specs.Runs.{IsRunOver}
use Rattle.osb_top.specs.Wholes.{Reads, GoesOnWith, OpensStore, IsLoaded, GoesOnFrom, IsRun}
use Rattle.osb_top.specs.Complete.{IsQuiet, Completes, CompletesOver, LoadsWell, IsCompleteRun}
use Rattle.osb_top.proofs.Completing.{completes}

-- ---- words that are taken and ask for settings are not refused

some_begun : (begun : Bool) (asked : Option Settings) (settings : Settings) → cond begun asked None ≡ Some settings → begun ≡ true
some_begun true asked settings e = refl
some_begun false asked settings e = absurd (cc)

not_refused : (words : List (List ℕ)) (settings : Settings) → Some settings ≡ request_of words → IsTaken words → AreRefused words → ⊥
not_refused words settings is taken (other begins) =
    let begun : begins_build words ≡ true = some_begun (begins_build words) _ settings (sym is) in
    let both : true ≡ false = sym begun ∙ begins in
    cc
not_refused words settings is taken (faulty fault) = fault taken
not_refused words settings is taken (broken none) = let both : Some settings ≡ None = is ∙ none in cc

-- ---- over the store that was loaded

module _ (settings : Settings) (workers : ℕ) (shelf : ShelfSeen) (seen : Seen) (status : ℕ) (quiet : IsQuiet shelf seen) where
  comes_well : (store : Store) (reads : Reads settings workers store shelf seen status) → IsRunOver settings workers store reads.reads seen status → IsTrueStore store → Completes settings shelf seen ⊎ Stops seen no_memory status
  comes_well store reads (inl comes) holds = inl (completes settings workers store reads.reads shelf seen status reads.given reads.faults quiet holds comes)
  comes_well store reads (inr stops) holds = inr stops

  goes_well : (opened : Result Store StoreRefusal) → GoesOnWith settings workers shelf seen status opened → CompletesOver settings shelf seen status opened
  goes_well (Ok store) reads = comes_well store reads reads.run
  goes_well (Err refusal) stops = stops

  opens_well : (loaded : Option (List ℕ)) → IsLoaded settings.store seen.keeper.before (Ok loaded) → OpensStore settings workers loaded shelf seen status → LoadsWell settings shelf seen status
  opens_well loaded load store = record { loaded = loaded; load = load; opened = store.opened; opens = store.opens; run = goes_well store.opened store.run }

  loads_well : (loaded : Reply) → IsLoaded settings.store seen.keeper.before loaded → GoesOnFrom settings workers shelf seen status loaded → LoadsWell settings shelf seen status ⊎ Stops seen no_memory status
  loads_well (Ok loaded) load (inl store) = inl (opens_well loaded load store)
  loads_well (Ok loaded) load (inr stops) = inr stops
  loads_well (Err read_stops.Failed) load failed = absurd (quiet.of_keeper failed.1)
  loads_well (Err read_stops.NoMemory) load stops = inr stops

-- ---- whole runs

pub run_completes : (workers : Settings → ℕ) (words : List (List ℕ)) (request : Option Settings) (shelf : ShelfSeen) (seen : Seen) (status : ℕ) → request ≡ request_of words → IsTaken words → IsQuiet shelf seen
    → IsRun workers (AreRefused words) request shelf seen status → IsCompleteRun request shelf seen status
run_completes workers words None shelf seen status is taken quiet run = tt
run_completes workers words (Some settings) shelf seen status is taken quiet (inl loads) =
    loads_well settings (workers settings) shelf seen status quiet loads.loaded loads.load loads.run
run_completes workers words (Some settings) shelf seen status is taken quiet (inr (inl stops)) = inr stops
run_completes workers words (Some settings) shelf seen status is taken quiet (inr (inr refused)) = absurd (not_refused words settings is taken refused.1)
