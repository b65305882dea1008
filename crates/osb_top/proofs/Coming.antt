-- A run by what its steps give, and by the objects of the outside as they were before its first step.
use Rattle.std.proofs.Common.{◌≡◌, ℕ, ◌≤◌, ◌⊎◌, List, Option, Some, None, Result, Ok, Err, refl, ap, subst, ◌∙◌, IfSome, inl, inr, arith}
use Rattle.std.specs.List.{All, AllZip, filter_map}
use Rattle.std.specs.Result.{result_ok}
use Rattle.osb_base.specs.declared.faults.WriteStop.{WriteStop}
use Rattle.osb_base.specs.declared.faults.WriteStop.TheVariants as write_stops
use Rattle.osb_recipe.specs.declared.plans.Plan.{Plan}
use Rattle.osb_plan.specs.Bridge.{IsReady, BridgesTo}
use Rattle.osb_plan.specs.Planning.{planned}
use Rattle.osb_plan.specs.declared.builds.Build.{Build}
use Rattle.osb_machine.specs.Finishes.{AreMeantEnds}
use Rattle.osb_machine.specs.declared.shares.Finished.{Finished}
use Rattle.osb_store.specs.Texts.{store_text}
use Rattle.osb_store.specs.declared.stores.Store.{Store}
use Rattle.osb_store.specs.declared.refusals.StoreRefusal.{StoreRefusal}
use Rattle.osb_words.specs.declared.requests.Settings.{Settings}
use Rattle.osb_ready.specs.Readying.{Reply}
use Rattle.osb_ready.specs.declared.exports.Export.{Export}
use Rattle.osb_ready.specs.declared.unbuilt.Unbuilt.{Unbuilt}
use Rattle.osb_builder.specs.Stores.{IsTrueStore, store_after}
use Rattle.osb_builder.specs.Building.{IsMachineRun}
use Rattle.osb_answers.specs.Exports.{Count, AreExported, all_placed, IsAnswerOf}
use Rattle.osb_answers.specs.declared.answers.Answer.{Answer}
use Rattle.osb_top.specs.Seen.{ShelfSeen, KeeperSeen, Seen}
use Rattle.osb_top.specs.Stops.{Stop, Stops, no_memory}
use Rattle.osb_top.specs.Builds.{ArePrepared, places_from, IsCameAt}
use Rattle.osb_top.specs.Runs.{HasKept, IsKept, Comes, IsRunOver}
use Rattle.osb_top.specs.Steps.{IsBuilt, Finishes}
use Rattle.osb_top.specs.Wholes.{GoesOnWith, OpensStore, IsUncalled}
use Rattle.osb_top.proofs.Answering.{all_came, all_answered}

-- ---- the steps of a run

pub built_over : (settings : Settings) (store : Store) (stages : Count) (readies : List (Result Build Unbuilt)) (builds : List Build) (plan : Plan) (finished : Finished) (came : List (Result (List Export) Unbuilt))
    → builds ≡ filter_map result_ok readies → All IsReady builds → plan ≡ planned store.table builds → BridgesTo builds plan → (IsTrueStore store → AreMeantEnds plan finished.outcomes)
    → (IsTrueStore store → IsMachineRun plan store settings.limit 1 stages.before stages.now finished) → AllZip (IsCameAt settings.exports builds plan finished.outcomes) (places_from 0 readies) came → IsBuilt settings store stages readies plan finished came
built_over settings store stages readies builds plan finished came are ready planned_is bridge meant run comes = record {
  planned = planned_is ∙ ap (planned store.table) are;
  comes = all_came settings.exports (IsTrueStore store) builds plan finished.outcomes readies 0 came are ready bridge meant comes;
  run = run;
}

pub comes_over : (settings : Settings) (store : Store) (reads : List Reply) (builds : List (Result Build Unbuilt)) (came : List (Result (List Export) Unbuilt)) (answers : List Answer) (plan : Plan) (finished : Finished) (seen : Seen) (status : ℕ)
    → ArePrepared settings seen.fetchers.before reads builds seen.fetchers.now → IsBuilt settings store seen.stages builds plan finished came → AllZip IsAnswerOf came answers → AreExported seen.exporter (all_placed 1 answers)
    → Finishes settings (store_text (store_after plan finished)) answers finished seen.keeper seen.sink status → Comes settings 1 store reads seen status
comes_over settings store reads builds came answers plan finished seen status prepared built answered exported finishes =
    let Run : Plan → Type 0 = λ p. IsTrueStore store → IsMachineRun p store settings.limit 1 seen.stages.before seen.stages.now finished in
    let Kept : Plan → Type 0 = λ p. IsKept settings.store seen.keeper (store_text (store_after p finished)) finishes.saved in
    record {
      builds = builds;
      finished = finished;
      answers = answers;
      saved = finishes.saved;
      prepared = prepared;
      answered = all_answered settings.exports (IsTrueStore store) builds came answers built.comes answered;
      trees = exported;
      log = subst Run built.planned built.run;
      kept = subst Kept built.planned finishes.kept;
      output = finishes.output;
    }

-- ---- the keeper as it was before it was loaded

-- what is seen, with a keeper whose bytes and count were these before
abbrev pub with_earlier : Option (Option (List ℕ)) → ℕ → Seen → Seen
with_earlier held count seen = record seen { keeper = record { before = held; now = seen.keeper.now; faults = record { before = count; now = seen.keeper.faults.now } } }

-- the keeper was loaded meanwhile, where there is a store: it holds what it held, and its count has not fallen
pub record Meanwhile (name : Option (List ℕ)) (held : Option (Option (List ℕ))) (count : ℕ) (keeper : KeeperSeen) : Type 0 where
  pub same : keeper.before ≡ held
  pub later : count ≤ keeper.faults.before
  pub uncalled : name ≡ None → keeper.faults.before ≡ count

stops_earlier : (held : Option (Option (List ℕ))) (count : ℕ) (seen : Seen) (stop : Stop) (status : ℕ) → seen.keeper.before ≡ held → Stops seen stop status → Stops (with_earlier held count seen) stop status
stops_earlier held count seen stop status same stops = record { trees = stops.trees; held = stops.held ∙ same; output = stops.output }

has_earlier : (held : Option (Option (List ℕ))) (count : ℕ) (keeper : KeeperSeen) (text : List ℕ) (saved : Result (Unit {0}) WriteStop) → keeper.before ≡ held → count ≤ keeper.faults.before → HasKept keeper text saved → HasKept (record { before = held; now = keeper.now; faults = record { before = count; now = keeper.faults.now } }) text saved
has_earlier held count keeper text (Ok done) same later kept = subst (λ (h : Option (Option (List ℕ))). IfSome h (λ _. keeper.now ≡ Some (Some text))) same kept
has_earlier held count keeper text (Err write_stops.Failed) same later kept = (subst (λ (h : Option (Option (List ℕ))). (keeper.now ≡ h) ⊎ (keeper.now ≡ None)) same kept.0, omega (arith, kept.1))
has_earlier held count keeper text (Err write_stops.NoMemory) same later kept = subst (λ (h : Option (Option (List ℕ))). (keeper.now ≡ h) ⊎ (keeper.now ≡ None)) same kept

kept_earlier : (name : Option (List ℕ)) (held : Option (Option (List ℕ))) (count : ℕ) (keeper : KeeperSeen) (text : List ℕ) (saved : Result (Unit {0}) WriteStop) → Meanwhile name held count keeper → IsKept name keeper text saved → IsKept name (record { before = held; now = keeper.now; faults = record { before = count; now = keeper.faults.now } }) text saved
kept_earlier None held count keeper text saved meanwhile kept = (kept.0 ∙ meanwhile.same, kept.1 ∙ meanwhile.uncalled refl, kept.2)
kept_earlier (Some name) held count keeper text saved meanwhile kept = has_earlier held count keeper text saved meanwhile.same meanwhile.later kept

over_earlier : (settings : Settings) (workers : ℕ) (store : Store) (reads : List Reply) (held : Option (Option (List ℕ))) (count : ℕ) (seen : Seen) (status : ℕ) → Meanwhile settings.store held count seen.keeper → IsRunOver settings workers store reads seen status → IsRunOver settings workers store reads (with_earlier held count seen) status
over_earlier settings workers store reads held count seen status meanwhile (inl comes) = inl (record {
  builds = comes.builds;
  finished = comes.finished;
  answers = comes.answers;
  saved = comes.saved;
  prepared = comes.prepared;
  answered = comes.answered;
  trees = comes.trees;
  log = comes.log;
  kept = kept_earlier settings.store held count seen.keeper _ comes.saved meanwhile comes.kept;
  output = comes.output;
})
over_earlier settings workers store reads held count seen status meanwhile (inr stops) = inr (stops_earlier held count seen no_memory status meanwhile.same stops)

with_earlier_run : (settings : Settings) (workers : ℕ) (shelf : ShelfSeen) (held : Option (Option (List ℕ))) (count : ℕ) (seen : Seen) (status : ℕ) (opened : Result Store StoreRefusal) → Meanwhile settings.store held count seen.keeper → GoesOnWith settings workers shelf seen status opened → GoesOnWith settings workers shelf (with_earlier held count seen) status opened
with_earlier_run settings workers shelf held count seen status (Err refusal) meanwhile stops = stops_earlier held count seen _ status meanwhile.same stops
with_earlier_run settings workers shelf held count seen status (Ok store) meanwhile goes = record {
  reads = goes.reads;
  given = goes.given;
  faults = goes.faults;
  run = over_earlier settings workers store goes.reads held count seen status meanwhile goes.run;
}

pub opens_earlier : (settings : Settings) (workers : ℕ) (loaded : Option (List ℕ)) (shelf : ShelfSeen) (held : Option (Option (List ℕ))) (count : ℕ) (seen : Seen) (status : ℕ) → Meanwhile settings.store held count seen.keeper
    → OpensStore settings workers loaded shelf seen status ⊎ Stops seen no_memory status → OpensStore settings workers loaded shelf (with_earlier held count seen) status ⊎ Stops (with_earlier held count seen) no_memory status
opens_earlier settings workers loaded shelf held count seen status meanwhile (inl opens) = inl (record {
  opened = opens.opened;
  opens = opens.opens;
  run = with_earlier_run settings workers shelf held count seen status opens.opened meanwhile opens.run;
})
opens_earlier settings workers loaded shelf held count seen status meanwhile (inr stops) = inr (stops_earlier held count seen no_memory status meanwhile.same stops)

-- ---- the keeper of a run without a store

pub meanwhile_loaded : (name : Option (List ℕ)) (held between : Option (Option (List ℕ))) (count after : ℕ) (now : Option (Option (List ℕ))) (last : ℕ) → between ≡ held → count ≤ after → IsUncalled name (record { before = held; now = between; faults = record { before = count; now = after } })
    → Meanwhile name held count (record { before = between; now = now; faults = record { before = after; now = last } })
meanwhile_loaded None held between count after now last same later uncalled = record { same = same; later = later; uncalled = λ e. uncalled.1 }
meanwhile_loaded (Some name) held between count after now last same later uncalled = record { same = same; later = later; uncalled = λ e. absurd (cc) }

pub uncalled_on : (name : Option (List ℕ)) (first between last : Option (Option (List ℕ))) (before after now : ℕ) → IsUncalled name (record { before = first; now = between; faults = record { before = before; now = after } }) → IsUncalled name (record { before = between; now = last; faults = record { before = after; now = now } })
    → IsUncalled name (record { before = first; now = last; faults = record { before = before; now = now } })
uncalled_on None first between last before after now one two = (two.0 ∙ one.0, two.1 ∙ one.1)
uncalled_on (Some name) first between last before after now one two = tt
