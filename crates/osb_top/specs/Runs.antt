-- What a run does over its settings, a store, and what the shelf gave: its answers, its trees, its log, the store that it
-- leaves, its output and its status.
use Rattle.std.specs.Prelude.{◌≡◌, ℕ, ◌⊎◌, Bool, false, List, [], ◌++◌, map, Option, Some, None, IfSome, Result, Ok, Err, if◌then◌else◌}
use Rattle.std.specs.List.{AllZip, filter_map, list_all}
use Rattle.std.specs.Result.{result_ok}
use Rattle.osb_base.specs.declared.faults.WriteStop.{WriteStop}
use Rattle.osb_base.specs.declared.faults.WriteStop.TheVariants as write_stops
use Rattle.osb_recipe.specs.declared.plans.Plan.{Plan}
use Rattle.osb_plan.specs.Planning.{planned}
use Rattle.osb_plan.specs.declared.builds.Build.{Build}
use Rattle.osb_machine.specs.declared.shares.Finished.{Finished}
use Rattle.osb_store.specs.Texts.{store_text}
use Rattle.osb_store.specs.declared.stores.Store.{Store}
use Rattle.osb_log.specs.Texts.{log_text}
use Rattle.osb_words.specs.declared.requests.Settings.{Settings}
use Rattle.osb_ready.specs.Readying.{Reply}
use Rattle.osb_ready.specs.Trees.{IsOfBuild, exports_due}
use Rattle.osb_ready.specs.declared.exports.Export.{Export}
use Rattle.osb_ready.specs.declared.unbuilt.Unbuilt.{Unbuilt as WhyUnbuilt}
use Rattle.osb_ready.specs.declared.unbuilt.Unbuilt.TheVariants as whys
use Rattle.osb_builder.specs.Stores.{IsTrueStore, store_after}
use Rattle.osb_builder.specs.Building.{IsMachineRun}
use Rattle.osb_answers.specs.Exports.{HasRisen, AreExported, all_placed, is_exported}
use Rattle.osb_answers.specs.Lines.{answers_text}
use Rattle.osb_answers.specs.declared.answers.Answer.{Answer}
use Rattle.osb_answers.specs.declared.answers.Answer.TheVariants.{Unbuilt, Exports}
use Rattle.osb_top.specs.Seen.{KeeperSeen, Seen}
use Rattle.osb_top.specs.Writing.{Ends}
use Rattle.osb_top.specs.Stops.{Stops, no_memory}
use Rattle.osb_top.specs.Builds.{ArePrepared}

-- ---- answers

-- the answer is the one that is due; want of memory may stand in its place
abbrev pub MayAnswer : Result (List Export) WhyUnbuilt → Answer → Type 0
MayAnswer due (Unbuilt whys.NoMemory) = Unit {0}
MayAnswer due (Unbuilt why) = due ≡ Err why
MayAnswer due (Exports list) = due ≡ Ok (map (λ exported. exported.export) list)

-- what a build that is planned can be answered, whatever the store
abbrev pub IsOfPlan : Answer → Type 0
IsOfPlan (Exports list) = Unit {0}
IsOfPlan (Unbuilt why) = IsOfBuild (Err why)

-- a build that is not planned has its answer; one that is planned is answered what is due of it, if the store is true
abbrev pub IsAnswered : List (List ℕ) → Type 0 → Result Build WhyUnbuilt → Answer → Type 0
IsAnswered names truth (Ok build) answer = IsOfPlan answer × (truth → MayAnswer (exports_due names build) answer)
IsAnswered names truth (Err why) answer = answer ≡ Unbuilt why

-- ---- the log

-- the plan of the builds that have no answer yet, over the loaded store
abbrev pub plan_of : Store → List (Result Build WhyUnbuilt) → Plan
plan_of store builds = planned store.table (filter_map result_ok builds)

-- ---- the store

-- a keeper that told holds the text once it is saved; where it is not, the keeper holds what it held, or tells nothing
abbrev pub HasKept : KeeperSeen → List ℕ → Result (Unit {0}) WriteStop → Type 0
HasKept keeper text (Ok done) = IfSome keeper.before (λ held. keeper.now ≡ Some (Some text))
HasKept keeper text (Err write_stops.Failed) = ((keeper.now ≡ keeper.before) ⊎ (keeper.now ≡ None)) × HasRisen keeper.faults
HasKept keeper text (Err write_stops.NoMemory) = (keeper.now ≡ keeper.before) ⊎ (keeper.now ≡ None)

-- without a store it is not called
abbrev pub IsKept : Option (List ℕ) → KeeperSeen → List ℕ → Result (Unit {0}) WriteStop → Type 0
IsKept None keeper text saved = (keeper.now ≡ keeper.before) × (keeper.faults.now ≡ keeper.faults.before) × (saved ≡ Ok tt)
IsKept (Some name) keeper text saved = HasKept keeper text saved

-- ---- output and status

abbrev pub out_text : Settings → List Answer → Finished → List ℕ
out_text settings answers finished = answers_text 1 answers ++ (if settings.log then log_text finished.opened finished.log else [])

-- each of its exports is exported
abbrev pub is_done : Answer → Bool
is_done (Unbuilt why) = false
is_done (Exports list) = list_all (λ exported. is_exported exported.answer) list

-- where the sink takes all and memory suffices
abbrev pub status_of : Result (Unit {0}) WriteStop → List Answer → ℕ
status_of (Err write_stops.NoMemory) answers = 7
status_of (Err write_stops.Failed) answers = 5
status_of (Ok done) answers = if list_all is_done answers then 0 else 1

-- ---- runs over what was read

-- the run comes to its exports
pub record Comes (settings : Settings) (workers : ℕ) (store : Store) (reads : List Reply) (seen : Seen) (status : ℕ) : Type 0 where
  -- what its steps gave
  pub builds : List (Result Build WhyUnbuilt)
  pub finished : Finished
  pub answers : List Answer
  pub saved : Result (Unit {0}) WriteStop
  -- answers: each build is prepared from what was given of it, and is answered what is due
  pub prepared : ArePrepared settings seen.fetchers.before reads builds seen.fetchers.now
  pub answered : AllZip (IsAnswered settings.exports (IsTrueStore store)) builds answers
  -- trees
  pub trees : AreExported seen.exporter (all_placed 1 answers)
  -- log
  pub log : IsTrueStore store → IsMachineRun (plan_of store builds) store settings.limit workers seen.stages.before seen.stages.now finished
  -- store
  pub kept : IsKept settings.store seen.keeper (store_text (store_after (plan_of store builds) finished)) saved
  -- output and status
  pub output : Ends seen.sink (out_text settings answers finished) (status_of saved answers) status

-- a run over settings, a store, and what the shelf gave for each manifest: it comes to its exports, or there was no memory
-- before them
abbrev pub IsRunOver : Settings → ℕ → Store → List Reply → Seen → ℕ → Type 0
IsRunOver settings workers store reads seen status = Comes settings workers store reads seen status ⊎ Stops seen no_memory status
