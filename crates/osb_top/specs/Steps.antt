-- What the steps of a run give.
use Rattle.std.specs.Prelude.{◌≡◌, ℕ, List, Result}
use Rattle.std.specs.List.{AllZip}
use Rattle.osb_base.specs.declared.faults.WriteStop.{WriteStop}
use Rattle.osb_recipe.specs.declared.plans.Plan.{Plan}
use Rattle.osb_plan.specs.declared.builds.Build.{Build}
use Rattle.osb_machine.specs.declared.shares.Finished.{Finished}
use Rattle.osb_store.specs.declared.stores.Store.{Store}
use Rattle.osb_words.specs.declared.requests.Settings.{Settings}
use Rattle.osb_ready.specs.declared.exports.Export.{Export}
use Rattle.osb_ready.specs.declared.unbuilt.Unbuilt.{Unbuilt}
use Rattle.osb_builder.specs.Stores.{IsTrueStore}
use Rattle.osb_builder.specs.Building.{IsMachineRun}
use Rattle.osb_answers.specs.Exports.{Count}
use Rattle.osb_answers.specs.declared.answers.Answer.{Answer}
use Rattle.osb_top.specs.Seen.{KeeperSeen, SinkSeen}
use Rattle.osb_top.specs.Writing.{Ends}
use Rattle.osb_top.specs.Builds.{IsCame}
use Rattle.osb_top.specs.Runs.{plan_of, IsKept, out_text, status_of}

-- the builds are planned over the store and run by one worker; what comes of each is due, if the store is true
pub record IsBuilt (settings : Settings) (store : Store) (stages : Count) (builds : List (Result Build Unbuilt)) (plan : Plan) (finished : Finished) (came : List (Result (List Export) Unbuilt)) : Type 0 where
  pub planned : plan ≡ plan_of store builds
  pub comes : AllZip (IsCame settings.exports (IsTrueStore store)) builds came
  pub run : IsTrueStore store → IsMachineRun plan store settings.limit 1 stages.before stages.now finished

-- a text is saved where there is a store, and the answers are written with what the log is
pub record Finishes (settings : Settings) (text : List ℕ) (answers : List Answer) (finished : Finished) (keeper : KeeperSeen) (sink : SinkSeen) (status : ℕ) : Type 0 where
  pub saved : Result (Unit {0}) WriteStop
  pub kept : IsKept settings.store keeper text saved
  pub output : Ends sink (out_text settings answers finished) (status_of saved answers) status
