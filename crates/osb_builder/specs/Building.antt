-- What the run of a plan over a store is.
use Rattle.std.specs.Prelude.{ℕ, ◌+◌, ◌≤◌}
use Rattle.osb_recipe.specs.declared.plans.Plan.{Plan}
use Rattle.osb_state.specs.KeptLogs.{IsKeptLog}
use Rattle.osb_state.specs.Filling.{size_of_all, HasMemory, IsFilled}
use Rattle.osb_state.specs.Spent.{stages_run}
use Rattle.osb_job.specs.Scripts.{idle}
use Rattle.osb_machine.specs.Finishes.{IsFinished}
use Rattle.osb_machine.specs.declared.shares.Finished.{Finished}
use Rattle.osb_store.specs.declared.stores.Store.{Store}
use Rattle.osb_builder.specs.Stores.{IsTrueStore, store_after}

-- the log is one run of the machine, in which nothing pinned changes or leaves, the limit is kept, and entries appear only
-- whole; where there is room for all, all that is marked comes to stand; the store after it is true; and no more stages
-- were run than the log shows, of which the count before it and after it are given
pub record IsMachineRun (plan : Plan) (store : Store) (limit workers before now : ℕ) (finished : Finished) : Type 0 where
  pub follows : IsFinished plan store.entries limit workers finished
  pub kept : IsKeptLog plan store.entries limit finished.log
  pub filled : size_of_all plan store.entries ≤ limit → HasMemory finished.log → IsFilled plan store.entries limit finished.log
  pub later : IsTrueStore (store_after plan finished)
  pub bound : now ≤ before + stages_run plan idle finished.log
