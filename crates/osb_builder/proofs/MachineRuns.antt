-- The run of a plan that was made over a store.
use Rattle.std.proofs.Common.{◌≡◌, ℕ, ◌+◌, ◌^◌, ◌≤◌, List, [], length, sym, subst}
use Rattle.std.specs.List.{All}
use Rattle.osb_tree.specs.Trees.{Listing}
use Rattle.osb_recipe.specs.Tables.{TableData, IsTable, Extends}
use Rattle.osb_recipe.specs.declared.plans.Plan.{Plan}
use Rattle.osb_plan.specs.Bridge.{IsReady}
use Rattle.osb_plan.specs.Planning.{planned}
use Rattle.osb_plan.specs.declared.builds.Build.{Build}
use Rattle.osb_plan.proofs.Bridged.{planned_extends}
use Rattle.osb_cache.specs.declared.answers.Stored.{Stored}
use Rattle.osb_job.specs.Scripts.{idle}
use Rattle.osb_state.specs.States.{State}
use Rattle.osb_state.specs.Openings.{opened_state}
use Rattle.osb_state.specs.Schedules.{IsOpening, FromTrueOpening}
use Rattle.osb_state.specs.Truth.{IsTrueOpening}
use Rattle.osb_state.specs.KeptLogs.{IsKeptLog}
use Rattle.osb_state.specs.Filling.{HasMemory, IsFilled, size_of_all}
use Rattle.osb_state.specs.Spent.{stages_run}
use Rattle.osb_machine.specs.Finishes.{IsFinished, AreMeantEnds}
use Rattle.osb_machine.specs.declared.shares.Finished.{Finished}
use Rattle.osb_store.specs.Rules.{IsStore}
use Rattle.osb_store.specs.declared.stores.Store.{Store}
use Rattle.osb_builder.specs.Stores.{IsTrueStore}
use Rattle.osb_builder.specs.Building.{IsMachineRun}
use Rattle.osb_builder.proofs.StoreEntries.{can_open, are_trees}
use Rattle.osb_builder.proofs.TrueStores.{known_later, opens_truly, leaves_truly}

-- ---- the plan's table begins with the store's

extends_table : (table : TableData) (builds : List Build) → IsTable table → All IsReady builds → Extends table (planned table builds).table
unfolding planned
extends_table table builds is ready = planned_extends table builds is ready

pub extends_store : (store : Store) (plan : Plan) (builds : List Build) → IsTable store.table → All IsReady builds → plan ≡ planned store.table builds → Extends store.table plan.table
extends_store store plan builds table ready is = subst (λ (p : Plan). Extends store.table p.table) (sym is) (extends_table store.table builds table ready)

-- ---- the shared state that is opened, and what is left of it

pub opened_with : (store : Store) (plan : Plan) (limit : ℕ) (entries : List (Stored Listing)) (shared : State) → entries ≡ store.entries → shared ≡ opened_state plan entries limit → shared ≡ opened_state plan store.entries limit
opened_with store plan limit entries shared same opened = subst (λ (opening : List (Stored Listing)). shared ≡ opened_state plan opening limit) same opened

module _ (store : Store) (plan : Plan) (limit : ℕ) (table : IsTable store.table) (extends : Extends store.table plan.table) (is : IsStore store) (within : limit ≤ 2 ^ 62) (shared : State) (opened : shared ≡ opened_state plan store.entries limit) where
  pub is_opening : IsOpening plan store.entries limit shared
  is_opening = record {
    can_open = can_open store limit is within;
    known = known_later store plan table extends is;
    trees = are_trees (length store.table.recipes) [] store.entries is.entries;
    is = opened;
  }

  module _ (finished : Finished) where
    pub ends_meant : FromTrueOpening plan shared (λ opening limit. AreMeantEnds plan finished.outcomes) → IsTrueStore store → AreMeantEnds plan finished.outcomes
    ends_meant meant true_is = meant store.entries limit is_opening (opens_truly store plan table extends is true_is)

    pub machine_run : (before now : ℕ) → FromTrueOpening plan shared (λ opening limit. IsFinished plan opening limit 1 finished) → FromTrueOpening plan shared (λ opening limit. IsKeptLog plan opening limit finished.log) → FromTrueOpening plan shared (λ opening limit. IsTrueOpening plan finished.entries)
        → FromTrueOpening plan shared (λ opening limit. size_of_all plan opening ≤ limit → HasMemory finished.log → IsFilled plan opening limit finished.log) → FromTrueOpening plan shared (λ opening limit. now ≤ before + stages_run plan idle finished.log)
        → IsTrueStore store → IsMachineRun plan store limit 1 before now finished
    machine_run before now follows kept leaves filled steps true_is =
        let opens = is_opening in
        let truly = opens_truly store plan table extends is true_is in
        record {
          follows = follows store.entries limit opens truly;
          kept = kept store.entries limit opens truly;
          filled = filled store.entries limit opens truly;
          later = leaves_truly plan finished (leaves store.entries limit opens truly);
          bound = steps store.entries limit opens truly;
        }
