-- What the turns of one worker alone come to.
use Rattle.std.proofs.Common.{ℕ, false, List, refl, arith}
use Rattle.osb_tree.specs.Trees.{Listing, tree_size}
use Rattle.osb_recipe.specs.Plans.{IsSound}
use Rattle.osb_recipe.specs.Tables.{IsTable}
use Rattle.osb_recipe.specs.declared.plans.Plan.{Plan}
use Rattle.osb_cache.specs.Caches.{CanOpen}
use Rattle.osb_cache.specs.declared.answers.Stored.{Stored}
use Rattle.osb_job.specs.declared.places.Place.{Place}
use Rattle.osb_state.specs.States.{State, progress_in}
use Rattle.osb_state.specs.Openings.{opened_state}
use Rattle.osb_state.specs.Schedules.{start}
use Rattle.osb_state.specs.Serial.{first_worker, Goes, TurnsAreSerial}
use Rattle.osb_state.specs.Spent.{Spends, BlocksAreSpent}
use Rattle.osb_state.specs.Truth.{IsTrueOpening}
use Rattle.osb_state.proofs.BlocksSpent.{blocks_are_spent}
use Rattle.osb_state.proofs.SerialRuns.{IsRunTo, true_there, begins_to, leads_there, turned_to}
use Rattle.osb_state.proofs.SerialStages.{HasRun, spends_follows, turn_run}

module _ (plan : Plan) (opening : List (Stored Listing)) (limit : ℕ) (sound : IsSound plan) (table : IsTable plan.table) (can : CanOpen tree_size limit opening) (true_so : IsTrueOpening plan opening) (blocks : BlocksAreSpent) where
  comes_to : (state : State) (place : Place) (steps : ℕ) → Goes plan (opened_state plan opening limit) state place steps → IsRunTo plan (start plan opening limit) state place × HasRun plan state place steps
  comes_to state place steps Goes.begins =
      (begins_to plan opening limit sound table can true_so, record { off = false; spent = 0; spends = Spends.begins; most = omega arith; alone = refl })
  comes_to state place steps (Goes.goes_on before now from to run more goes turned stages) =
      let was = comes_to before from run goes in
      let true_is = true_there plan (start plan opening limit) before from was.0 in (
        turned_to plan (start plan opening limit) before now from to sound table was.0 turned,
        turn_run plan before from run was.1 sound table blocks true_is was.0.has turned.met now to more turned.turns stages,
      )

pub turns_are_serial : TurnsAreSerial
turns_are_serial plan opening limit state place steps sound table can true_so goes =
    let come = comes_to plan opening limit sound table can true_so blocks_are_spent state place steps goes in
    let ran = come.1 in
    record {
      leads = leads_there plan opening limit sound table can true_so state place come.0;
      off = ran.off;
      follows = spends_follows plan place (progress_in state first_worker) ran.off ran.spent ran.spends;
      spent = ran.spent;
      spends = ran.spends;
      bound = ran.most;
    }
