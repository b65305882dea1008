-- What is left at the end of one worker, over every true opening.
use Rattle.std.proofs.Common.{◌≡◌, ℕ, ◌+◌, ◌≤◌, map, sym, ap, subst, arith}
use Rattle.std.specs.Prelude.{IfOk}
use Rattle.std.proofs.Common.{Result, Ok, Err}
use Rattle.osb_recipe.specs.Plans.{IsSound}
use Rattle.osb_recipe.specs.Tables.{IsTable}
use Rattle.osb_recipe.specs.declared.plans.Plan.{Plan}
use Rattle.osb_cache.specs.Caches.{stored_of}
use Rattle.osb_job.specs.declared.places.Place.{Place}
use Rattle.osb_job.specs.Scripts.{idle}
use Rattle.osb_state.specs.States.{State}
use Rattle.osb_state.specs.Schedules.{FromTrueOpening}
use Rattle.osb_state.specs.KeptLogs.{IsKeptLog}
use Rattle.osb_state.specs.Filling.{HasMemory, IsFilled, size_of_all}
use Rattle.osb_state.specs.Spent.{stages_run}
use Rattle.osb_state.specs.Serial.{Goes, HasStopped, IsSerial}
use Rattle.osb_state.specs.Truth.{IsTrueOpening}
use Rattle.osb_machine.specs.Finishes.{IsFinished, AreMeantEnds, outcomes_in}
use Rattle.osb_machine.specs.declared.shares.Finished.{Finished}
use Rattle.osb_state.proofs.SerialTurns.{turns_are_serial}
use Rattle.osb_machine.proofs.RunEnds.{true_end, kept_end, filled_end, are_meant}
use Rattle.osb_machine.proofs.SerialTurns.{HasGone}
use Rattle.osb_machine.proofs.SerialEnds.{rests, spends_least, finished_is, true_entries}

-- what is left of a state
pub record IsLeft (state : State) (finished : Finished) : Type 0 where
  pub outcomes : finished.outcomes ≡ outcomes_in state
  pub entries : finished.entries ≡ map stored_of state.cache.lines
  pub opened : finished.opened ≡ state.opened
  pub log : finished.log ≡ state.log

pub all_left : {E : Type 0} (state : State) (result : Result Finished E) → IfOk result (λ finished. finished.outcomes ≡ outcomes_in state) → IfOk result (λ finished. finished.entries ≡ map stored_of state.cache.lines) → IfOk result (λ finished. finished.opened ≡ state.opened) → IfOk result (λ finished. finished.log ≡ state.log)
    → IfOk result (IsLeft state)
all_left state (Ok finished) outcomes entries opened log = record { outcomes = outcomes; entries = entries; opened = opened; log = log }
all_left state (Err error) outcomes entries opened log = tt

module _ (plan : Plan) (start state : State) (place : Place) (initial steps : ℕ) (finished : Finished) (sound : IsSound plan) (table : IsTable plan.table) (gone : HasGone plan start state place initial steps) (stopped : HasStopped state place) (left : IsLeft state finished) where
  serial_at : FromTrueOpening plan start (λ opening limit. IsSerial plan opening limit state place gone.0)
  serial_at opening limit opens true_is =
      turns_are_serial plan opening limit state place gone.0 sound table opens.can_open true_is (subst (λ (s : State). Goes plan s state place gone.0) opens.is gone.2)

  pub left_finished : FromTrueOpening plan start (λ opening limit. IsFinished plan opening limit 1 finished)
  left_finished opening limit opens true_is =
      finished_is plan opening limit state place gone.0 sound table (serial_at opening limit opens true_is) stopped finished left.outcomes left.entries left.opened left.log

  pub left_kept : FromTrueOpening plan start (λ opening limit. IsKeptLog plan opening limit finished.log)
  left_kept opening limit opens true_is =
      subst (IsKeptLog plan opening limit) (sym left.log) (kept_end plan opening limit 1 state sound table opens.can_open true_is (serial_at opening limit opens true_is).leads)

  pub left_meant : FromTrueOpening plan start (λ opening limit. AreMeantEnds plan finished.outcomes)
  left_meant opening limit opens true_is =
      subst (AreMeantEnds plan) (sym left.outcomes) (are_meant plan state (true_end plan opening limit 1 state sound table opens.can_open true_is (serial_at opening limit opens true_is).leads).ends)

  pub left_true : FromTrueOpening plan start (λ opening limit. IsTrueOpening plan finished.entries)
  left_true opening limit opens true_is =
      subst (IsTrueOpening plan) (sym left.entries) (true_entries plan state (true_end plan opening limit 1 state sound table opens.can_open true_is (serial_at opening limit opens true_is).leads))

  pub left_filled : FromTrueOpening plan start (λ opening limit. size_of_all plan opening ≤ limit → HasMemory finished.log → IsFilled plan opening limit finished.log)
  left_filled opening limit opens true_is small memory =
      let serial = serial_at opening limit opens true_is in
      subst (IsFilled plan opening limit) (sym left.log)
      (filled_end plan opening limit 1 state sound table opens.can_open true_is serial.leads small (subst HasMemory left.log memory) (rests plan opening limit state place gone.0 sound table serial stopped))

  pub left_steps : FromTrueOpening plan start (λ opening limit. steps ≤ initial + stages_run plan idle finished.log)
  left_steps opening limit opens true_is =
      let least = spends_least plan opening limit state place gone.0 sound table (serial_at opening limit opens true_is) stopped in
      omega (arith, gone.1, least, ap (stages_run plan idle) left.log)
