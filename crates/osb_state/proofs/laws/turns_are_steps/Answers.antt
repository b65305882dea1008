use Rattle.osb_state.proofs.TurnSteps.{turns_are_steps}
use Rattle.osb_state.proofs.laws.turns_are_steps.Goals as goal

pub returns : goal.returns
returns c = record { law = turns_are_steps }
