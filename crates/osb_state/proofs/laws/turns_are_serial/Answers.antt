use Rattle.osb_state.proofs.SerialTurns.{turns_are_serial}
use Rattle.osb_state.proofs.laws.turns_are_serial.Goals as goal

pub returns : goal.returns
returns c = record { law = turns_are_serial }
