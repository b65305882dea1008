use Rattle.osb_board.proofs.Waits.{claim_of-Idle_held_up}
use Rattle.osb_board.proofs.laws.idle_is_held_up.Goals as goal

pub returns : goal.returns
returns g c = record { law = λ board worker b free e. claim_of-Idle_held_up board worker.0 b free e }
