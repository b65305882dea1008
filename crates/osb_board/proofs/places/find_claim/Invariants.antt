use Rattle.std.proofs.Common.{◌≡◌, take}
use Rattle.osb_board.specs.Boards.{has_state, is_waiting}
use Rattle.osb_board.proofs.Claims.{HasNoReady, unready_claim}
use Rattle.osb_board.proofs.places.find_claim.Given as goal

-- none of the tasks so far is ready, and the answer tells whether one of them waits
abbrev pub invariant-loop-i : goal.invariant-loop-i
invariant-loop-i g l = HasNoReady l.tasks l.i × (l.claim ≡ unready_claim (has_state is_waiting (take l.i l.tasks)))
