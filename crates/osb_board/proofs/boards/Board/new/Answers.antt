use Rattle.osb_board.proofs.Kept.{IsBoard-new_board}
use Rattle.osb_board.proofs.boards.Board.new.Goals as goal

pub invariant_of-result : goal.invariant_of-result
invariant_of-result g c = rw c.in_ok-waiting_tasks.ensures (IsBoard-new_board _ c.args.deps.now c.requires.lower)
