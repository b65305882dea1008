use Rattle.osb_board.proofs.Kept.{IsBoard-after_done}
use Rattle.osb_board.proofs.boards.Board.done.Goals as goal

pub invariant_of-self : goal.invariant_of-self
invariant_of-self g c =
    rw c.set_state.ensures (IsBoard-after_done c.self.inside.tasks.items c.args.worker c.args.task c.args.outcome c.self.invariant (rw c.self.view_is c.requires.runs))
