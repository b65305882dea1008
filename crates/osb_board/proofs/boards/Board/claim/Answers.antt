use Rattle.std.proofs.Common.{sym, ◌∙◌}
use Rattle.osb_board.proofs.Kept.{IsBoard-after_claim}
use Rattle.osb_board.proofs.Claims.{Over-from_claim}
use Rattle.osb_board.proofs.Waits.{claim_of-Idle_held_up}
use Rattle.osb_board.proofs.boards.Board.claim.Goals as goal

pub invariant_of-self : goal.invariant_of-self
invariant_of-self g c =
    rw c.claim_least.ensures.after (IsBoard-after_claim c.self.inside.tasks.items c.args.worker c.self.invariant (rw c.self.view_is c.requires.free))

pub returns-clause-over : goal.returns-clause-over
returns-clause-over g c =
    rw (← c.self.view_is) (Over-from_claim c.self.inside.tasks.items c.claim_least.result c.claim_least.ensures.answer)

pub returns-clause-idle : goal.returns-clause-idle
returns-clause-idle g c =
    rw (← c.self.view_is) (λ e. claim_of-Idle_held_up c.self.inside.tasks.items c.args.worker.0 c.self.invariant (rw c.self.view_is c.requires.free) (sym c.claim_least.ensures.answer ∙ e))
