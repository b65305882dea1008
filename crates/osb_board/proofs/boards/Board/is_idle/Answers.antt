use Rattle.std.proofs.Common.{sym, ap, ◌∙◌}
use Rattle.osb_board.specs.Boards.{claim_of}
use Rattle.osb_board.proofs.Claims.{is_idle_claim, not_idle, is_idle-claim_of}
use Rattle.osb_board.proofs.boards.Board.is_idle.Goals as goal

pub returns-in-Idle : goal.returns-in-Idle
returns-in-Idle g c =
    record { idle = ap is_idle_claim (sym c.in-Idle.is ∙ c.find_claim.ensures ∙ ap claim_of (c.deref.ensures.value ∙ c.self.view_is)) ∙ sym (is_idle-claim_of c.args.self.now) }

pub returns-in_default : goal.returns-in_default
returns-in_default g c =
    record { idle = not_idle c.find_claim.result c.in_default.not-Idle ∙ ap is_idle_claim (c.find_claim.ensures ∙ ap claim_of (c.deref.ensures.value ∙ c.self.view_is)) ∙ sym (is_idle-claim_of c.args.self.now) }
