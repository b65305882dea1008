use Rattle.std.proofs.Common.{sym, ◌∙◌}
use Rattle.osb_board.proofs.Claims.{claim_of-found, claim_of-passed}
use Rattle.osb_board.proofs.places.find_claim.Goals as goal

pub returns-then-has_done_deps : goal.returns-then-has_done_deps
returns-then-has_done_deps g c =
    claim_of-found c.args.tasks.now c.loop-i.i c.index-tasks-i.result c.loop-i-test.true c.index-tasks-i.is c.loop-i.invariant.0
    (sym c.is_waiting.ensures ∙ c.if-is_waiting.true) (sym c.has_done_deps.ensures ∙ c.if-has_done_deps.true)

pub returns : goal.returns
returns g c =
    claim_of-passed c.args.tasks.now c.loop-i.i c.loop-i.claim c.loop-i-test.false c.loop-i.invariant.0 c.loop-i.invariant.1
