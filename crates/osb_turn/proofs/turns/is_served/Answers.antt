use Rattle.std.proofs.Common.{rules, ◌≡◌, true, false, sym, ◌∙◌, eq-eqb}
use Rattle.osb_turn.proofs.Steps.{looks}
use Rattle.osb_turn.proofs.turns.is_served.Goals as goal

differs : true ≡ false → ⊥
differs e = cc

pub load-requires : goal.load-requires
load-requires g c = (search rules, search rules, looks _ _ _ _ _ _ _ _ c.args.ticket _ c.requires.waits c.if-ticket-lt-LAST.true)

pub returns-then-ticket-lt-LAST-clause-later : goal.returns-then-ticket-lt-LAST-clause-later
returns-then-ticket-lt-LAST-clause-later g c = λ not. (c.load.ensures.2 c.args.line.now.key c.args.ticket c.requires.at.3 c.requires.waits).1 (λ same. differs (sym (eq-eqb c.load.result c.args.ticket same) ∙ not))
