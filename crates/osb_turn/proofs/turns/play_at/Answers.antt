use Rattle.std.proofs.Common.{rules, sym, ap, ◌∙◌}
use Rattle.osb_turn.specs.Histories.{replay}
use Rattle.osb_turn.proofs.Steps.{announces_as, written_state}
use Rattle.osb_turn.proofs.turns.play_at.Goals as goal

pub load-requires : goal.load-requires
load-requires g c = let turn = c.requires.turn in let r = c.requires in
    (search rules, search rules, announces_as _ _ _ _ _ _ _ _ turn.0 _ _ c.args.state c.args.worker c.args.action r.said turn.1 r.worker r.at.3 r.state r.allowed r.ready)

pub leave-requires-clause-state : goal.leave-requires-clause-state
leave-requires-clause-state g c = let told = c.load.ensures.2 in
    written_state g.S.Played.gives g.S.Played.after c.args.line.now.key c.args.pass.now.me.0 g.W.Said.entry c.args.state c.play.new.self c.args.worker c.args.action c.requires.said c.requires.state c.in-Ok.ensures.after ∙ ap (λ m. replay g.S.Played.after c.args.line.now.key m.0.seen) (sym told)
