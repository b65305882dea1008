use Rattle.std.proofs.Common.{Some, ap, ◌∙◌}
use Rattle.std.proofs.lemmas.Result.{MatchResult-weaker}
use Rattle.osb_turn.specs.declared.views.Stage.TheVariants.{Idle}
use Rattle.osb_turn.specs.Histories.{entry_of}
use Rattle.osb_turn.specs.Rule.{at_stage, with_entry}
use Rattle.osb_turn.proofs.Calls.{at_turn, turn_valid, allowed_now, looked_seat, looked_told, acted_seat, acted_told, by_outcome}
use Rattle.osb_turn.proofs.turnstile.Turnstile.act.Goals as goal

pub play_at-requires-clause-valid : goal.play_at-requires-clause-valid
play_at-requires-clause-valid g c = let p = g.S.Played in let l = g.met.S.Played in
    let turn = at_turn p.gives p.after p.is_ready p.allows p.valid p.part l.by_part l.valid_stays l.part_stays _ _ _ _ _ _ _ _ c.self.view_is c.seat.view_is c.seat.invariant.0 c.requires.own _ _ c.enter-state.ensures.entered in
    turn_valid _ _ _ _ _ _ _ _ _ _ _ _ _ turn

pub play_at-requires-clause-allowed : goal.play_at-requires-clause-allowed
play_at-requires-clause-allowed g c = let p = g.S.Played in let l = g.met.S.Played in
    let turn = at_turn p.gives p.after p.is_ready p.allows p.valid p.part l.by_part l.valid_stays l.part_stays _ _ _ _ _ _ _ _ c.self.view_is c.seat.view_is c.seat.invariant.0 c.requires.own _ _ c.enter-state.ensures.entered in
    allowed_now _ _ _ _ _ _ _ _ _ _ _ _ _ turn c.seat.inside.pass.table_id c.seat.inside.worker c.seat.inside.pass.me.0 c.seat.view_is c.args.action c.requires.allowed

pub play_at-requires-clause-ready : goal.play_at-requires-clause-ready
play_at-requires-clause-ready g c = let p = g.S.Played in let l = g.met.S.Played in
    let turn = at_turn p.gives p.after p.is_ready p.allows p.valid p.part l.by_part l.valid_stays l.part_stays _ _ _ _ _ _ _ _ c.self.view_is c.seat.view_is c.seat.invariant.0 c.requires.own _ _ c.enter-state.ensures.entered in
    ap (λ s. p.is_ready c.enter-state.result s.worker c.args.action) c.seat.view_is ∙ c.requires.ready c.enter-state.result (turn_valid _ _ _ _ _ _ _ _ _ _ _ _ _ turn)

pub returns-clause-own : goal.returns-clause-own
returns-clause-own g c = let p = g.S.Played in let l = g.met.S.Played in let entered = c.enter-state.ensures.entered in
    let turn = at_turn p.gives p.after p.is_ready p.allows p.valid p.part l.by_part l.valid_stays l.part_stays _ _ _ _ _ _ _ _ c.self.view_is c.seat.view_is c.seat.invariant.0 c.requires.own _ _ entered in
    let entry = entry_of p.gives c.enter-state.result c.seat.inside.worker c.args.action in
    let ready = ap (λ s. p.is_ready c.enter-state.result s.worker c.args.action) c.seat.view_is ∙ c.requires.ready c.enter-state.result (turn_valid _ _ _ _ _ _ _ _ _ _ _ _ _ turn) in
    by_outcome c.play_at.result
    (λ reply told. acted_seat _ _ _ _ _ _ _ _ _ _ _ _ _ turn c.seat.inside.pass.table_id c.seat.inside.worker c.seat.inside.pass.me.0 c.seat.view_is entered.ticket c.play_at.new.pass.table_id c.play_at.new.pass.me.0 (c.play_at.ensures.same.0 ∙ c.enter-state.ensures.same.0) c.args.action
    (ap (λ m. m.0) told.1 ∙ ap (λ m. at_stage Idle (with_entry (Some entry) m.0)) entered.now) ready c.requires.allowed)
    (λ e told. looked_seat _ _ _ _ _ _ _ _ _ _ _ _ _ turn c.seat.inside.pass.table_id c.seat.inside.worker c.seat.inside.pass.me.0 c.seat.view_is entered.ticket c.play_at.new.pass.table_id c.play_at.new.pass.me.0 (c.play_at.ensures.same.0 ∙ c.enter-state.ensures.same.0)
    (ap (λ m. m.0) told ∙ ap (λ m. at_stage Idle m.0) entered.now))
    c.play_at.ensures.played

pub returns-clause-acts : goal.returns-clause-acts
returns-clause-acts g c = let p = g.S.Played in let l = g.met.S.Played in let entered = c.enter-state.ensures.entered in
    let turn = at_turn p.gives p.after p.is_ready p.allows p.valid p.part l.by_part l.valid_stays l.part_stays _ _ _ _ _ _ _ _ c.self.view_is c.seat.view_is c.seat.invariant.0 c.requires.own _ _ entered in
    let entry = entry_of p.gives c.enter-state.result c.seat.inside.worker c.args.action in
    let ready = ap (λ s. p.is_ready c.enter-state.result s.worker c.args.action) c.seat.view_is ∙ c.requires.ready c.enter-state.result (turn_valid _ _ _ _ _ _ _ _ _ _ _ _ _ turn) in
    MatchResult-weaker c.play_at.result c.play_at.ensures.played
    (λ reply told. acted_told _ _ _ _ _ _ _ _ _ _ _ _ _ turn c.seat.inside.pass.table_id c.seat.inside.worker c.seat.inside.pass.me.0 c.seat.view_is entered.ticket c.play_at.new.pass.table_id c.play_at.new.pass.me.0 (c.play_at.ensures.same.0 ∙ c.enter-state.ensures.same.0) c.args.action
    (ap (λ m. m.0) told.1 ∙ ap (λ m. at_stage Idle (with_entry (Some entry) m.0)) entered.now) ready reply told.0)
    (λ e told. looked_told _ _ _ _ _ _ _ _ _ _ _ _ _ turn c.seat.inside.pass.table_id c.seat.inside.worker c.seat.inside.pass.me.0 c.seat.view_is entered.ticket c.play_at.new.pass.table_id c.play_at.new.pass.me.0 (c.play_at.ensures.same.0 ∙ c.enter-state.ensures.same.0)
    (ap (λ m. m.0) told ∙ ap (λ m. at_stage Idle m.0) entered.now))
