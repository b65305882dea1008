use Rattle.std.proofs.Common.{sym, ap, subst, ◌∙◌, arith}
use Rattle.osb_turn.specs.Seats.{AreSeatsOf, Closes}
use Rattle.osb_turn.proofs.Closing.{row_is, first_table, others_table, close_told, Some-injective, nothing_taken}
use Rattle.osb_turn.proofs.turnstile.Turnstile.close.Goals as goal

pub take_in-kept-requires-clause-first : goal.take_in-kept-requires-clause-first
take_in-kept-requires-clause-first g c = let p = g.S.Played in let all = c.requires.all in let count = all.count in let workers = ap (λ t. t.workers) c.self.view_is in
    let row = row_is c.args.seats.items c.remove-first.result c.remove-first.new.self.items (omega arith) c.remove-first.ensures.value c.remove-first.ensures.items in
    first_table p.gives p.after p.is_ready p.allows c.args.self _ _ _ row all ∙ sym (ap (λ t. t.table) c.self.view_is)

pub take_in-kept-requires-clause-others : goal.take_in-kept-requires-clause-others
take_in-kept-requires-clause-others g c = let p = g.S.Played in let all = c.requires.all in let count = all.count in let workers = ap (λ t. t.workers) c.self.view_is in
    let row = row_is c.args.seats.items c.remove-first.result c.remove-first.new.self.items (omega arith) c.remove-first.ensures.value c.remove-first.ensures.items in
    others_table p.gives p.after p.is_ready p.allows c.args.self _ _ _ (ap (λ t. t.table) c.self.view_is) (subst (AreSeatsOf p.gives p.after p.is_ready p.allows c.args.self) row all)

pub close_with-closed-requires : goal.close_with-closed-requires
close_with-closed-requires g c = let p = g.S.Played in let all = c.requires.all in let count = all.count in let workers = ap (λ t. t.workers) c.self.view_is in
    let row = row_is c.args.seats.items c.remove-first.result c.remove-first.new.self.items (omega arith) c.remove-first.ensures.value c.remove-first.ensures.items in
    c.take_in-kept.ensures.kept.table ∙ (first_table p.gives p.after p.is_ready p.allows c.args.self _ _ _ row all ∙ sym (ap (λ t. t.table) c.self.view_is))

pub unreachable-requires : goal.unreachable-requires
unreachable-requires g c = let p = g.S.Played in let all = c.requires.all in let count = all.count in let workers = ap (λ t. t.workers) c.self.view_is in
    let row = row_is c.args.seats.items c.remove-first.result c.remove-first.new.self.items (omega arith) c.remove-first.ensures.value c.remove-first.ensures.items in
    let told = close_told p.gives p.after p.is_ready p.allows p.valid c.args.self c.args.seats.items c.remove-first.result c.remove-first.new.self.items c.self.inside.table.shared.key (ap (λ t. t.opening) c.self.view_is) row all
    c.take_in-kept.result c.take_in-kept.ensures.kept _ _ c.close_with-closed.ensures.values.2 c.take-state.result c.take-state.ensures.value in
    nothing_taken c.take-state.result told.0 told.1 c.in-None.is

pub returns-clause-closes : goal.returns-clause-closes
returns-clause-closes g c = let p = g.S.Played in let all = c.requires.all in let count = all.count in let workers = ap (λ t. t.workers) c.self.view_is in
    let row = row_is c.args.seats.items c.remove-first.result c.remove-first.new.self.items (omega arith) c.remove-first.ensures.value c.remove-first.ensures.items in
    let told = close_told p.gives p.after p.is_ready p.allows p.valid c.args.self c.args.seats.items c.remove-first.result c.remove-first.new.self.items c.self.inside.table.shared.key (ap (λ t. t.opening) c.self.view_is) row all
    c.take_in-kept.result c.take_in-kept.ensures.kept _ _ c.close_with-closed.ensures.values.2 c.take-state.result c.take-state.ensures.value in
    subst (Closes p.gives p.after p.is_ready p.allows c.args.self c.args.seats.items) (Some-injective (sym told.1 ∙ c.in-Some.is)) told.2
