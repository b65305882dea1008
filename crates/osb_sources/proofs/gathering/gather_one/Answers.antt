use Rattle.std.proofs.Common.{sym, ap, ◌∙◌}
use Rattle.osb_sources.specs.Notes.{with_reply}
use Rattle.osb_sources.proofs.Rounds.{round_by_err, round_by_right, round_alone, round_stops, round_searched}
use Rattle.osb_sources.proofs.gathering.gather_one.Goals as goal

pub returns-in_err-own : goal.returns-in_err-own
returns-in_err-own g c =
    round_by_err c.args.items.now c.args.digest.now _ c.in_err-own.field-0.0 c.from_residual.result c.in_err-own.ensures c.from_residual.ensures.1

pub returns-in-Right : goal.returns-in-Right
returns-in-Right g c =
    let e = rw c.in-Right.is at c.in_ok-own.ensures in
    round_by_right c.args.items.now c.args.digest.now _ c.in-Right.bytes (e (λ h. cc))

pub returns-in_err-lack-in_default : goal.returns-in_err-lack-in_default
returns-in_err-lack-in_default g c =
    round_stops c.args.items.now c.args.digest.now _ c.from_residual-in_err-lack-in_default.result c.from_residual-in_err-lack-in_default.ensures.1

pub returns : goal.returns
returns g c =
    round_alone c.args.items.now c.args.digest.now _ c.in_ok-own.own c.with.result c.in_ok-lack-in_default.field-0
    (c.in_ok-own.ensures (λ h. cc)) c.in_default.not-Right (sym c.if-lists_elsewhere.false ∙ c.lists_elsewhere.ensures)
    (c.with.ensures.noted ∙ ap (λ n. with_reply n c.in_ok-own.own) c.new.ensures.none) c.in_ok-lack-in_default.ensures.lack

pub returns-then-lists_elsewhere : goal.returns-then-lists_elsewhere
returns-then-lists_elsewhere g c =
    round_searched c.args.items.now c.args.digest.now _ _ c.in_ok-own.own c.search_fetchers.result (c.in_ok-own.ensures (λ h. cc))
    c.in_default.not-Right (sym c.if-lists_elsewhere.true ∙ c.lists_elsewhere.ensures) c.search_fetchers.ensures
