use Rattle.std.proofs.Common.{◌<◌, ◌≤◌, length, arith}
use Rattle.osb_sources.specs.Replies.{heard}
use Rattle.osb_sources.proofs.Asks.{seen_within, seen_past}
use Rattle.osb_sources.proofs.Turns.{turn_ends, turn_stops, turn_next, turn_finds, turn_halts}
use Rattle.osb_sources.proofs.asking.search_fetchers.Goals as goal

pub returns-in_err-reply : goal.returns-in_err-reply
returns-in_err-reply g c = λ none.
    let within : c.loop-at.at < length c.loop-at.fetchers.items = omega arith in
    turn_halts c.args.digest.now (heard c.args.own.now) _ _ _ c.loop-at.at c.loop-at.notes c.in_err-reply.field-0.0 c.from_residual.result
    (c.loop-at.invariant.turn none) (seen_within _ c.loop-at.fetchers.items c.loop-at.at within) c.in_err-reply.ensures.asked c.from_residual.ensures.1

pub returns-in-Right : goal.returns-in-Right
returns-in-Right g c = λ none.
    let within : c.loop-at.at < length c.loop-at.fetchers.items = omega arith in
    turn_finds c.args.digest.now (heard c.args.own.now) _ _ _ c.loop-at.at c.loop-at.notes c.in-Right.bytes (c.loop-at.invariant.turn none)
    (seen_within _ c.loop-at.fetchers.items c.loop-at.at within) (rw c.in-Right.is at c.in_ok-reply.ensures.asked)

pub loop-at-preserved : goal.loop-at-preserved
loop-at-preserved g c =
    let within : c.loop-at.at < length c.loop-at.fetchers.items = omega arith in
    record {
      within = omega (arith, c.in_ok-reply.ensures.rest, c.next_place-at.ensures);
      turn = λ none.
          turn_next c.args.digest.now (heard c.args.own.now) _ _ _ c.loop-at.at c.loop-at.notes c.in_ok-reply.reply c.next_place-at.result
          c.with-notes-in_default.result (c.loop-at.invariant.turn none) (seen_within _ c.loop-at.fetchers.items c.loop-at.at within)
          c.in_ok-reply.ensures.asked c.in_default.not-Right c.next_place-at.ensures c.with-notes-in_default.ensures.noted;
    }

pub returns : goal.returns
returns g c = λ none.
    let past : length c.loop-at.fetchers.items ≤ c.loop-at.at = omega arith in
    turn_ends c.args.digest.now (heard c.args.own.now) _ _ c.loop-at.at c.loop-at.notes c.in_ok-lack.field-0 (c.loop-at.invariant.turn none)
    (seen_past _ c.loop-at.fetchers.items c.loop-at.at past) c.in_ok-lack.ensures.lack

pub returns-in_err-lack : goal.returns-in_err-lack
returns-in_err-lack g c = λ none.
    turn_stops c.args.digest.now (heard c.args.own.now) _ _ c.loop-at.at c.loop-at.notes c.from_residual-in_err-lack.result
    (c.loop-at.invariant.turn none) c.from_residual-in_err-lack.ensures.1
