use Rattle.osb_turn.proofs.Steps.{starts}
use Rattle.osb_turn.proofs.Rows.{new_seats_fit}
use Rattle.osb_turn.proofs.turnstile.Turnstile.open.Goals as goal

pub vacant-requires : goal.vacant-requires
vacant-requires g c = starts _ _ _ _ _ _ c.requires.valid

pub returns-clause-seats : goal.returns-clause-seats
returns-clause-seats g c = let p = g.S.Played in let table = c.in_ok-table.table.shared in
    new_seats_fit p.gives p.after p.is_ready p.allows (record { table = table.table_id; opening = table.key; workers = c.args.workers }) c.in_ok-seats.seats.items c.in_ok-seats.ensures.seats
