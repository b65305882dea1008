use Rattle.std.proofs.Common.{rules, ◌≡◌, ap, arith}
use Rattle.osb_turn.proofs.Seats.{splits}
use Rattle.osb_turn.proofs.turnstile.make_seats.Goals as goal

pub split_seat-pass-requires : goal.split_seat-pass-requires
split_seat-pass-requires g c = let made = c.loop-number.invariant.made in
    (search rules, search rules, splits _ _ _ _ _ _ _ _ (ap (λ m. m.0.stage) made) (ap (λ m. m.0.worker.0) made) (let n : c.loop-number.first.me.0.made ≡ c.loop-number.number = ap (λ m. m.0.made) made in omega arith))
