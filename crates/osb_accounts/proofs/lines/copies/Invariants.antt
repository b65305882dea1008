use Rattle.std.proofs.Common.{◌≡◌, map, take}
use Rattle.osb_accounts.proofs.lines.copies.Given as goal

abbrev pub invariant-loop-piece : goal.invariant-loop-piece
invariant-loop-piece l = l.fields.items ≡ map (λ piece. piece.now) (take l.piece-index l.pieces)
