use Rattle.std.proofs.Common.{sym}
use Rattle.osb_ident.proofs.Pieces.{Takes-nil, Takes-same, separator-first, separator-later}
use Rattle.osb_ident.proofs.hashing.take_separator.Goals as goal

pub returns-then-not-is_first : goal.returns-then-not-is_first
returns-then-not-is_first c = Takes-same c.take_text.ensures (sym (separator-later c.args.is_first c.if-not-is_first.true))

pub returns-else-not-is_first : goal.returns-else-not-is_first
returns-else-not-is_first c = Takes-same (Takes-nil c.args.hasher.now) (sym (separator-first c.args.is_first c.if-not-is_first.false))
