use Rattle.std.proofs.Common.{arith}
use Rattle.osb_crews.proofs.runs.run_once.Goals as goal

pub open-requires-clause-can_open : goal.open-requires-clause-can_open
open-requires-clause-can_open g c = c.requires.can_open c.args.settings.now.limit (omega (arith, c.if-settings-gt-MOST_BYTES.false))

pub crew-requires-clause-opened : goal.crew-requires-clause-opened
crew-requires-clause-opened g c κs within = (
  c.args.opening.items,
  c.args.settings.now.limit,
  record {
    can_open = c.requires.can_open c.args.settings.now.limit (omega (arith, c.if-settings-gt-MOST_BYTES.false));
    known = c.requires.known;
    trees = c.requires.trees;
    is = c.in_ok-shared.ensures.opened;
  },
)
