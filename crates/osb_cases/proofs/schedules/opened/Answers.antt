use Rattle.osb_cases.proofs.schedules.opened.Goals as goal

pub open-requires-clause-can_open : goal.open-requires-clause-can_open
open-requires-clause-can_open c = c.in_ok-opening.ensures.can_open c.args.limit c.requires.limit

pub returns : goal.returns
returns c =
    let opening = c.in_ok-opening in
    record {
      opened = (
        opening.opening.items,
        c.args.limit,
        record { can_open = opening.ensures.can_open c.args.limit c.requires.limit; known = opening.ensures.known; trees = opening.ensures.trees; is = c.in_ok-open.ensures.opened },
      );
    }
