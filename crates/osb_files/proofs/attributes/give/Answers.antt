use Rattle.std.proofs.Common.{◌∙◌}
use Rattle.osb_files.proofs.Giving.{IsGiven-found, covered-alone, covered-both}
use Rattle.osb_files.proofs.attributes.give.Goals as goal

pub returns-in_ok-give_beneath : goal.returns-in_ok-give_beneath
returns-in_ok-give_beneath c =
    let given = IsGiven-found c.args.tree.now c.args.path.now c.args.given.now _ c.requires c.in_ok-give_at.ensures.ok in
    let both = covered-both c.args.tree.now c.args.path.now c.args.given.now given.node c.in_ok-give_at.ensures.tree.0 given.found in
    rw c.if-recursive.true (record { ok = rw given.is at c.in_ok-give_beneath.ensures.ok ∙ both })

pub returns-else-recursive : goal.returns-else-recursive
returns-else-recursive c =
    let given = IsGiven-found c.args.tree.now c.args.path.now c.args.given.now _ c.requires c.in_ok-give_at.ensures.ok in
    rw c.if-recursive.false (record { ok = given.is ∙ covered-alone c.args.tree.now c.args.path.now c.args.given.now given.node c.in_ok-give_at.ensures.tree.0 given.found })
