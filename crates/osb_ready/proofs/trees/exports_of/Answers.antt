use Rattle.std.proofs.Common.{sym}
use Rattle.osb_ready.proofs.NamedTrees.{export_lacks, export_on}
use Rattle.osb_ready.proofs.trees.exports_of.Goals as goal

pub returns-in_default : goal.returns-in_default
returns-in_default c n =
    rw c.in_ok-clone.ensures.cases (export_lacks c.args.trees.now c.args.names.now c.loop-name.name-index c.name-item.result _ _
    c.loop-name-test.true c.name-item.is (sym (rw c.as_str.ensures.content at c.in_default.ensures.found)) c.loop-name.invariant)

pub loop-name-preserved : goal.loop-name-preserved
loop-name-preserved c =
    export_on c.args.trees.now c.args.names.now c.loop-name.name-index c.name-item.result c.in-Some.tree.now _ _ _
    c.loop-name-test.true c.name-item.is (sym (rw c.as_str.ensures.content at c.in-Some.ensures.found))
    (rw (← c.in_ok-clone-2.ensures.cases, ← c.in_ok-share.ensures.value) c.in_ok-push.ensures.items) c.loop-name.invariant
