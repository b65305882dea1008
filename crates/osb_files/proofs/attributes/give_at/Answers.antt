use Rattle.osb_stages.proofs.Found.{InRange-found}
use Rattle.osb_files.proofs.Giving.{IsTree-given, no_fault-given}
use Rattle.osb_files.proofs.attributes.give_at.Goals as goal

pub with_attributes-requires : goal.with_attributes-requires
with_attributes-requires c = InRange-found _ _ _ c.in-Some.ensures.tree c.in-Some.ensures.node

pub returns-in_default-put-clause-tree : goal.returns-in_default-put-clause-tree
returns-in_default-put-clause-tree c =
    (c.in-Some.ensures.tree, IsTree-given c.args.tree.now c.args.path.now c.args.given.now c.in-Some.node.now _ _ _ c.in-Some.ensures.tree c.in-Some.ensures.node c.in_ok-clone.ensures.cases c.in_ok-node.ensures.node c.in_ok-node.ensures.in_range c.in_default-put.ensures.ok)

pub unreachable-requires-in_default-fault : goal.unreachable-requires-in_default-fault
unreachable-requires-in_default-fault c =
    no_fault-given c.args.tree.now c.args.path.now c.args.given.now c.in-Some.node.now _ _ _ c.in-Some.ensures.tree c.len.ensures.limits c.in-Some.ensures.node c.in_ok-clone.ensures.cases c.in_ok-node.ensures.node (c.in-Err.ensures.fault c.in_default-fault.not-NoMemory)
