use Rattle.osb_files.proofs.Walks.{InRange-node_at}
use Rattle.osb_files.proofs.copy.copy_item.Goals as goal

pub copy_directory-requires : goal.copy_directory-requires
copy_directory-requires c = InRange-node_at c.in-Some.from.now c.args.item.now.source c.in-Some-get.node.now c.in-Some-get.ensures.tree c.in-Some-get.ensures.node

pub copy_node-requires : goal.copy_node-requires
copy_node-requires c = InRange-node_at c.in-Some.from.now c.args.item.now.source c.in-Some-get.node.now c.in-Some-get.ensures.tree c.in-Some-get.ensures.node
