use Rattle.std.proofs.Common.{sym, subst}
use Rattle.osb_tree.specs.Paths.{IsPath}
use Rattle.osb_tree.proofs.Puts.{PutFits, tree-after_put}
use Rattle.osb_tree.proofs.trees.Tree.put.Goals as goal

pub invariant_of-self : goal.invariant_of-self
invariant_of-self c =
    let fits : PutFits c.args.self.now c.args.path c.args.node = record { parent = c.in_ok-check_parent.ensures.ok; place = sym c.if-takes_over.ensures; small = c.in-Some.ensures.0 } in
    tree-after_put c.self.inside.nodes.entries c.args.self.now _ c.args.path c.args.node _ c.self.view_is c.in-Ok.ensures.entries c.self.invariant.1 (subst IsPath c.path.view_is c.path.invariant) c.requires fits c.in-Some.ensures.1
