use Rattle.std.proofs.Common.{◌∙◌, ap, rules}
use Rattle.osb_tree.specs.Trees.{node_at}
use Rattle.osb_tree.proofs.Puts.{share_at-weighed}
use Rattle.osb_tree.proofs.trees.Tree.share_at.Goals as goal

pub returns : goal.returns
returns c =
    share_at-weighed c.args.self.now c.args.path.now c.get.result c.map_or.result (search rules) (c.get.ensures.value ∙ ap (λ listing. node_at listing c.args.path.now) c.self.view_is) (search rules)
