use Rattle.std.proofs.Common.{◌≡◌, ap, ◌∙◌, rules}
use Rattle.std.specs.BTreeMap.{insert_entry}
use Rattle.osb_tree.specs.Paths.{path_cmp}
use Rattle.osb_tree.proofs.ChunkWalks.{added_behind}
use Rattle.osb_tree.proofs.trees.add_pairs.Goals as goal

pub loop-path-preserved : goal.loop-path-preserved
loop-path-preserved c =
    let path : c.in_ok-clone.field-0 ≡ c.loop-path-item.result.0 = search rules in
    let node : c.in_ok-clone-2.field-0 ≡ c.loop-path-item.result.1 = search rules in
    added_behind c.args.nodes.now.entries c.args.pairs.now c.loop-path.nodes.entries c.insert.new.self.entries c.loop-path.path-index c.loop-path-item.result c.requires c.loop-path-test.true c.loop-path-item.is c.loop-path.invariant
    (c.in_ok-insert.ensures.entries ∙ ap (λ p. insert_entry path_cmp c.loop-path.nodes.entries p c.in_ok-clone-2.field-0) path ∙ ap (λ n. insert_entry path_cmp c.loop-path.nodes.entries c.loop-path-item.result.0 n) node)
