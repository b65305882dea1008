use Rattle.std.proofs.Common.{◌≡◌, min, length, rules}
use Rattle.std.proofs.lemmas.Slice.Zip.{zip_end}
use Rattle.osb_job.specs.Jobs.{trees_of}
use Rattle.osb_job.proofs.FoundTrees.{last_found_below, all_found}
use Rattle.osb_job.proofs.stages.trees_of.Goals as goal

pub keep_tree-requires : goal.keep_tree-requires
keep_tree-requires c =
    last_found_below c.args.plan.now c.in-Some.dep.now c.loop-dep.trees.items c.chain_at.result.now c.last_of.result c.requires c.loop-dep.invariant.keys c.chain_at.ensures c.last_of.ensures

pub returns-clause-trees : goal.returns-clause-trees
returns-clause-trees c =
    let count : length c.loop-dep.yielded ≡ min (length c.args.deps.now) (length c.args.got.now) =
    zip_end c.args.deps.now c.args.got.now c.loop-dep.yielded c.into_iter-dep-iterator.result c.loop-dep.dep-iterator c.next.new.self c.next.result
    (search rules) (search rules) c.loop-dep.yielded_by c.in-None.is c.next.ensures.steps in
    all_found c.args.plan.now c.args.deps.now c.args.got.now c.loop-dep.trees.items (trees_of c.args.plan.now c.args.deps.now c.args.got.now) (length c.loop-dep.yielded) count c.loop-dep.invariant.trees
