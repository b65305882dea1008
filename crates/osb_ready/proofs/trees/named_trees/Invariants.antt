use Rattle.std.proofs.Common.{◌≡◌, ◌++◌}
use Rattle.osb_ready.specs.Trees.{first_failure, named_trees}
use Rattle.osb_ready.proofs.trees.named_trees.Given as goal

-- the trees so far, and those of the outcomes that are left
abbrev pub invariant-loop-place : goal.invariant-loop-place
invariant-loop-place l = record {
  clear : first_failure l.manifest l.place-iterator.rest.items ≡ first_failure l.manifest l.fn.built.items;
  made : l.trees.items ++ named_trees l.manifest l.place-iterator.rest.items ≡ named_trees l.manifest l.fn.built.items;
}
