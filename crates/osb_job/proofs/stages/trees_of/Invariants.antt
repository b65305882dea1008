use Rattle.std.proofs.Common.{◌≡◌, drop, length}
use Rattle.osb_job.specs.Jobs.{trees_with, trees_of}
use Rattle.osb_job.proofs.stages.trees_of.Given as goal

-- the trees so far, with those of the outcomes that are left
abbrev pub invariant-loop-dep : goal.invariant-loop-dep
invariant-loop-dep l = record {
  trees : trees_with l.plan (drop (length l.yielded) l.deps) (drop (length l.yielded) l.got) l.trees.items ≡ trees_of l.plan l.deps l.got;
  keys : length l.trees.items ≡ length l.plan.table.recipes;
}
