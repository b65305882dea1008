use Rattle.std.proofs.Common.{◌≡◌, ◌-◌, ◌^◌, min, take, sum_by}
use Rattle.osb_tree.specs.Trees.{weight}
use Rattle.osb_tree.proofs.chunks.total_weight.Given as goal

abbrev pub invariant-loop-path : goal.invariant-loop-path
invariant-loop-path l = l.total ≡ min (sum_by weight (take l.path-index l.pairs)) (2 ^ 64 - 1)
