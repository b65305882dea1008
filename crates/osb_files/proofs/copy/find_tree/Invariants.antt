use Rattle.std.proofs.Common.{◌≡◌, ◌==◌, drop}
use Rattle.std.specs.Map.{lookup}
use Rattle.std.specs.Cmp.Lexicographic.{pointwise}
use Rattle.osb_files.proofs.copy.find_tree.Given as goal

abbrev pub invariant-loop-known : goal.invariant-loop-known
invariant-loop-known l = lookup (λ known. pointwise ◌==◌ known l.name) (drop l.known-index l.known-items) ≡ lookup (λ known. pointwise ◌==◌ known l.name) l.fn.inputs.trees
