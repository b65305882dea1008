use Rattle.std.proofs.Common.{◌≡◌, drop}
use Rattle.std.specs.Bool.{◌==◌}
use Rattle.std.specs.Cmp.Lexicographic.{pointwise}
use Rattle.std.specs.Map.{lookup}
use Rattle.osb_base.proofs.lookups.find_item.Given as goal

-- no item so far has the digest
abbrev pub invariant-loop-held : goal.invariant-loop-held
invariant-loop-held g l = lookup (pointwise ◌==◌ l.digest) (drop l.held-index l.items) ≡ lookup (pointwise ◌==◌ l.digest) l.items
