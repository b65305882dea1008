use Rattle.std.proofs.Common.{◌≡◌, drop, ◌==◌}
use Rattle.std.specs.List.{list_any}
use Rattle.std.specs.Cmp.Lexicographic.{pointwise}
use Rattle.osb_sources.proofs.own.lists_elsewhere.Given as goal

-- no digest so far is the one that is looked for
abbrev pub invariant-loop-held : goal.invariant-loop-held
invariant-loop-held l = list_any (pointwise ◌==◌ l.digest) (drop l.held-index l.items.curl) ≡ list_any (pointwise ◌==◌ l.digest) l.items.curl
