use Rattle.std.proofs.Common.{◌≡◌, ◌++◌, drop}
use Rattle.osb_ready.specs.Pairing.{built_from}
use Rattle.osb_ready.proofs.trees.by_places.Given as goal

abbrev pub invariant-loop-first : goal.invariant-loop-first
invariant-loop-first l = l.built.items ++ built_from l.outcomes l.build.needed l.first (drop l.first l.numbers) ≡ built_from l.outcomes l.build.needed 0 l.numbers
