use Rattle.std.proofs.Common.{◌≡◌, ◌++◌, drop}
use Rattle.osb_ready.specs.Trees.{ok_map, exports_of}
use Rattle.osb_ready.proofs.trees.exports_of.Given as goal

-- the exports so far, and those of the names that are left
abbrev pub invariant-loop-name : goal.invariant-loop-name
invariant-loop-name l = ok_map (λ rest. l.exports.items ++ rest) (exports_of l.trees (drop l.name-index l.names)) ≡ exports_of l.trees l.names
