use Rattle.std.proofs.Common.{◌≡◌, ℕ, List, ◌∷◌, ◌++◌, drop, string_bytes}
use Rattle.std.specs.List.{flat_map}
use Rattle.osb_export.specs.Exports.{place_of}
use Rattle.osb_export.proofs.exports.place_of.Given as goal

-- the names so far and those that are left make the place
abbrev pub invariant-loop-name : goal.invariant-loop-name
invariant-loop-name l = string_bytes l.place ++ flat_map (λ (name : List ℕ). 47 ∷ name) (drop l.name-index l.name-items) ≡ place_of l.folder l.path
