use Rattle.std.proofs.Common.{◌≡◌, ◌+◌, ◌∷◌, take, drop, length}
use Rattle.std.specs.List.{flat_map, list_all}
use Rattle.osb_tree.specs.Paths.{is_name}
use Rattle.osb_tree.proofs.paths.is_short.Given as goal

abbrev pub invariant-loop-name : goal.invariant-loop-name
invariant-loop-name l =
    (l.room + length (flat_map (λ n. 47 ∷ n) (take l.name-index l.names)) ≡ 4096)
    × (list_all is_name (drop l.name-index l.names) ≡ list_all is_name l.names)
