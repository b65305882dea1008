use Rattle.std.proofs.Common.{◌≡◌, map, take}
use Rattle.osb_machine.proofs.openings.keys_of.Given as goal

-- the keys of the entries so far
abbrev pub invariant-loop-stored : goal.invariant-loop-stored
invariant-loop-stored l = l.keys.items ≡ map (λ stored. stored.key) (take l.stored-index l.opening)
