use Rattle.std.proofs.Common.{◌≡◌, length}
use Rattle.osb_cache.specs.Caches.{opening_lines}
use Rattle.osb_cache.proofs.slots.opening_slots.Given as goal

-- the entries so far, and how many they are
abbrev pub invariant-loop-stored : goal.invariant-loop-stored
invariant-loop-stored g l = (l.slots.items ≡ opening_lines g.C.Weighed.weight_of 1 l.yielded) × (l.used ≡ length l.yielded)
