use Rattle.std.proofs.Common.{◌≡◌, ℕ, ◌+◌, ◌<◌, take}
use Rattle.osb_evict.specs.Victims.{sizes}
use Rattle.osb_evict.proofs.choices.front_len.Given as goal

-- what is left without the lines so far, of which fewer do not make room
abbrev pub invariant-loop-i : goal.invariant-loop-i
invariant-loop-i l =
    (l.left + sizes (take l.i l.queue) ≡ l.total) × ((fewer : ℕ) → fewer < l.i → l.limit + sizes (take fewer l.queue) < l.total)
