use Rattle.std.proofs.Common.{◌≡◌, nat_lt, length, count_by, take}
use Rattle.osb_cache.specs.Caches.{chunks_at}
use Rattle.osb_machine.proofs.openings.count_kept.Given as goal

-- the keys so far
abbrev pub invariant-loop-key : goal.invariant-loop-key
invariant-loop-key l = l.kept ≡ count_by (λ key. nat_lt 0 (length (chunks_at key.0 l.cache.lines))) (take l.key-index l.keys)
