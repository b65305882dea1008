use Rattle.std.proofs.Common.{◌+◌, arith}
use Rattle.osb_cache.specs.Caches.{counted}
use Rattle.osb_cache.proofs.Evicts.{victims_leave, pinned_weights-weighted}
use Rattle.osb_cache.proofs.laws.evicts_victims.Goals as goal

pub returns : goal.returns
returns g c = record {
  law = record {
    taken = λ weight cache size keys s front. (victims_leave cache.lines 0 cache.clock (counted cache + size) cache.limit keys s.rising (λ key. omega (arith, s.apart key)) front).left;
    number = λ weight cache size keys s front. (victims_leave cache.lines 0 cache.clock (counted cache + size) cache.limit keys s.rising (λ key. omega (arith, s.apart key)) front).number;
    pinned = λ cache. pinned_weights-weighted cache.lines;
  };
}
