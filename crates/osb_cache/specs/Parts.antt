-- What a cache keeps beside its plain data: the counted bytes, and the room for entries; and what leaves it.
use Rattle.std.specs.Prelude.{◌≡◌, ℕ, ◌+◌, ◌≤◌, List, length, filter}
use Rattle.osb_tree.specs.declared.numbers.Key.{Key}
use Rattle.osb_cache.specs.Caches.{Line, Draft, CacheState, counted, stays, IsSound}

abbrev pub state_of : {C : Type 0} → ℕ → ℕ → List (Line C) → List (Draft C) → CacheState C
state_of limit clock lines drafts = record { limit = limit; clock = clock; lines = lines; drafts = drafts }

-- There is room for each draft to become an entry.
pub record IsCache {C : Type 0} (weight : C → ℕ) (cache : CacheState C) (count room : ℕ) : Type 0 where
  pub sound : IsSound weight cache
  pub counts : count ≡ counted cache
  pub places : length cache.lines + length cache.drafts ≤ room

-- what is left of entries without these keys, and how many keys there are
pub record Leaves {C : Type 0} (keys : List Key) (lines evicted : List (Line C)) (count : ℕ) : Type 0 where
  pub left : filter (stays keys) lines ≡ evicted
  pub number : length evicted + count ≡ length lines
