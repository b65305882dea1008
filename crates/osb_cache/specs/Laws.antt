-- What later crates rest on: each cache stays one; what the calls keep of pins, chunks and drafts; and that eviction takes the victims.
use Rattle.std.specs.Prelude.{◌≡◌, ℕ, ◌+◌, ◌<◌, false, ◌&&◌, ◌==◌, if◌then◌else◌, List, length, map, filter, find, Some, None}
use Rattle.osb_tree.specs.declared.numbers.Key.{Key}
use Rattle.osb_evict.specs.Victims.{pinned_sizes as pinned_weights, IsFront}
use Rattle.osb_cache.specs.declared.answers.Look.TheVariants.{Hit}
use Rattle.osb_cache.specs.declared.answers.Reserve.TheVariants.{Room}
use Rattle.osb_cache.specs.declared.answers.Stored.{Stored}
use Rattle.osb_cache.specs.Caches.{Draft, CacheState, is_draft, is_taken, counted, chunks_at, pins_on, pinned_sizes, look_reply, after_look, after_unpin, staying, stays, reserve_reply, after_reserve, new_draft, with_chunk, after_put, after_commit, after_drop, opened, weighted, CanOpen, HasDraft, CanPut, CanCommit, IsSound}

-- what holds of each cache holds of a new one, and stays under each call
pub record CachesStay (C : Type 0) : Type 0 where
  pub opening : (weight : C → ℕ) (limit : ℕ) (entries : List (Stored C)) → CanOpen weight limit entries → IsSound weight (opened weight limit entries)
  pub look : (weight : C → ℕ) (cache : CacheState C) (worker : ℕ) (keys : List Key) → IsSound weight cache → IsSound weight (after_look cache worker (look_reply cache keys))
  pub unpin : (weight : C → ℕ) (cache : CacheState C) (worker key : ℕ) → IsSound weight cache → IsSound weight (after_unpin cache worker key)
  pub reserve : (weight : C → ℕ) (cache : CacheState C) (worker key size count : ℕ) → IsSound weight cache → IsSound weight (after_reserve cache worker key size count (reserve_reply cache key size))
  pub put : (weight : C → ℕ) (cache : CacheState C) (worker key : ℕ) (chunk : C) → IsSound weight cache → CanPut weight cache worker key chunk → IsSound weight (after_put cache worker key chunk)
  pub commit : (weight : C → ℕ) (cache : CacheState C) (worker key : ℕ) → IsSound weight cache → CanCommit weight cache worker key → IsSound weight (after_commit cache worker key)
  pub drop : (weight : C → ℕ) (cache : CacheState C) (worker key : ℕ) → IsSound weight cache → HasDraft cache worker key → IsSound weight (after_drop cache worker key)

-- one where the other worker and the name are this worker and this key, else none
abbrev pub own : ℕ → ℕ → ℕ → ℕ → ℕ
own worker key other name = if worker == other && key == name then 1 else 0

-- a hit adds a pin of its worker and key, an unpin takes one away, and nothing else changes pins
pub record PinsStay (C : Type 0) : Type 0 where
  pub look : (cache : CacheState C) (worker : ℕ) (keys : List Key) (place chunks : ℕ) (key : Key) → look_reply cache keys ≡ Hit place key chunks → (other name : ℕ) → pins_on other name (after_look cache worker (look_reply cache keys)).lines ≡ pins_on other name cache.lines + own worker key.0 other name
  pub unpin : (weight : C → ℕ) (cache : CacheState C) (worker key : ℕ) → IsSound weight cache → 0 < pins_on worker key cache.lines → (other name : ℕ) → pins_on other name (after_unpin cache worker key).lines + own worker key other name ≡ pins_on other name cache.lines
  pub reserve : (cache : CacheState C) (size other name : ℕ) → pins_on other name (staying cache size) ≡ pins_on other name cache.lines
  pub commit : (cache : CacheState C) (worker key other name : ℕ) → pins_on other name (after_commit cache worker key).lines ≡ pins_on other name cache.lines

-- a pinned entry keeps its chunks, and a commit makes an entry of those of its draft
pub record ChunksStay (C : Type 0) : Type 0 where
  pub look : (weight : C → ℕ) (cache : CacheState C) (worker : ℕ) (keys : List Key) → IsSound weight cache → (name : ℕ) → chunks_at name (after_look cache worker (look_reply cache keys)).lines ≡ chunks_at name cache.lines
  pub unpin : (cache : CacheState C) (worker key name : ℕ) → chunks_at name (after_unpin cache worker key).lines ≡ chunks_at name cache.lines
  pub reserve : (weight : C → ℕ) (cache : CacheState C) (size other name : ℕ) → IsSound weight cache → 0 < pins_on other name cache.lines → chunks_at name (staying cache size) ≡ chunks_at name cache.lines
  pub commit : (cache : CacheState C) (worker key other name : ℕ) → 0 < pins_on other name cache.lines → chunks_at name (after_commit cache worker key).lines ≡ chunks_at name cache.lines
  pub made : (weight : C → ℕ) (cache : CacheState C) (worker key : ℕ) (draft : Draft C) → IsSound weight cache → find (is_draft worker key) cache.drafts ≡ Some draft → chunks_at key (after_commit cache worker key).lines ≡ draft.chunks

-- a call changes the draft of its own worker and key alone
pub record DraftsStay (C : Type 0) : Type 0 where
  pub reserve : (cache : CacheState C) (worker key size count evicted other name : ℕ) → (worker ≡ other → key ≡ name → ⊥) → find (is_draft other name) (after_reserve cache worker key size count (Room evicted)).drafts ≡ find (is_draft other name) cache.drafts
  pub reserved : (cache : CacheState C) (worker key size count evicted : ℕ) → is_taken key cache ≡ false → find (is_draft worker key) (after_reserve cache worker key size count (Room evicted)).drafts ≡ Some (new_draft worker key size count)
  pub put : (cache : CacheState C) (worker key : ℕ) (chunk : C) (other name : ℕ) → (worker ≡ other → key ≡ name → ⊥) → find (is_draft other name) (after_put cache worker key chunk).drafts ≡ find (is_draft other name) cache.drafts
  pub filled : (cache : CacheState C) (worker key : ℕ) (chunk : C) (draft : Draft C) → find (is_draft worker key) cache.drafts ≡ Some draft → find (is_draft worker key) (after_put cache worker key chunk).drafts ≡ Some (with_chunk chunk draft)
  pub drop : (cache : CacheState C) (worker key other name : ℕ) → (worker ≡ other → key ≡ name → ⊥) → find (is_draft other name) (after_drop cache worker key).drafts ≡ find (is_draft other name) cache.drafts
  pub dropped : (weight : C → ℕ) (cache : CacheState C) (worker key : ℕ) → IsSound weight cache → find (is_draft worker key) (after_drop cache worker key).drafts ≡ None
  pub commit : (cache : CacheState C) (worker key : ℕ) → (after_commit cache worker key).drafts ≡ (after_drop cache worker key).drafts

-- what leaves is what `victims` takes, and its test of room is the cache's
pub record EvictsVictims (C : Type 0) : Type 0 where
  pub taken : (weight : C → ℕ) (cache : CacheState C) (size : ℕ) (keys : List Key) → IsSound weight cache → IsFront (map weighted cache.lines) (counted cache + size) cache.limit keys → filter (stays keys) cache.lines ≡ staying cache size
  pub number : (weight : C → ℕ) (cache : CacheState C) (size : ℕ) (keys : List Key) → IsSound weight cache → IsFront (map weighted cache.lines) (counted cache + size) cache.limit keys → length (staying cache size) + length keys ≡ length cache.lines
  pub pinned : (cache : CacheState C) → pinned_weights (map weighted cache.lines) ≡ pinned_sizes cache.lines
