-- A cache as plain data: its limit and clock, its entries by rising `used`, what is staged; and what each call answers and leaves.
use Rattle.std.specs.Prelude.{◌≡◌, ℕ, ◌+◌, ◌-◌, ◌^◌, ◌<◌, ◌≤◌, Bool, true, not, ◌&&◌, ◌||◌, ◌==◌, nat_lt, if◌then◌else◌, List, [], ◌∷◌, ◌++◌, length, map, All, find, position, sum_by, count_by, Option, Some, None, IsSomeAnd}
use Rattle.std.specs.List.{list_any, slice_index_or}
use Rattle.std.specs.Option.{option_map_or, option_to_list}
use Rattle.osb_tree.specs.declared.numbers.Key.{Key}
use Rattle.osb_evict.specs.declared.lines.Line.{Line as Weighted}
use Rattle.osb_cache.specs.declared.answers.Look.{Look}
use Rattle.osb_cache.specs.declared.answers.Look.TheVariants.{Hit, Miss}
use Rattle.osb_cache.specs.declared.answers.Reserve.{Reserve}
use Rattle.osb_cache.specs.declared.answers.Reserve.TheVariants.{Room, Already, TooLarge, Full}
use Rattle.osb_cache.specs.declared.answers.Stored.{Stored}
use Rattle.osb_cache.specs.Edits.{remove_first, update_first}

-- An entry. `pins` has the worker of each pin.
pub record Line (C : Type 0) : Type 0 where
  pub key : ℕ
  pub chunks : List C
  pub size : ℕ
  pub used : ℕ
  pub pins : List ℕ

-- What a worker has staged: room for `count` chunks that together weigh `size`, and the chunks so far.
pub record Draft (C : Type 0) : Type 0 where
  pub worker : ℕ
  pub key : ℕ
  pub size : ℕ
  pub count : ℕ
  pub chunks : List C

pub record CacheState (C : Type 0) : Type 0 where
  pub limit : ℕ
  pub clock : ℕ
  pub lines : List (Line C)
  pub drafts : List (Draft C)

abbrev pub has_key : {C : Type 0} → ℕ → Line C → Bool
has_key key line = line.key == key

abbrev pub is_pinned : {C : Type 0} → Line C → Bool
is_pinned line = not (length line.pins == 0)

abbrev pub drafts_key : {C : Type 0} → ℕ → Draft C → Bool
drafts_key key draft = draft.key == key

-- the draft of this worker and key
abbrev pub is_draft : {C : Type 0} → ℕ → ℕ → Draft C → Bool
is_draft worker key draft = draft.worker == worker && draft.key == key

-- Sizes.

abbrev pub sizes : {C : Type 0} → List (Line C) → ℕ
sizes lines = sum_by (λ line. line.size) lines

abbrev pub pinned_size : {C : Type 0} → Line C → ℕ
pinned_size line = if is_pinned line then line.size else 0

-- the sizes of the pinned entries
abbrev pub pinned_sizes : {C : Type 0} → List (Line C) → ℕ
pinned_sizes lines = sum_by pinned_size lines

-- what is reserved
abbrev pub held : {C : Type 0} → List (Draft C) → ℕ
held drafts = sum_by (λ draft. draft.size) drafts

abbrev pub counted : {C : Type 0} → CacheState C → ℕ
counted cache = sizes cache.lines + held cache.drafts

-- Look-ups.

abbrev pub is_committed : {C : Type 0} → ℕ → List (Line C) → Bool
is_committed key lines = list_any (has_key key) lines

-- the key is committed or staged
abbrev pub is_taken : {C : Type 0} → ℕ → CacheState C → Bool
is_taken key cache = is_committed key cache.lines || list_any (drafts_key key) cache.drafts

-- the chunks of the entry of this key
abbrev pub chunks_at : {C : Type 0} → ℕ → List (Line C) → List C
chunks_at key lines = option_map_or (λ line. line.chunks) (find (has_key key) lines) []

-- how many pins a worker has on an entry
abbrev pub pins_in : {C : Type 0} → ℕ → Line C → ℕ
pins_in worker line = count_by (λ pin. pin == worker) line.pins

-- how many pins a worker has on the entries of this key
abbrev pub pins_on : {C : Type 0} → ℕ → ℕ → List (Line C) → ℕ
pins_on worker key lines = sum_by (λ line. if has_key key line then pins_in worker line else 0) lines

-- Looking.

abbrev pub key_at : List Key → ℕ → Key
key_at keys place = slice_index_or keys place (record { 0 = 0 })

abbrev pub look_at : {C : Type 0} → List (Line C) → List Key → Option ℕ → Look
look_at lines keys None = Miss
look_at lines keys (Some place) = Hit place (key_at keys place) (length (chunks_at (key_at keys place).0 lines))

-- the first key of the list that is committed
abbrev pub look_reply : {C : Type 0} → CacheState C → List Key → Look
look_reply cache keys = look_at cache.lines keys (position (λ key. is_committed key.0 cache.lines) keys)

-- the entry used at this time, with a pin of the worker more
abbrev pub touched : {C : Type 0} → ℕ → ℕ → Line C → Line C
touched clock worker line = record line { used = clock; pins = line.pins ++ worker ∷ [] }

-- the entry of this key goes behind the others, touched
abbrev pub touch : {C : Type 0} → ℕ → ℕ → ℕ → List (Line C) → List (Line C)
touch clock worker key lines =
    remove_first (has_key key) lines ++ map (touched clock worker) (option_to_list (find (has_key key) lines))

abbrev pub after_look : {C : Type 0} → CacheState C → ℕ → Look → CacheState C
after_look cache worker (Hit place key chunks) =
    record cache { clock = cache.clock + 1; lines = touch (cache.clock + 1) worker key.0 cache.lines }
after_look cache worker Miss = cache

-- Pins.

-- the entry with one pin of the worker fewer
abbrev pub unpinned : {C : Type 0} → ℕ → Line C → Line C
unpinned worker line = record line { pins = remove_first (λ pin. pin == worker) line.pins }

abbrev pub after_unpin : {C : Type 0} → CacheState C → ℕ → ℕ → CacheState C
after_unpin cache worker key = record cache { lines = update_first (has_key key) (unpinned worker) cache.lines }

-- Reserving.

-- the unpinned entries leave by rising `used` until nothing of the excess is left
abbrev pub evict : {C : Type 0} → ℕ → List (Line C) → List (Line C)
evict excess [] = []
evict excess (line ∷ lines) = if is_pinned line || excess == 0 then line ∷ evict excess lines else evict (excess - line.size) lines

-- the entries that stay where so much more has to be held
abbrev pub staying : {C : Type 0} → CacheState C → ℕ → List (Line C)
staying cache size = evict (counted cache + size - cache.limit) cache.lines

abbrev pub room_reply : {C : Type 0} → CacheState C → ℕ → Reserve
room_reply cache size = Room (length cache.lines - length (staying cache size))

abbrev pub reserve_reply : {C : Type 0} → CacheState C → ℕ → ℕ → Reserve
reserve_reply cache key size =
    if is_taken key cache then Already else
    (if nat_lt cache.limit size then TooLarge else
    (if nat_lt cache.limit (pinned_sizes cache.lines + held cache.drafts + size) then Full else room_reply cache size))

abbrev pub new_draft : {C : Type 0} → ℕ → ℕ → ℕ → ℕ → Draft C
new_draft worker key size count = record { worker = worker; key = key; size = size; count = count; chunks = [] }

-- the entry's key is one of these
abbrev pub leaves : {C : Type 0} → List Key → Line C → Bool
leaves keys line = list_any (λ key. has_key key.0 line) keys

abbrev pub stays : {C : Type 0} → List Key → Line C → Bool
stays keys line = not (leaves keys line)

-- the cache after this answer
abbrev pub after_reserve : {C : Type 0} → CacheState C → ℕ → ℕ → ℕ → ℕ → Reserve → CacheState C
after_reserve cache worker key size count (Room evicted) =
    record cache { lines = staying cache size; drafts = cache.drafts ++ new_draft worker key size count ∷ [] }
after_reserve cache worker key size count Already = cache
after_reserve cache worker key size count TooLarge = cache
after_reserve cache worker key size count Full = cache

-- Filling.

abbrev pub with_chunk : {C : Type 0} → C → Draft C → Draft C
with_chunk chunk draft = record draft { chunks = draft.chunks ++ chunk ∷ [] }

abbrev pub after_put : {C : Type 0} → CacheState C → ℕ → ℕ → C → CacheState C
after_put cache worker key chunk =
    record cache { drafts = update_first (is_draft worker key) (with_chunk chunk) cache.drafts }

-- the entry that a draft becomes at this time
abbrev pub line_of_draft : {C : Type 0} → ℕ → Draft C → Line C
line_of_draft clock draft = record { key = draft.key; chunks = draft.chunks; size = draft.size; used = clock; pins = [] }

abbrev pub after_commit : {C : Type 0} → CacheState C → ℕ → ℕ → CacheState C
after_commit cache worker key =
    record cache {
      clock = cache.clock + 1;
      lines = cache.lines ++ map (line_of_draft (cache.clock + 1)) (option_to_list (find (is_draft worker key) cache.drafts));
      drafts = remove_first (is_draft worker key) cache.drafts;
    }

abbrev pub after_drop : {C : Type 0} → CacheState C → ℕ → ℕ → CacheState C
after_drop cache worker key = record cache { drafts = remove_first (is_draft worker key) cache.drafts }

-- Opening, and what is kept at the end.

-- the entry that this becomes, used at this time
abbrev pub opening_line : {C : Type 0} → (C → ℕ) → ℕ → Stored C → Line C
opening_line weight used stored =
    record {
      key = stored.key.0;
      chunks = stored.chunks;
      size = sum_by weight stored.chunks;
      used = used;
      pins = [];
    }

-- the entries used one after another, from this time on
abbrev pub opening_lines : {C : Type 0} → (C → ℕ) → ℕ → List (Stored C) → List (Line C)
opening_lines weight used [] = []
opening_lines weight used (stored ∷ rest) = opening_line weight used stored ∷ opening_lines weight (used + 1) rest

abbrev pub opened : {C : Type 0} → (C → ℕ) → ℕ → List (Stored C) → CacheState C
opened weight limit entries =
    let lines = opening_lines weight 1 entries in
    record {
      limit = limit;
      clock = length entries;
      lines = evict (sizes lines - limit) lines;
      drafts = [];
    }

abbrev pub stored_of : {C : Type 0} → Line C → Stored C
stored_of line = record { key = record { 0 = line.key }; chunks = line.chunks }

-- Conditions of the calls.

-- the keys of entries to open with differ, and together they weigh little enough
pub record CanOpen {C : Type 0} (weight : C → ℕ) (limit : ℕ) (entries : List (Stored C)) : Type 0 where
  pub limited : limit ≤ 2 ^ 62
  pub apart : (key : ℕ) → count_by (λ stored. stored.key.0 == key) entries ≤ 1
  pub small : sum_by (λ stored. sum_by weight stored.chunks) entries ≤ 2 ^ 62

-- the ticket stands
abbrev pub HasDraft : {C : Type 0} → CacheState C → ℕ → ℕ → Type 0
HasDraft cache worker key = list_any (is_draft worker key) cache.drafts ≡ true

-- a draft has room for this chunk
pub record HasRoom {C : Type 0} (weight : C → ℕ) (chunk : C) (draft : Draft C) : Type 0 where
  pub few : length draft.chunks < draft.count
  pub small : sum_by weight draft.chunks + weight chunk ≤ draft.size

-- a draft has all chunks that it reserved, and their weight
pub record IsWhole {C : Type 0} (weight : C → ℕ) (draft : Draft C) : Type 0 where
  pub full : length draft.chunks ≡ draft.count
  pub weighs : sum_by weight draft.chunks ≡ draft.size

abbrev pub CanPut : {C : Type 0} → (C → ℕ) → CacheState C → ℕ → ℕ → C → Type 0
CanPut weight cache worker key chunk = IsSomeAnd (find (is_draft worker key) cache.drafts) (HasRoom weight chunk)

abbrev pub CanCommit : {C : Type 0} → (C → ℕ) → CacheState C → ℕ → ℕ → Type 0
CanCommit weight cache worker key = IsSomeAnd (find (is_draft worker key) cache.drafts) (IsWhole weight)

-- What holds of each cache.

-- the numbers `used` rise, above the first bound and up to the second
abbrev pub Rises : {C : Type 0} → ℕ → List (Line C) → ℕ → Type 0
Rises low [] high = low ≤ high
Rises low (line ∷ lines) high = (low < line.used) × Rises line.used lines high

abbrev pub IsWeighed : {C : Type 0} → (C → ℕ) → Line C → Type 0
IsWeighed weight line = line.size ≡ sum_by weight line.chunks

pub record IsFitting {C : Type 0} (weight : C → ℕ) (draft : Draft C) : Type 0 where
  pub few : length draft.chunks ≤ draft.count
  pub small : sum_by weight draft.chunks ≤ draft.size

pub record IsSound {C : Type 0} (weight : C → ℕ) (cache : CacheState C) : Type 0 where
  pub limited : cache.limit ≤ 2 ^ 62
  pub within : counted cache ≤ cache.limit
  pub rising : Rises 0 cache.lines cache.clock
  pub apart : (key : ℕ) → count_by (has_key key) cache.lines + count_by (drafts_key key) cache.drafts ≤ 1
  pub weighed : All (IsWeighed weight) cache.lines
  pub fitting : All (IsFitting weight) cache.drafts

-- an entry as it counts where room is made
abbrev pub weighted : {C : Type 0} → Line C → Weighted
weighted line = record { key = record { 0 = line.key }; size = line.size; used = line.used; pins = length line.pins }
