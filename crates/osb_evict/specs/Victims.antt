-- Which lines of a cache leave: the unpinned ones by rising `used`, cut to the shortest front that makes room.
use Rattle.std.specs.Prelude.{◌≡◌, ℕ, ◌+◌, ◌<◌, ◌≤◌, Bool, not, ◌==◌, List, map, filter, take, length, sum_by, count_by, AllPairs, IsPermutation}
use Rattle.osb_tree.specs.declared.numbers.Key.{Key}
use Rattle.osb_evict.specs.declared.lines.Line.{Line}
use Rattle.osb_evict.specs.declared.lines.Victims.{Victims}
use Rattle.osb_evict.specs.declared.lines.Victims.TheVariants.{Full, Take}

abbrev pub is_unpinned : Line → Bool
is_unpinned line = line.pins == 0

abbrev pub is_pinned : Line → Bool
is_pinned line = not (is_unpinned line)

abbrev pub sizes : List Line → ℕ
sizes lines = sum_by (λ line. line.size) lines

abbrev pub pinned_sizes : List Line → ℕ
pinned_sizes lines = sizes (filter is_pinned lines)

-- no two lines have the same `used`
abbrev pub AreApart : List Line → Type 0
AreApart lines = (used : ℕ) → count_by (λ line. line.used == used) lines ≤ 1

-- the unpinned lines by rising `used`
pub record IsQueue (lines queue : List Line) : Type 0 where
  pub unpinned : IsPermutation (filter is_unpinned lines) queue
  pub rising : AllPairs (λ earlier later. earlier.used < later.used) queue

-- so many lines are the shortest front of the queue without which the total is within the limit
pub record IsShortestFront (total limit : ℕ) (queue : List Line) (count : ℕ) : Type 0 where
  pub within : count ≤ length queue
  pub room : total ≤ limit + sizes (take count queue)
  pub shortest : (fewer : ℕ) → fewer < count → limit + sizes (take fewer queue) < total

-- the keys of the shortest front of the unpinned lines that makes room, where lines and the rest are this total
pub record IsFront (lines : List Line) (total limit : ℕ) (keys : List Key) : Type 0 where
  pub queue : List Line
  pub count : ℕ
  pub sorted : IsQueue lines queue
  pub front : IsShortestFront total limit queue count
  pub keys_of : keys ≡ map (λ line. line.key) (take count queue)

abbrev pub IsFull : Victims → Type 0
IsFull Full = Unit {0}
IsFull (Take keys) = ⊥

abbrev pub IfTaken : Victims → (List Key → Type 0) → Type 0
IfTaken Full P = Unit {0}
IfTaken (Take keys) P = P keys
