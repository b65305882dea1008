-- What later crates rest on: where lines rise by `used`, their queue is at hand, and a queue has one shortest front.
use Rattle.std.specs.Prelude.{◌≡◌, ℕ, ◌<◌, List, filter, AllPairs}
use Rattle.osb_tree.specs.declared.numbers.Key.{Key}
use Rattle.osb_evict.specs.declared.lines.Line.{Line}
use Rattle.osb_evict.specs.Victims.{is_unpinned, IsQueue, IsFront}

-- the queue of lines that rise by `used` is the unpinned ones as they stand
abbrev pub RisingLinesAreQueued : Type 0
RisingLinesAreQueued =
    (lines queue : List Line) → AllPairs (λ earlier later. earlier.used < later.used) lines → IsQueue lines queue → queue ≡ filter is_unpinned lines

-- lines have one answer
abbrev pub FrontIsOne : Type 0
FrontIsOne =
    (lines : List Line) (total limit : ℕ) (keys others : List Key) → IsFront lines total limit keys → IsFront lines total limit others → keys ≡ others
