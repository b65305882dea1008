use Rattle.std.proofs.Common.{◌≡◌, ◌+◌, ◌-◌, ◌*◌, length, [], map}
use Rattle.serde_json.specs.Data.{no_members}
use Rattle.serde_json.specs.View.{view, members_view}
use Rattle.osb_pyread.specs.Nests.{items_at, members_at, value_at}
use Rattle.osb_pyread.proofs.values.+reading.Given as goal

-- each level of nesting takes three calls
abbrev pub decreases-read_value : goal.decreases-read_value
decreases-read_value l = 3 * l.depth

abbrev pub decreases-read_member : goal.decreases-read_member
decreases-read_member l = 3 * l.depth + 1

abbrev pub decreases-read_items : goal.decreases-read_items
decreases-read_items l = 3 * l.depth + 2

abbrev pub decreases-read_members : goal.decreases-read_members
decreases-read_members l = 3 * l.depth + 2

abbrev pub invariant-read_items-loop : goal.invariant-read_items-loop
invariant-read_items-loop l =
    items_at (value_at l.depth) (length l.bytes - l.counter) (map view l.items.items) l.rest ≡ items_at (value_at l.depth) (length l.bytes) [] l.bytes

abbrev pub invariant-read_members-loop : goal.invariant-read_members-loop
invariant-read_members-loop l =
    members_at (value_at l.depth) (length l.bytes - l.counter) (members_view l.members.entries) l.rest ≡ members_at (value_at l.depth) (length l.bytes) no_members l.bytes
