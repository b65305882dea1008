use Rattle.std.proofs.Common.{◌≡◌, ◌+◌, ◌-◌, [], length}
use Rattle.osb_store.specs.Lists.{items_at, is_blob}
use Rattle.osb_store.specs.Reading.{field_at}
use Rattle.osb_store.proofs.lists.read_blobs.Given as goal

abbrev pub invariant-loop-i : goal.invariant-loop-i
invariant-loop-i l = (length l.blobs ≡ l.i) × (items_at field_at is_blob (l.count - l.i) (1 + l.i) l.blobs l.rest ≡ items_at field_at is_blob l.count 1 [] l.bytes)
