use Rattle.std.proofs.Common.{◌≡◌, drop}
use Rattle.serde_json.specs.View.{items_view, members_view}
use Rattle.osb_shape.specs.Numbers.{bad_items, bad_members}
use Rattle.osb_shape.proofs.numbers.+numbers.Given as goal

abbrev pub invariant-bad_item-loop-i : goal.invariant-bad_item-loop-i
invariant-bad_item-loop-i l = bad_items l.i (items_view (drop l.i l.items)) ≡ bad_items 0 (items_view l.items)

abbrev pub invariant-bad_member-loop-name : goal.invariant-bad_member-loop-name
invariant-bad_member-loop-name l = bad_members (members_view l.name-iterator) ≡ bad_members (members_view l.members.entries)
