use Rattle.std.proofs.Common.{◌≡◌}
use Rattle.serde_json.specs.View.{members_view}
use Rattle.osb_shape.specs.Values.{is_object, all_members}
use Rattle.osb_shape.proofs.values.are_all_objects.Given as goal

abbrev pub invariant-loop-member : goal.invariant-loop-member
invariant-loop-member l = all_members is_object (members_view l.member-iterator) ≡ all_members is_object (members_view l.members.entries)
