use Rattle.std.proofs.Common.{◌≡◌}
use Rattle.serde_json.specs.View.{members_view}
use Rattle.osb_shape.specs.Values.{all_members}
use Rattle.osb_shape.specs.Shapes.{is_text_or_object}
use Rattle.osb_shape.proofs.shapes.are_texts_or_objects.Given as goal

abbrev pub invariant-loop-member : goal.invariant-loop-member
invariant-loop-member l = all_members is_text_or_object (members_view l.member-iterator) ≡ all_members is_text_or_object (members_view l.members.entries)
