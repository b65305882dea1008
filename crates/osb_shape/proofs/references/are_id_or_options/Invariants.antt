use Rattle.std.proofs.Common.{◌≡◌}
use Rattle.serde_json.specs.View.{members_view}
use Rattle.osb_shape.specs.References.{has_id_alone}
use Rattle.osb_shape.proofs.references.are_id_or_options.Given as goal

abbrev pub invariant-loop-name : goal.invariant-loop-name
invariant-loop-name l = has_id_alone (members_view l.name-iterator) ≡ has_id_alone (members_view l.members.entries)
