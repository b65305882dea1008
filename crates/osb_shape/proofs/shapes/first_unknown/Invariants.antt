use Rattle.std.proofs.Common.{◌≡◌, map}
use Rattle.serde_json.specs.View.{members_view}
use Rattle.osb_shape.specs.Shapes.{unknown_names}
use Rattle.osb_shape.specs.Tables.{row_of}
use Rattle.osb_shape.proofs.shapes.first_unknown.Given as goal

abbrev pub invariant-loop-name : goal.invariant-loop-name
invariant-loop-name l = unknown_names (map row_of l.rows) (members_view l.name-iterator) ≡ unknown_names (map row_of l.rows) (members_view l.members.entries)
