use Rattle.std.proofs.Common.{◌≡◌, map, drop}
use Rattle.serde_json.specs.View.{view}
use Rattle.osb_shape.specs.Shapes.{broken_names}
use Rattle.osb_shape.specs.Tables.{row_of}
use Rattle.osb_shape.proofs.shapes.first_broken.Given as goal

abbrev pub invariant-loop-row : goal.invariant-loop-row
invariant-loop-row l = broken_names (view l.value) (map row_of (drop l.row-index l.rows)) ≡ broken_names (view l.value) (map row_of l.rows)
