use Rattle.std.proofs.Common.{◌≡◌, map, drop}
use Rattle.osb_shape.specs.Shapes.{is_known}
use Rattle.osb_shape.specs.Tables.{row_of}
use Rattle.osb_shape.proofs.shapes.is_known.Given as goal

abbrev pub invariant-loop-row : goal.invariant-loop-row
invariant-loop-row l = is_known (map row_of (drop l.row-index l.rows)) l.name ≡ is_known (map row_of l.rows) l.name
