-- What the code's tables of members stand for.
use Rattle.osb_shape.specs.Shapes.{Row}
use Rattle.osb_shape.specs.declared.shapes.Row.{Row as TableRow}

abbrev pub row_of : TableRow → Row
row_of row = record { name = row.name.now; form = row.form; is_required = row.is_required }
