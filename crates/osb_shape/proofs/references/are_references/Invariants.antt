use Rattle.std.proofs.Common.{◌≡◌, drop}
use Rattle.serde_json.specs.View.{items_view}
use Rattle.osb_shape.specs.Values.{all_items}
use Rattle.osb_shape.specs.References.{is_reference}
use Rattle.osb_shape.proofs.references.are_references.Given as goal

abbrev pub invariant-loop-item : goal.invariant-loop-item
invariant-loop-item l = all_items is_reference (items_view (drop l.item-index l.items)) ≡ all_items is_reference (items_view l.items)
