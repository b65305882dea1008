use Rattle.std.proofs.Common.{◌≡◌, drop}
use Rattle.serde_json.specs.View.{items_view}
use Rattle.osb_shape.specs.Values.{is_object, all_items}
use Rattle.osb_shape.proofs.values.are_objects.Given as goal

abbrev pub invariant-loop-item : goal.invariant-loop-item
invariant-loop-item l = all_items is_object (items_view (drop l.item-index l.items)) ≡ all_items is_object (items_view l.items)
