use Rattle.std.proofs.Common.{◌≡◌, drop}
use Rattle.std.specs.List.{flat_map}
use Rattle.serde_json.specs.View.{view, items_view}
use Rattle.osb_shape.specs.Values.{list_of}
use Rattle.osb_manifest.specs.Walks.{applies, in_order, stage_objects}
use Rattle.osb_manifest.proofs.walks.first_of_stages.Given as goal

abbrev pub invariant-loop-j : goal.invariant-loop-j
invariant-loop-j l =
    flat_map (applies (view l.whole) l.condition) (in_order (stage_objects l.i) l.j (list_of (items_view (drop l.j l.stages))))
    ≡ flat_map (applies (view l.whole) l.condition) (in_order (stage_objects l.i) 0 (list_of (items_view l.stages)))
