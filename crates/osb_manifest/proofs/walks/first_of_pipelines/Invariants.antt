use Rattle.std.proofs.Common.{◌≡◌, drop}
use Rattle.std.specs.List.{flat_map}
use Rattle.serde_json.specs.View.{view, items_view}
use Rattle.osb_shape.specs.Values.{list_of}
use Rattle.osb_manifest.specs.Walks.{applies, in_order, pipeline_objects}
use Rattle.osb_manifest.proofs.walks.first_of_pipelines.Given as goal

abbrev pub invariant-loop-i : goal.invariant-loop-i
invariant-loop-i l =
    flat_map (applies (view l.whole) l.condition) (in_order pipeline_objects l.i (list_of (items_view (drop l.i l.pipelines))))
    ≡ flat_map (applies (view l.whole) l.condition) (in_order pipeline_objects 0 (list_of (items_view l.pipelines)))
