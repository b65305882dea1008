use Rattle.std.proofs.Common.{◌≡◌, drop}
use Rattle.std.specs.Bool.{◌==◌}
use Rattle.std.specs.Cmp.Lexicographic.{pointwise}
use Rattle.std.specs.List.{filter_map, list_any}
use Rattle.serde_json.specs.View.{items_view}
use Rattle.osb_shape.specs.Values.{list_of}
use Rattle.osb_manifest.specs.Walks.{name_of}
use Rattle.osb_manifest.proofs.conditions.has_name.Given as goal

abbrev pub invariant-loop-pipeline : goal.invariant-loop-pipeline
invariant-loop-pipeline l =
    list_any (pointwise ◌==◌ l.name) (filter_map name_of (list_of (items_view (drop l.pipeline-index l.pipelines)))) ≡ list_any (pointwise ◌==◌ l.name) (filter_map name_of (list_of (items_view l.pipelines)))
