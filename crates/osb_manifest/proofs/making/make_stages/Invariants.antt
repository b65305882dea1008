use Rattle.std.proofs.Common.{◌≡◌, ◌++◌, drop, length}
use Rattle.std.specs.List.{AllByRecursion, filter_map}
use Rattle.serde_json.specs.View.{items_view}
use Rattle.osb_shape.specs.Values.{list_of}
use Rattle.osb_manifest.specs.Right.{IsRightStage}
use Rattle.osb_manifest.specs.Manifests.{made_stage}
use Rattle.osb_manifest.proofs.making.make_stages.Given as goal

abbrev pub invariant-loop-value : goal.invariant-loop-value
invariant-loop-value l = record {
  made : l.stages.items ++ filter_map (made_stage (list_of (items_view l.pipelines))) (list_of (items_view (drop l.value-index l.values))) ≡ filter_map (made_stage (list_of (items_view l.pipelines))) (list_of (items_view l.values));
  kept : length l.stages.items ≡ l.value-index;
  right : AllByRecursion IsRightStage (list_of (items_view (drop l.value-index l.values)));
}
