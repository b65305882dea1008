use Rattle.std.proofs.Common.{◌≡◌, ◌++◌, drop, length, map}
use Rattle.std.specs.List.{AllByRecursion, filter_map}
use Rattle.serde_json.specs.View.{items_view}
use Rattle.osb_shape.specs.Values.{list_of}
use Rattle.osb_manifest.specs.Right.{IsRightPipeline, stage_counts}
use Rattle.osb_manifest.specs.Named.{named}
use Rattle.osb_manifest.specs.Manifests.{made_pipeline}
use Rattle.osb_manifest.proofs.making.make_pipelines.Given as goal

abbrev pub invariant-loop-value : goal.invariant-loop-value
invariant-loop-value l = record {
  made : map named l.pipelines.items ++ filter_map (made_pipeline (list_of (items_view l.values))) (list_of (items_view (drop l.value-index l.values))) ≡ filter_map (made_pipeline (list_of (items_view l.values))) (list_of (items_view l.values));
  kept : map (λ p. length p.1.stages) l.pipelines.items ++ stage_counts (list_of (items_view (drop l.value-index l.values))) ≡ stage_counts (list_of (items_view l.values));
  right : AllByRecursion IsRightPipeline (list_of (items_view (drop l.value-index l.values)));
}
