use Rattle.std.proofs.Common.{◌≡◌, drop}
use Rattle.std.specs.List.{position_from}
use Rattle.serde_json.specs.View.{items_view}
use Rattle.osb_shape.specs.Values.{is_text, list_of}
use Rattle.osb_manifest.specs.Walks.{name_of}
use Rattle.osb_manifest.specs.Manifests.{place_named}
use Rattle.osb_manifest.proofs.making_inputs.place_named.Given as goal

abbrev pub invariant-loop-place : goal.invariant-loop-place
invariant-loop-place l =
    position_from (λ pipeline. is_text l.name (name_of pipeline)) l.place (list_of (items_view (drop l.place l.pipelines)))
    ≡ place_named (list_of (items_view l.pipelines)) l.name
