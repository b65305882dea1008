use Rattle.std.proofs.Common.{◌≡◌, ◌++◌}
use Rattle.serde_json.specs.View.{items_view, members_view}
use Rattle.osb_shape.specs.Values.{list_of}
use Rattle.osb_manifest.specs.Manifests.{made_inputs}
use Rattle.osb_manifest.proofs.making_inputs.named_inputs.Given as goal

abbrev pub invariant-loop-name : goal.invariant-loop-name
invariant-loop-name l =
    l.made.items ++ made_inputs (list_of (items_view l.pipelines)) (members_view l.name-iterator)
    ≡ made_inputs (list_of (items_view l.pipelines)) (members_view l.inputs.entries)
