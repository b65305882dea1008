use Rattle.std.proofs.Common.{◌≡◌, drop}
use Rattle.std.specs.List.{flat_map}
use Rattle.serde_json.specs.View.{view}
use Rattle.osb_manifest.specs.Walks.{everywhere}
use Rattle.osb_manifest.proofs.walks.first_of_conditions.Given as goal

abbrev pub invariant-loop-condition : goal.invariant-loop-condition
invariant-loop-condition l =
    flat_map (everywhere (view l.whole)) (drop l.condition-index l.conditions) ≡ flat_map (everywhere (view l.whole)) l.conditions
