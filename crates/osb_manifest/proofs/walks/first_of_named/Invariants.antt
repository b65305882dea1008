use Rattle.std.proofs.Common.{◌≡◌}
use Rattle.std.specs.List.{flat_map}
use Rattle.serde_json.specs.View.{view, members_view}
use Rattle.osb_manifest.specs.Walks.{applies, by_name, source_objects}
use Rattle.osb_manifest.proofs.walks.first_of_named.Given as goal

abbrev pub invariant-loop-name : goal.invariant-loop-name
invariant-loop-name l =
    flat_map (applies (view l.whole) l.condition) (by_name source_objects (members_view l.name-iterator))
    ≡ flat_map (applies (view l.whole) l.condition) (by_name source_objects (members_view l.sources.entries))
