use Rattle.std.proofs.Common.{◌≡◌, drop}
use Rattle.serde_json.specs.Data.{no_members}
use Rattle.serde_json.specs.View.{items_view, members_view}
use Rattle.osb_shape.specs.References.{with_references}
use Rattle.osb_shape.proofs.references.listed_references.Given as goal

abbrev pub invariant-loop-item : goal.invariant-loop-item
invariant-loop-item l = with_references (members_view l.references.entries) (items_view (drop l.item-index l.items)) ≡ with_references no_members (items_view l.items)
