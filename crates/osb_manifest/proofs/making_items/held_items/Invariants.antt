use Rattle.std.proofs.Common.{◌≡◌, ◌++◌}
use Rattle.serde_json.specs.View.{members_view}
use Rattle.osb_manifest.specs.Manifests.{made_inline}
use Rattle.osb_manifest.proofs.making_items.held_items.Given as goal

abbrev pub invariant-loop-key : goal.invariant-loop-key
invariant-loop-key l = l.held.items ++ made_inline (members_view l.key-iterator) ≡ made_inline (members_view l.items.entries)
