use Rattle.std.proofs.Common.{◌≡◌, ◌++◌}
use Rattle.serde_json.specs.View.{members_view}
use Rattle.osb_manifest.specs.Manifests.{made_curl}
use Rattle.osb_manifest.proofs.making_items.listed_digests.Given as goal

abbrev pub invariant-loop-key : goal.invariant-loop-key
invariant-loop-key l = l.digests.items ++ made_curl (members_view l.key-iterator) ≡ made_curl (members_view l.items.entries)
