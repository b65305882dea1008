use Rattle.std.proofs.Common.{◌≡◌}
use Rattle.serde_json.specs.View.{members_view}
use Rattle.osb_manifest.specs.Walks.{are_digests}
use Rattle.osb_manifest.proofs.conditions.are_digests.Given as goal

abbrev pub invariant-loop-name : goal.invariant-loop-name
invariant-loop-name l = are_digests (members_view l.name-iterator) ≡ are_digests (members_view l.members.entries)
