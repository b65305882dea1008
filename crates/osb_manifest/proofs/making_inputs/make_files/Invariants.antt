use Rattle.std.proofs.Common.{◌≡◌, ◌++◌}
use Rattle.serde_json.specs.View.{members_view}
use Rattle.osb_manifest.specs.Manifests.{made_files}
use Rattle.osb_manifest.proofs.making_inputs.make_files.Given as goal

abbrev pub invariant-loop-reference : goal.invariant-loop-reference
invariant-loop-reference l = l.files.items ++ made_files (members_view l.reference-iterator) ≡ made_files (members_view l.references.entries)
