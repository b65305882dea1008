use Rattle.osb_manifest.proofs.NeededLaws.{holds_exports}
use Rattle.osb_manifest.proofs.laws.needed_places_hold_exports.Goals as goal

pub returns : goal.returns
returns c = record { law = holds_exports }
