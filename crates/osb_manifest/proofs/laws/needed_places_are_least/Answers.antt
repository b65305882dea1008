use Rattle.osb_manifest.proofs.NeededLaws.{least}
use Rattle.osb_manifest.proofs.laws.needed_places_are_least.Goals as goal

pub returns : goal.returns
returns c = record { law = least }
