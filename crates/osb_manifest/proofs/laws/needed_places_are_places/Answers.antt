use Rattle.osb_manifest.proofs.NeededLaws.{are_places}
use Rattle.osb_manifest.proofs.laws.needed_places_are_places.Goals as goal

pub returns : goal.returns
returns c = record { law = are_places }
