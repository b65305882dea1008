use Rattle.osb_manifest.proofs.NeededLaws.{closed}
use Rattle.osb_manifest.proofs.laws.needed_places_are_closed.Goals as goal

pub returns : goal.returns
returns c = record { law = closed }
