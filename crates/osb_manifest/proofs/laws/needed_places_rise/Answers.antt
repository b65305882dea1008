use Rattle.osb_manifest.proofs.NeededLaws.{rising}
use Rattle.osb_manifest.proofs.laws.needed_places_rise.Goals as goal

pub returns : goal.returns
returns c = record { law = rising }
