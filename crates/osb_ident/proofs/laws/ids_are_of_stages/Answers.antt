use Rattle.osb_ident.proofs.Counts.{map-length-manifest_ids}
use Rattle.osb_ident.proofs.laws.ids_are_of_stages.Goals as goal

pub returns : goal.returns
returns c = record { law = map-length-manifest_ids }
