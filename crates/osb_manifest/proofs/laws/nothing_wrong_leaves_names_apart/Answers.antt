use Rattle.osb_manifest.proofs.Distinct.{names_differ_where_right}
use Rattle.osb_manifest.proofs.laws.nothing_wrong_leaves_names_apart.Goals as goal

pub returns : goal.returns
returns c = record { law = names_differ_where_right }
