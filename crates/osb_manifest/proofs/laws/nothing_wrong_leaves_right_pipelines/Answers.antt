use Rattle.osb_manifest.proofs.Rightness.{right}
use Rattle.osb_manifest.proofs.laws.nothing_wrong_leaves_right_pipelines.Goals as goal

pub returns : goal.returns
returns c = record { law = right }
