use Rattle.osb_sources.proofs.Counts.{risen_gathers}
use Rattle.osb_sources.proofs.laws.counts_rise.Goals as goal

pub returns : goal.returns
returns c = record { law = λ items digests before now result gathered. risen_gathers gathered }
