use Rattle.osb_recipe.proofs.Chains.{meanings_stay_law}
use Rattle.osb_recipe.proofs.laws.meanings_stay.Goals as goal

pub returns : goal.returns
returns c = record { law = meanings_stay_law }
