use Rattle.osb_recipe.proofs.Chains.{last_key_law}
use Rattle.osb_recipe.proofs.laws.last_key_is_the_fold.Goals as goal

pub returns : goal.returns
returns c = record { law = last_key_law }
