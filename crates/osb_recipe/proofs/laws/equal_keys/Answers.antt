use Rattle.osb_recipe.proofs.Keys.{equal_keys_law}
use Rattle.osb_recipe.proofs.laws.equal_keys.Goals as goal

pub returns : goal.returns
returns c = record { law = equal_keys_law }
