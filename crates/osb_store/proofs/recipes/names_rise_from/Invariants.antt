use Rattle.std.proofs.Common.{◌≡◌, drop}
use Rattle.std.specs.Map.{keys_of}
use Rattle.osb_store.specs.Recipes.{rises_from}
use Rattle.osb_store.proofs.recipes.names_rise_from.Given as goal

abbrev pub invariant-loop-input : goal.invariant-loop-input
invariant-loop-input l = rises_from l.last (keys_of (drop l.input-index l.inputs)) ≡ rises_from l.first (keys_of l.inputs)
