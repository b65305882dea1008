use Rattle.std.proofs.Common.{◌≡◌, drop}
use Rattle.osb_recipe.specs.Tables.{last_from, last_of}
use Rattle.osb_tasks.proofs.runs.last_of.Given as goal

abbrev pub invariant-loop-key : goal.invariant-loop-key
invariant-loop-key l = last_from l.last (drop l.key-index l.chain) ≡ last_of l.chain
