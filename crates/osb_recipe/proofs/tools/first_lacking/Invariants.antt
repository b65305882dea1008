use Rattle.std.proofs.Common.{◌≡◌, drop}
use Rattle.osb_recipe.specs.Tools.{first_lacking}
use Rattle.osb_recipe.proofs.tools.first_lacking.Given as goal

abbrev pub invariant-loop-tool : goal.invariant-loop-tool
invariant-loop-tool l = first_lacking l.build (drop l.tool-index l.tools) ≡ first_lacking l.build l.tools
