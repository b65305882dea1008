use Rattle.std.proofs.Common.{length}
use Rattle.osb_stages.proofs.rules.+make_ancestors.Given as goal

abbrev pub decreases-make_ancestors : goal.decreases-make_ancestors
decreases-make_ancestors l = length l.path.now
