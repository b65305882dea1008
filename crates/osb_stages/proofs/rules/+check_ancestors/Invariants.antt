use Rattle.std.proofs.Common.{length}
use Rattle.osb_stages.proofs.rules.+check_ancestors.Given as goal

abbrev pub decreases-check_ancestors : goal.decreases-check_ancestors
decreases-check_ancestors l = length l.path.now
