use Rattle.std.proofs.Common.{◌≡◌, drop}
use Rattle.osb_stages.specs.Rules.{in_order}
use Rattle.osb_accounts.specs.Users.{with_membership}
use Rattle.osb_accounts.proofs.memberships.join_groups.Given as goal

abbrev pub invariant-loop-group : goal.invariant-loop-group
invariant-loop-group l = in_order (with_membership l.name) (drop l.group-index l.groups) l.lines ≡ in_order (with_membership l.name) l.groups l.fn.lines
