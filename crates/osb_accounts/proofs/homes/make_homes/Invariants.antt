use Rattle.std.proofs.Common.{◌≡◌, drop}
use Rattle.osb_stages.specs.Rules.{in_order}
use Rattle.osb_accounts.specs.Homes.{with_home}
use Rattle.osb_accounts.proofs.homes.make_homes.Given as goal

abbrev pub invariant-loop-user : goal.invariant-loop-user
invariant-loop-user l = in_order (with_home l.kept l.lines) (drop l.user-index l.users) l.tree ≡ in_order (with_home l.kept l.lines) l.users l.fn.tree
