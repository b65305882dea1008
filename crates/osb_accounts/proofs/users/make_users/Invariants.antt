use Rattle.std.proofs.Common.{◌≡◌, drop}
use Rattle.osb_stages.specs.Rules.{in_order}
use Rattle.osb_accounts.specs.Users.{with_user}
use Rattle.osb_accounts.proofs.users.make_users.Given as goal

abbrev pub invariant-loop-user : goal.invariant-loop-user
invariant-loop-user l = in_order with_user (drop l.user-index l.users) l.files ≡ in_order with_user l.users l.fn.files
