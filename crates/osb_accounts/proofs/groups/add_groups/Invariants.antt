use Rattle.std.proofs.Common.{◌≡◌, drop}
use Rattle.osb_stages.specs.Rules.{in_order}
use Rattle.osb_accounts.specs.Groups.{with_group}
use Rattle.osb_accounts.proofs.groups.add_groups.Given as goal

abbrev pub invariant-loop-group : goal.invariant-loop-group
invariant-loop-group l = in_order with_group (drop l.group-index l.groups) l.lines ≡ in_order with_group l.groups l.fn.lines
