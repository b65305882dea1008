use Rattle.std.proofs.Common.{◌≡◌, drop}
use Rattle.osb_stages.specs.Rules.{in_order}
use Rattle.osb_files.specs.Chown.{with_owners}
use Rattle.osb_files.proofs.Accounts.{IsAlike}
use Rattle.osb_files.proofs.chown.apply.Given as goal

abbrev pub invariant-loop-item : goal.invariant-loop-item
invariant-loop-item l =
    IsAlike l.tree l.initial.tree × (in_order (with_owners l.initial.tree) (drop l.item-index l.item-items) l.tree ≡ in_order (with_owners l.initial.tree) l.fn.options.items l.initial.tree)
