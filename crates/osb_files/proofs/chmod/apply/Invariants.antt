use Rattle.std.proofs.Common.{◌≡◌, drop}
use Rattle.osb_stages.specs.Rules.{in_order}
use Rattle.osb_files.specs.Chmod.{with_mode}
use Rattle.osb_files.proofs.chmod.apply.Given as goal

abbrev pub invariant-loop-item : goal.invariant-loop-item
invariant-loop-item l = in_order with_mode (drop l.item-index l.item-items) l.tree ≡ in_order with_mode l.fn.options.items l.initial.tree
