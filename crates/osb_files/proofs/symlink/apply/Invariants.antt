use Rattle.std.proofs.Common.{◌≡◌, drop}
use Rattle.osb_stages.specs.Rules.{in_order}
use Rattle.osb_files.specs.Symlink.{with_link}
use Rattle.osb_files.proofs.symlink.apply.Given as goal

abbrev pub invariant-loop-item : goal.invariant-loop-item
invariant-loop-item l = in_order with_link (drop l.item-index l.item-items) l.tree ≡ in_order with_link l.fn.options.paths l.initial.tree
