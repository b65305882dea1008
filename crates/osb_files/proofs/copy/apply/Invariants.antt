use Rattle.std.proofs.Common.{◌≡◌, drop}
use Rattle.osb_stages.specs.Rules.{in_order}
use Rattle.osb_files.specs.Copy.{copy_item}
use Rattle.osb_files.proofs.copy.apply.Given as goal

abbrev pub invariant-loop-item : goal.invariant-loop-item
invariant-loop-item l = in_order (copy_item l.fn.inputs) (drop l.item-index l.item-items) l.tree ≡ in_order (copy_item l.fn.inputs) l.fn.options.paths l.initial.tree
