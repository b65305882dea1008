use Rattle.std.proofs.Common.{◌≡◌}
use Rattle.std.specs.Map.{keys_of}
use Rattle.osb_tree.specs.Paths.{is_beneath}
use Rattle.osb_tree.specs.Trees.{IsTree}
use Rattle.osb_files.specs.Attributes.{with_attributes_at}
use Rattle.osb_files.proofs.Giving.{is_to_come, IsFrom, paths_after}
use Rattle.osb_files.proofs.attributes.give_beneath.Given as goal

abbrev pub invariant-loop-after : goal.invariant-loop-after
invariant-loop-after l =
    IsTree l.tree × IsFrom l.path l.after × (with_attributes_at (is_to_come l.path l.after) l.given l.tree ≡ with_attributes_at (is_beneath l.path) l.given l.initial.tree)

abbrev pub decreases-loop-after : goal.decreases-loop-after
decreases-loop-after l = paths_after l.after (keys_of l.tree)
