use Rattle.std.proofs.Common.{◌≡◌, true, length, is_le}
use Rattle.osb_tree.specs.Paths.{path_cmp}
use Rattle.osb_stages.specs.Rules.{in_order}
use Rattle.osb_files.specs.Copy.{copied, moved, left_beneath}
use Rattle.osb_files.proofs.Walks.{copied_left}
use Rattle.osb_files.proofs.copy.copy_beneath.Given as goal

abbrev pub invariant-loop-at : goal.invariant-loop-at
invariant-loop-at l = record {
  rest : copied_left l.source l.destination l.at l.from l.tree ≡ in_order copied (moved l.source l.destination l.from) l.initial.tree;
  behind : is_le (path_cmp l.source l.at) ≡ true;
}

abbrev pub decreases-loop-at : goal.decreases-loop-at
decreases-loop-at l = length (left_beneath l.source l.at l.from)
