use Rattle.std.proofs.Common.{◌≡◌, drop}
use Rattle.osb_recipe.specs.FilesTrees.{with_items, files_tree, blobs_at}
use Rattle.osb_recipe.proofs.FilesTrees.{HoldsFiles}
use Rattle.osb_recipe.proofs.files_trees.files_tree.Given as goal

abbrev pub invariant-loop-number : goal.invariant-loop-number
invariant-loop-number l = record {
  holds : HoldsFiles l.tree;
  made : with_items (blobs_at l.blobs (drop l.number-index l.numbers)) l.tree ≡ files_tree (blobs_at l.blobs l.numbers);
}
