use Rattle.std.proofs.Common.{◌<◌, length, get_or, ap, sym, subst}
use Rattle.std.proofs.lemmas.List.Elements.{All-get_or}
use Rattle.osb_recipe.specs.FilesTrees.{files_tree, with_items, blobs_at}
use Rattle.osb_recipe.proofs.FilesTrees.{HoldsFiles, empty_holds_files, still_holds_files, turn_on, turn_stop}
use Rattle.osb_recipe.proofs.files_trees.files_tree.Goals as goal

pub loop-number-init : goal.loop-number-init
unfolding files_tree
loop-number-init c = record {
  holds = subst HoldsFiles (sym c.in_ok-tree.ensures.tree) empty_holds_files;
  made = ap (with_items (blobs_at c.args.blobs.now c.args.numbers.now)) c.in_ok-tree.ensures.tree;
}

pub returns-in-Err : goal.returns-in-Err
returns-in-Err c = record {
  tree = λ n.
      let i = c.loop-number.number-index in
      let within : i < length c.args.numbers.now = c.loop-number-test.true in
      let there : get_or c.args.numbers.now i 0 < length c.args.blobs.now = All-get_or (λ k. k < length c.args.blobs.now) c.args.numbers.now i 0 within c.requires.numbers in
      turn_stop c.args.blobs.now c.args.numbers.now i c.index-blobs-number.result c.as_slice-bytes.result.now c.loop-number.tree c.in-Err.fault _ within there
      c.index-blobs-number.is c.as_slice-bytes.ensures.content (c.in-Err.ensures.fault (λ e. n (cc))) c.loop-number.invariant.made;
}

pub loop-number-preserved : goal.loop-number-preserved
loop-number-preserved c =
    let i = c.loop-number.number-index in
    let within : i < length c.args.numbers.now = c.loop-number-test.true in
    let there : get_or c.args.numbers.now i 0 < length c.args.blobs.now = All-get_or (λ k. k < length c.args.blobs.now) c.args.numbers.now i 0 within c.requires.numbers in
    record {
      holds = still_holds_files c.as_slice-bytes.result.now c.loop-number.tree c.put_item.new.tree c.loop-number.invariant.holds c.in-Ok.ensures.ok;
      made = turn_on c.args.blobs.now c.args.numbers.now i c.index-blobs-number.result c.as_slice-bytes.result.now c.loop-number.tree c.put_item.new.tree _ within there
          c.index-blobs-number.is c.as_slice-bytes.ensures.content c.in-Ok.ensures.ok c.loop-number.invariant.made;
    }
