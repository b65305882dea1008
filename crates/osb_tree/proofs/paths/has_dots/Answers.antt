use Rattle.std.proofs.Common.{rules, tests, lit<, sym, ◌∙◌, ◌==◌}
use Rattle.std.specs.List.{slice_split}
use Rattle.std.proofs.lemmas.Iterator.Search.{any_from_yields_List}
use Rattle.std.proofs.lemmas.Iterator.Splits.{YieldsList-from_str_split}
use Rattle.osb_tree.specs.Paths.{is_dots}
use Rattle.osb_tree.proofs.PathLaws.{list_any-is_dots}
use Rattle.osb_tree.proofs.paths.has_dots.Goals as goal

pub returns : goal.returns
returns c =
    let pieces = slice_split (λ b. b == 47) c.args.text.now in
    any_from_yields_List is_dots _ _ _ c.any.ensures.ran (YieldsList-from_str_split 47 c.args.text.now (lit< tt) c.split.ensures.text c.split.ensures.has_more c.split.ensures.pattern) (λ x b q k. search (rules, tests)) ∙ sym (list_any-is_dots pieces)
