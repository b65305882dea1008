use Rattle.std.proofs.Common.{◌==◌, length, ap, sym, ◌∙◌, rules, tests}
use Rattle.std.proofs.lemmas.Iterator.{YieldsList-from_slice}
use Rattle.std.proofs.lemmas.Iterator.Search.{all_from_yields_List}
use Rattle.osb_tree.specs.Trees.{Listing}
use Rattle.osb_tree.proofs.ChunkReadings.{is_cut-from_parts}
use Rattle.osb_tree.proofs.readings.is_cut.Goals as goal

pub returns-then-not-is_empty : goal.returns-then-not-is_empty
returns-then-not-is_empty c =
    let full = all_from_yields_List (λ (chunk : Listing). length chunk == 256) _ _ c.all.result c.all.ensures.ran (YieldsList-from_slice c.in-Some.full.now cc) (λ x b q k. search (rules, tests)) in
    is_cut-from_parts c.args.chunks.now c.in-Some.full.now c.in-Some.last.now c.all.result c.in-Some.ensures.cases.0
    (ap (λ (chunk : Listing). length chunk == 0) (sym c.get.ensures.value) ∙ sym c.if-not-is_empty.ensures.empty) full
