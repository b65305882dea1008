use Rattle.std.proofs.Common.{◌==◌, refl, ap, ◌∙◌, rules, tests}
use Rattle.std.proofs.lemmas.Iterator.Consumers.{nth_from_yields_List}
use Rattle.std.proofs.lemmas.Iterator.Splits.{YieldsList-from_slice_split}
use Rattle.osb_tree.proofs.AccountLaws.{now_or}
use Rattle.osb_tree.proofs.accounts.field_at.Goals as goal

pub returns : goal.returns
returns c =
    let found = nth_from_yields_List c.nth.result _ c.args.place c.nth.ensures.ran (YieldsList-from_slice_split _ (λ b. b == 58) c.args.line.now c.split.ensures.rest c.split.ensures.done c.split.ensures.closure (λ x r q k. search (rules, tests))) in
    ap (λ b. b.now) c.unwrap_or.ensures ∙ now_or c.nth.result _ _ refl found
