use Rattle.std.proofs.Common.{◌==◌, sym, ap, rules, tests, ◌∙◌}
use Rattle.std.specs.Option.{option_map}
use Rattle.std.proofs.lemmas.Iterator.Search.{find_from_yields_List}
use Rattle.std.proofs.lemmas.Iterator.Splits.{YieldsList-from_slice_split}
use Rattle.osb_tree.specs.Accounts.{is_line_of}
use Rattle.osb_tree.proofs.AccountLaws.{find-none, find-numbered}
use Rattle.osb_tree.proofs.accounts.account_find.Goals as goal

pub returns-in_err-line-clause-number : goal.returns-in_err-line-clause-number
returns-in_err-line-clause-number c =
    let found = find_from_yields_List (is_line_of c.args.name.now) _ _ c.find.result c.find.ensures.ran (YieldsList-from_slice_split _ (λ b. b == 10) c.args.bytes.now c.split.ensures.rest c.split.ensures.done c.split.ensures.closure (λ x r q k. search (rules, tests))) (λ x r q k. search (rules, tests)) in
    c.from_residual.ensures ∙ find-none c.args.name.now c.args.bytes.now (sym found ∙ ap (option_map (λ b. b.now)) c.in_err-line.was)

pub returns-clause-number : goal.returns-clause-number
returns-clause-number c =
    let found = find_from_yields_List (is_line_of c.args.name.now) _ _ c.find.result c.find.ensures.ran (YieldsList-from_slice_split _ (λ b. b == 10) c.args.bytes.now c.split.ensures.rest c.split.ensures.done c.split.ensures.closure (λ x r q k. search (rules, tests))) (λ x r q k. search (rules, tests)) in
    let is = find-numbered c.args.file c.args.name.now c.args.bytes.now c.in_ok-line.line.now c.requires.numbered c.requires.checked (sym found ∙ ap (option_map (λ b. b.now)) c.in_ok-line.was) in
    rw c.field_at.ensures at c.account_number.ensures.number ∙ is
