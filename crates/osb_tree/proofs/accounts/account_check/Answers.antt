use Rattle.std.proofs.Common.{◌==◌, List, ℕ, not, sym, rules, tests, ◌∙◌}
use Rattle.std.proofs.lemmas.Iterator.Adapters.{position_from-zero}
use Rattle.std.proofs.lemmas.Iterator.Search.{position_from_yields_List}
use Rattle.std.proofs.lemmas.Iterator.Splits.{YieldsList-from_slice_split}
use Rattle.osb_tree.specs.Accounts.{lines_of, is_account_line}
use Rattle.osb_tree.proofs.AccountLaws.{bad_line-placed}
use Rattle.osb_tree.proofs.accounts.account_check.Goals as goal

pub returns-in_err-place : goal.returns-in_err-place
returns-in_err-place c =
    let test = λ (line : List ℕ). not (is_account_line c.args.file line) in
    let place = position_from_yields_List test _ _ c.position.result c.position.ensures.ran (YieldsList-from_slice_split _ (λ b. b == 10) c.args.bytes.now c.split.ensures.rest c.split.ensures.done c.split.ensures.closure (λ x r q k. search (rules, tests))) (λ x r q k. search (rules, tests)) ∙ position_from-zero test (lines_of c.args.bytes.now) in
    record { bad_line = c.from_residual.ensures ∙ bad_line-placed c.args.file c.args.bytes.now _ (sym c.in_err-place.was ∙ place) }

pub returns : goal.returns
returns c =
    let test = λ (line : List ℕ). not (is_account_line c.args.file line) in
    let place = position_from_yields_List test _ _ c.position.result c.position.ensures.ran (YieldsList-from_slice_split _ (λ b. b == 10) c.args.bytes.now c.split.ensures.rest c.split.ensures.done c.split.ensures.closure (λ x r q k. search (rules, tests))) (λ x r q k. search (rules, tests)) ∙ position_from-zero test (lines_of c.args.bytes.now) in
    record { bad_line = bad_line-placed c.args.file c.args.bytes.now _ (sym c.in_ok-place.was ∙ place) }
