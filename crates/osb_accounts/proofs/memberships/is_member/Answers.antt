use Rattle.std.proofs.Common.{◌==◌, List, ℕ, rules, tests}
use Rattle.std.specs.Cmp.Lexicographic.{pointwise}
use Rattle.std.proofs.lemmas.Iterator.Search.{any_from_yields_List}
use Rattle.std.proofs.lemmas.Iterator.Splits.{YieldsList-from_slice_split}
use Rattle.osb_accounts.proofs.memberships.is_member.Goals as goal

pub returns : goal.returns
returns c =
    any_from_yields_List (λ (member : List ℕ). pointwise ◌==◌ member c.args.name.now) _ _ _ c.any.ensures.ran (YieldsList-from_slice_split _ (λ b. b == 44) c.args.members.now c.split.ensures.rest c.split.ensures.done c.split.ensures.closure (λ x r q k. search (rules, tests))) (λ x b q k. search (rules, tests))
