use Rattle.std.proofs.Common.{◌≡◌, ◌+◌, not, sym, ap, ◌∙◌, rules, tests}
use Rattle.std.specs.Option.{option_map}
use Rattle.std.specs.List.{position_from}
use Rattle.std.proofs.lemmas.Iterator.{YieldsList-from_slice}
use Rattle.std.proofs.lemmas.Iterator.Adapters.{position_from-zero}
use Rattle.std.proofs.lemmas.Iterator.Search.{position_from_yields_List}
use Rattle.osb_accounts.proofs.Free.{least_free-seen}
use Rattle.osb_accounts.proofs.numbers.least_free.Goals as goal

pub returns-in-Some : goal.returns-in-Some
returns-in-Some c =
    let seen = c.in_ok-seen.seen.items in
    let found : c.position.result ≡ position_from not 0 seen = position_from_yields_List not _ _ c.position.result c.position.ensures.ran (YieldsList-from_slice seen cc) (λ x r q k. search (rules, tests)) ∙ position_from-zero not seen in
    let least = least_free-seen c.args.lines.now seen c.in_ok-seen.ensures.count c.in_ok-seen.ensures.taken in
    rw c.new.ensures.number (sym (least ∙ ap (option_map (λ place. 1000 + place)) (sym found ∙ c.in-Some.is)))

pub returns : goal.returns
returns c =
    let seen = c.in_ok-seen.seen.items in
    let found : c.position.result ≡ position_from not 0 seen = position_from_yields_List not _ _ c.position.result c.position.ensures.ran (YieldsList-from_slice seen cc) (λ x r q k. search (rules, tests)) ∙ position_from-zero not seen in
    let least = least_free-seen c.args.lines.now seen c.in_ok-seen.ensures.count c.in_ok-seen.ensures.taken in
    sym (least ∙ ap (option_map (λ place. 1000 + place)) (sym found ∙ c.in-None.is))
