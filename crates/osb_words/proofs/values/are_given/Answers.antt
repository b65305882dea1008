use Rattle.std.proofs.Common.{◌≡◌, ◌∙◌, ℕ, List, Bor, sym, rules, tests}
use Rattle.std.specs.List.{list_all}
use Rattle.std.proofs.lemmas.Iterator.{YieldsList-from_slice}
use Rattle.std.proofs.lemmas.Iterator.Search.{all_from_yields_List}
use Rattle.std.proofs.lemmas.List.Folds.{list_all-map}
use Rattle.osb_words.specs.Requests.{is_given}
use Rattle.osb_words.proofs.values.are_given.Goals as goal

pub returns : goal.returns
returns c =
    let all : c.all.result ≡ list_all (λ part. is_given part.now) c.args.parts.now =
    all_from_yields_List (λ (part : Bor (List ℕ)). is_given part.now) _ _ c.all.result c.all.ensures.ran (YieldsList-from_slice c.args.parts.now cc) (λ x b q k. search (rules, tests)) in
    all ∙ sym (list_all-map is_given (λ part. part.now) c.args.parts.now)
