use Rattle.std.proofs.Common.{◌-◌, length, sym, ◌∙◌, ap, arith}
use Rattle.std.specs.Option.{option_map}
use Rattle.std.proofs.lemmas.List.{length-map, take_all}
use Rattle.std.proofs.lemmas.Option.{slice_get-map}
use Rattle.osb_accounts.proofs.Parts.{ended-without, ended-with}
use Rattle.osb_accounts.proofs.lines.line_count.Goals as goal

pub returns-in-Some-clause-lines : goal.returns-in-Some-clause-lines
returns-in-Some-clause-lines c =
    let same = length-map c.args.texts.now (λ text. text.now) in
    let found = ap (option_map (λ text. text.now)) (sym c.in-Some.ensures.value) in
    let at_end = slice_get-map (λ text. text.now) c.args.texts.now (length c.args.texts.now - 1) ∙ found in
    rw (← same) (ended-without _ _ (rw same at_end) (sym c.if-is_empty.ensures))

pub returns-in_default-clause-lines : goal.returns-in_default-clause-lines
returns-in_default-clause-lines c =
    let same = length-map c.args.texts.now (λ text. text.now) in
    let found = ap (option_map (λ text. text.now)) (sym c.in-Some.ensures.value) in
    let at_end = slice_get-map (λ text. text.now) c.args.texts.now (length c.args.texts.now - 1) ∙ found in
    take_all (length c.args.texts.now) _ (omega (arith, same)) ∙ ended-with _ _ (rw same at_end) (sym c.if-is_empty.ensures)
