use Rattle.std.proofs.Common.{◌∙◌, rules, tests}
use Rattle.std.proofs.lemmas.Iterator.{YieldsList-from_slice}
use Rattle.std.proofs.lemmas.Iterator.Adapters.{position_from-zero}
use Rattle.std.proofs.lemmas.Iterator.Search.{position_from_yields_List}
use Rattle.osb_accounts.specs.Lines.{is_line_of}
use Rattle.osb_accounts.proofs.Places.{position-place_of}
use Rattle.osb_accounts.proofs.lines.Lines.place_of.Goals as goal

pub returns-clause-place : goal.returns-clause-place
returns-clause-place c =
    let test = is_line_of c.args.name.now in
    position_from_yields_List test _ _ c.position.result c.position.ensures.ran (YieldsList-from_slice c.args.self.now cc) (λ x r q k. search (rules, tests))
    ∙ (position_from-zero test c.args.self.now ∙ position-place_of c.args.name.now c.args.self.now)
