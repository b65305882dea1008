use Rattle.std.proofs.Common.{◌≡◌, length, rules, tests, ap, ◌∙◌, arith}
use Rattle.std.proofs.lemmas.Iterator.{YieldsList-from_slice}
use Rattle.std.proofs.lemmas.Iterator.Search.{position_from_yields_List}
use Rattle.osb_plain.proofs.Scans.{is_from, place-found}
use Rattle.osb_plain.proofs.trees.PlainTree.place.Goals as goal

pub returns : goal.returns
returns c =
    let found = position_from_yields_List (is_from c.args.path.now) _ _ c.position.result c.position.ensures.ran (YieldsList-from_slice c.args.self.now cc) (λ x b q k. search (rules, tests)) in
    let all : c.len.result ≡ length c.args.self.now = omega (arith, c.len.ensures, ap length c.self.view_is, ap length c.deref.ensures.value, c.deref.ensures.len) in
    c.unwrap_or.ensures ∙ rw (found, all) (place-found c.args.self.now c.args.path.now)
