use Rattle.std.proofs.Common.{Some, ap, sym, ◌∙◌, refl}
use Rattle.std.specs.Str.{is_utf8}
use Rattle.std.proofs.lemmas.Bool.{false_from_ne_true}
use Rattle.std.proofs.lemmas.Str.{IsUtf8-from_is_utf8, is_utf8-from_IsUtf8}
use Rattle.osb_store.proofs.nodes.target_of.Goals as goal

pub returns-in_ok-new-in-Ok : goal.returns-in_ok-new-in-Ok
returns-in_ok-new-in-Ok c =
    let is = is_utf8-from_IsUtf8 c.args.content.now c.in-Ok.ensures.cases.1 in
    rw is (ap Some (sym (c.in_ok-new-in-Ok.ensures.content ∙ c.in-Ok.ensures.cases.0)))

pub returns-in-Err : goal.returns-in-Err
returns-in-Err c =
    let none = false_from_ne_true (is_utf8 c.args.content.now) (λ is. c.in-Err.ensures.cases.0 (IsUtf8-from_is_utf8 c.args.content.now is)) in
    rw none refl
