use Rattle.std.proofs.Common.{◌≡◌, Some, refl, ap, sym}
use Rattle.std.specs.Str.{is_utf8}
use Rattle.std.proofs.lemmas.Bool.{false_from_ne_true}
use Rattle.std.proofs.lemmas.Str.{IsUtf8-from_is_utf8, is_utf8-from_IsUtf8}
use Rattle.osb_store.specs.Reading.{field_at}
use Rattle.osb_store.proofs.fields.text_of.Goals as goal

pub returns-in-Ok : goal.returns-in-Ok
returns-in-Ok c =
    let is = is_utf8-from_IsUtf8 c.in_ok-field.field.now c.in-Ok.ensures.cases.1 in
    let e : field_at c.args.bytes.now ≡ Some (c.in_ok-field.field.now, c.in_ok-field.rest.now) = c.in_ok-field.ensures in
    rw e (rw is (ap (λ t. Some (t, c.in_ok-field.rest.now)) (sym c.in-Ok.ensures.cases.0)))

pub returns-in-Err : goal.returns-in-Err
returns-in-Err c =
    let none = false_from_ne_true (is_utf8 c.in_ok-field.field.now) (λ is. c.in-Err.ensures.cases.0 (IsUtf8-from_is_utf8 c.in_ok-field.field.now is)) in
    let e : field_at c.args.bytes.now ≡ Some (c.in_ok-field.field.now, c.in_ok-field.rest.now) = c.in_ok-field.ensures in
    rw e (rw none refl)
