use Rattle.std.proofs.Common.{◌≡◌, true≢false, sym, ◌∙◌}
use Rattle.serde_json.specs.View.{view}
use Rattle.osb_pyread.proofs.Whole.{not_broken, is_read, no_deeper}
use Rattle.osb_pyread.proofs.values.py_value.Goals as goal

pub returns-in-Err-Broken-clause-none : goal.returns-in-Err-Broken-clause-none
returns-in-Err-Broken-clause-none c same value within e =
    let h = rw c.as_bytes.ensures.value at c.in-Err-Broken.ensures in
    not_broken 127 c.args.text.now value e within c.in-Err-Broken.field-0 c.in-Err-Broken.field-0-is h

pub returns-then-branch-clause-some : goal.returns-then-branch-clause-some
returns-then-branch-clause-some c value same =
    let h = rw c.as_bytes.ensures.value at c.in-Ok.ensures in
    let found : c.in-Ok.value ≡ value = cc in
    rw (← found) (c.in_ok-is_text_of.ensures.0 c.if-branch.true, no_deeper 127 c.args.text.now (view c.in-Ok.value) c.in-Ok.field-0-1.now h)

pub returns-clause-none : goal.returns-clause-none
returns-clause-none c same value within e =
    let h = rw c.as_bytes.ensures.value at c.in-Ok.ensures in
    let is_text = c.in_ok-is_text_of.ensures.1 (is_read 127 c.args.text.now value e within (view c.in-Ok.value) c.in-Ok.field-0-1.now h) in
    true≢false (sym is_text ∙ c.if-branch.false)
