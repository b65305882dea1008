use Rattle.std.proofs.Common.{ℕ, List, ◌++◌, ◌∷◌, [], length, string_bytes}
use Rattle.std.specs.Char.{encode_utf8}
use Rattle.std.proofs.lemmas.Result.{err_from_is_err_and}
use Rattle.osb_pyread.specs.Quotes.{char_at, text_at}
use Rattle.osb_pyread.proofs.Loops.{goes_on, is_closed, breaks, is_over}
use Rattle.osb_pyread.proofs.strings.read_text.Goals as goal

abbrev add : List ℕ → ℕ → List ℕ
add text c = text ++ encode_utf8 c

pub returns-in-Some : goal.returns-in-Some
returns-in-Some c =
    let bytes = c.args.bytes.now in
    is_closed (34 ∷ []) char_at add (length bytes) c.loop.counter (string_bytes c.loop.text) c.loop.rest.now (text_at (length bytes) [] bytes) c.loop.invariant c.in-Some.after.now c.loop-test.true c.in-Some.ensures

pub returns-in_err-c : goal.returns-in_err-c
returns-in_err-c c =
    let bytes = c.args.bytes.now in
    let p = err_from_is_err_and c.from_residual.result c.from_residual.ensures.1 in
    rw (p.1, p.2) (breaks (34 ∷ []) char_at add (length bytes) c.loop.counter (string_bytes c.loop.text) c.loop.rest.now (text_at (length bytes) [] bytes) c.loop.invariant c.in_err-c.field-0.0 c.loop-test.true c.in_default.ensures c.in_err-c.ensures)

pub loop-preserved : goal.loop-preserved
loop-preserved c =
    let bytes = c.args.bytes.now in
    rw c.in_ok-push.ensures.bytes (goes_on (34 ∷ []) char_at add (length bytes) c.loop.counter (string_bytes c.loop.text) c.loop.rest.now (text_at (length bytes) [] bytes) c.loop.invariant c.in_ok-c.c c.in_ok-c.after.now c.loop-test.true c.in_default.ensures c.in_ok-c.ensures)

pub returns : goal.returns
returns c =
    let bytes = c.args.bytes.now in
    is_over (34 ∷ []) char_at add (length bytes) c.loop.counter (string_bytes c.loop.text) c.loop.rest.now (text_at (length bytes) [] bytes) c.loop.invariant c.loop-test.false
