use Rattle.std.proofs.Common.{string_bytes, rules}
use Rattle.serde_json.specs.View.{view}
use Rattle.osb_pyjson.specs.PyText.{py_data}
use Rattle.osb_pyjson.proofs.Floats.{float_has_no_text, py_text_of-refused}
use Rattle.osb_pyjson.proofs.Writing.{after-none}
use Rattle.osb_pyjson.proofs.writers.py_text.Goals as goal

pub returns-clause-whole : goal.returns-clause-whole
returns-clause-whole c h =
    absurd (after-none (string_bytes c.new-out.result) (string_bytes c.write_value.new.out) (py_data (view c.args.value.now)) (float_has_no_text (view c.args.value.now) h) c.in_ok-write_value.ensures.text)

pub returns-in_err-write_value-clause-text : goal.returns-in_err-write_value-clause-text
returns-in_err-write_value-clause-text c =
    py_text_of-refused (view c.args.value.now) c.from_residual.result c.from_residual.ensures.0 (search rules)
