use Rattle.osb_pyjson.proofs.Law.{same_text}
use Rattle.osb_pyjson.proofs.laws.py_text_tells_values.Goals as goal

pub returns : goal.returns
returns c = record { law = same_text }
