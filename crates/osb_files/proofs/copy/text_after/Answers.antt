use Rattle.std.proofs.Common.{false, sym}
use Rattle.std.proofs.lemmas.Str.Pattern.{starts_text}
use Rattle.serde_json.specs.View.{view}
use Rattle.osb_files.proofs.SourceTexts.{text_after-other}
use Rattle.osb_files.proofs.copy.text_after.Goals as goal

pub returns-in_ok-new-in-None-clause-fault : goal.returns-in_ok-new-in-None-clause-fault
returns-in_ok-new-in-None-clause-fault c =
    let other = starts_text false c.args.start.now c.in-Some.text.now c.in-None.ensures.cases in
    λ _. rw c.in_ok-new-in-None.ensures.content (text_after-other c.args.start.now c.args.name.now c.in-Some.text.now (view c.args.value.now) (sym c.in-Some.ensures) (sym other))
