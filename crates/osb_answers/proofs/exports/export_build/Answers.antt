use Rattle.osb_answers.proofs.ManyExports.{none_exported}
use Rattle.osb_answers.proofs.exports.export_build.Goals as goal

pub returns-in-Err-clause-exported : goal.returns-in-Err-clause-exported
returns-in-Err-clause-exported g c = none_exported _ c.in-Err.ensures.err c.in-Err.ensures.later
