use Rattle.std.proofs.Common.{Ok, ap}
use Rattle.serde_json.specs.View.{view}
use Rattle.osb_store.proofs.OptionKinds.{options_found, options_none}
use Rattle.osb_store.proofs.options.options_of.Goals as goal

pub returns-in-Some : goal.returns-in-Some
returns-in-Some c =
    options_found c.args.text.now (view c.in-Some.options) (c.in_ok-options.ensures.some c.in-Some.options (ap Ok c.in-Some.is))

pub returns-in-None : goal.returns-in-None
returns-in-None c = options_none c.args.text.now (c.in_ok-options.ensures.none (ap Ok c.in-None.is))
