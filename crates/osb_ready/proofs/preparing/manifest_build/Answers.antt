use Rattle.std.proofs.Common.{ap, ◌∙◌}
use Rattle.osb_sources.proofs.Thinned.{thinned_same}
use Rattle.osb_manifest.specs.Needed.{needed}
use Rattle.osb_ready.proofs.Readied.{lacks_ready}
use Rattle.osb_ready.proofs.preparing.manifest_build.Goals as goal

pub returns-in-Err-clause-readied : goal.returns-in-Err-clause-readied
returns-in-Err-clause-readied g c =
    lacks_ready c.args.settings.now c.args.manifest c.in-Err.lacks _ c.lacking.result c.lacking.ensures.memory (c.lacking.ensures.due c.args.settings.now c.args.manifest) (λ other. c.in-Err.ensures.needed (λ e. other (cc)) ∙ ap (needed c.args.manifest) c.as_slice.ensures.items)

pub returns-in-Err-clause-left : goal.returns-in-Err-clause-left
returns-in-Err-clause-left g c = thinned_same _
