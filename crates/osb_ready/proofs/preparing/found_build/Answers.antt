use Rattle.std.proofs.Common.{◌∙◌, sym, ap, Some}
use Rattle.osb_sources.proofs.Thinned.{thinned_same}
use Rattle.osb_ready.proofs.Readied.{absent_ready, refused_ready}
use Rattle.osb_ready.proofs.preparing.found_build.Goals as goal

pub returns-in_default-clause-prepared : goal.returns-in_default-clause-prepared
returns-in_default-clause-prepared g c = absent_ready c.args.settings.now c.args.found _ c.in_default.is

pub returns-in_default-clause-left : goal.returns-in_default-clause-left
returns-in_default-clause-left g c = thinned_same _

pub returns-clause-prepared : goal.returns-clause-prepared
returns-clause-prepared g c =
    refused_ready c.args.settings.now c.args.found c.as_slice.result.now c.in-Err.refusal _ c.refused.result (c.in-Some.is ∙ ap Some (sym c.as_slice.ensures.content)) c.refused.ensures.memory c.refused.ensures.refused (λ other. c.in-Err.ensures.manifest (λ e. other (cc)))

pub returns-clause-left : goal.returns-clause-left
returns-clause-left g c = thinned_same _
