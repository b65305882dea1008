use Rattle.std.proofs.Common.{ap, ◌∙◌, sym}
use Rattle.osb_sources.proofs.Thinned.{thinned_same}
use Rattle.osb_manifest.specs.Wanted.{wanted}
use Rattle.osb_ready.proofs.Readied.{unknown, of_gathered}
use Rattle.osb_ready.proofs.preparing.needed_build.Goals as goal

pub returns-in_default-clause-readied : goal.returns-in_default-clause-readied
returns-in_default-clause-readied g c = unknown _ _ _

pub returns-in_default-clause-left : goal.returns-in_default-clause-left
returns-in_default-clause-left g c = thinned_same _

pub returns-in-Ok-gather-clause-readied : goal.returns-in-Ok-gather-clause-readied
returns-in-Ok-gather-clause-readied g c =
    of_gathered c.args.settings.now c.args.manifest c.args.places c.as_slice-2.result.now _ _ _ _ (c.as_slice-2.ensures.items ∙ c.in-Ok.ensures.wanted ∙ ap (wanted c.args.manifest) c.as_slice.ensures.items) c.in-Ok-gather.ensures.gathers
    c.gathered_build.ensures.due c.in-Ok-gather.ensures.cause

pub returns-in-Err-clause-readied : goal.returns-in-Err-clause-readied
returns-in-Err-clause-readied g c =
    of_gathered c.args.settings.now c.args.manifest c.args.places c.as_slice-2.result.now _ _ _ _ (c.as_slice-2.ensures.items ∙ c.in-Ok.ensures.wanted ∙ ap (wanted c.args.manifest) c.as_slice.ensures.items) c.in-Err.ensures.gathers
    (λ n. sym (c.source_unbuilt.ensures.due c.args.settings.now c.args.manifest c.args.places)) c.in-Err.ensures.cause
