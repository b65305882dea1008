use Rattle.std.proofs.Common.{◌∙◌, arith}
use Rattle.std.specs.Map.{values_of}
use Rattle.osb_ident.specs.Idents.{ids_after, manifest_ids}
use Rattle.osb_ident.proofs.Identifiers.{ids_after-all, ids_after-more}
use Rattle.osb_ident.proofs.ids.stage_ids.Goals as goal

pub loop-place-init : goal.loop-place-init
unfolding ids_after
loop-place-init c = c.new-ids.ensures.items

pub loop-place-preserved : goal.loop-place-preserved
loop-place-preserved c =
    c.in_ok-push.ensures.items ∙ ids_after-more (values_of c.args.manifest.now.pipelines) c.loop-place.place _ c.loop-place.ids.items _ _
    c.pipeline.ensures.pipeline c.loop-place.invariant c.deref.ensures.value c.in_ok-own.ensures

pub returns : goal.returns
unfolding manifest_ids
returns c = record {
  ids = c.new.ensures.items ∙ c.loop-place.invariant
      ∙ ids_after-all c.args.manifest.now.pipelines c.loop-place.place (omega arith);
}
