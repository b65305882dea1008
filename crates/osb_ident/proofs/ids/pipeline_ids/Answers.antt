use Rattle.std.proofs.Common.{◌≡◌, Option, None, take, ap, ◌∙◌}
use Rattle.std.specs.Prelude.{option_copied}
use Rattle.std.specs.List.{last_or}
use Rattle.std.proofs.lemmas.List.{take_all}
use Rattle.osb_ident.specs.Idents.{Id, ids_from}
use Rattle.osb_ident.proofs.Lasts.{slice_get-last}
use Rattle.osb_ident.proofs.Identifiers.{ids_from-more}
use Rattle.osb_ident.proofs.ids.pipeline_ids.Goals as goal

pub loop-stage-init : goal.loop-stage-init
unfolding ids_from
loop-stage-init c = c.new-own.ensures.items

pub loop-stage-preserved : goal.loop-stage-preserved
loop-stage-preserved c =
    let before = c.last.ensures.value ∙ slice_get-last c.deref.result.now ∙ ap (last_or None) c.deref.ensures.value in
    c.in_ok-push.ensures.items ∙ ids_from-more c.args.ids.now (option_copied c.build_id-build.result) c.as_slice-stage-items.result.now
    c.loop-stage.stage-index c.stage-item.result c.loop-stage.own.items _ _
    c.loop-stage-test.true c.stage-item.is c.loop-stage.invariant before c.in_ok-id.ensures

pub returns : goal.returns
returns c =
    let all : take c.loop-stage.stage-index c.as_slice-stage-items.result.now ≡ c.args.pipeline.now.stages =
    take_all _ _ c.loop-stage-test.false ∙ c.as_slice-stage-items.ensures.items in
    c.new.ensures.items ∙ c.loop-stage.invariant
    ∙ ap (ids_from c.args.ids.now (option_copied c.build_id-build.result) None) all
    ∙ ap (λ (build : Option Id). ids_from c.args.ids.now build None c.args.pipeline.now.stages) c.build_id-build.ensures
