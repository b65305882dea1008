use Rattle.std.proofs.Common.{◌++◌, ◌∙◌, [], sym, ap, get_or, refl, arith}
use Rattle.std.specs.List.{flat_map}
use Rattle.osb_manifest.specs.Wanted.{stage_uses, pipeline_uses, uses}
use Rattle.osb_manifest.proofs.Once.{once_turn, no_value}
use Rattle.osb_manifest.proofs.uses.wanted.Goals as goal
use Rattle.osb_manifest.proofs.uses.wanted.Goals.{then-place-len+in_ok-add_stages, else-place-len}

pub loop-place-preserved : goal.loop-place-preserved
loop-place-preserved c =
    let place = get_or c.args.needed.now c.loop-place.place-index 0 in
    elim c.if-place-len.branch [
      | then-place-len+in_ok-add_stages w ↦
          once_turn (uses c.args.manifest.now) c.args.needed.now c.loop-place.place-index place 0 (flat_map stage_uses w.as_slice.result.now) c.loop-place.once c.if-place-len.once _
          (λ others. ap (λ pipeline. pipeline_uses pipeline ++ uses c.args.manifest.now others) w.pipeline.ensures.pipeline ∙ ap (λ stages. flat_map stage_uses stages ++ uses c.args.manifest.now others) (sym w.as_slice.ensures.items))
          c.loop-place-test.true refl (w.once-is ∙ w.in_ok-add_stages.ensures) c.loop-place.invariant
      | else-place-len w ↦
          once_turn (uses c.args.manifest.now) c.args.needed.now c.loop-place.place-index place 0 [] c.loop-place.once c.if-place-len.once _
          (λ others. ap (λ pipeline. pipeline_uses pipeline ++ uses c.args.manifest.now others) (no_value c.args.manifest.now.pipelines place (omega (arith, w.if-place-len.false, c.len.ensures.len))))
          c.loop-place-test.true refl w.once-is c.loop-place.invariant
    ]
