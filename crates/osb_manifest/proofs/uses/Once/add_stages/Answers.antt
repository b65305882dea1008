use Rattle.std.proofs.Common.{◌++◌, sym, ap}
use Rattle.std.specs.List.{flat_map}
use Rattle.std.specs.Map.{values_of}
use Rattle.osb_manifest.specs.Wanted.{input_uses, stage_uses}
use Rattle.osb_manifest.proofs.Once.{once_turn}
use Rattle.osb_manifest.proofs.uses.Once.add_stages.Goals as goal

pub loop-stage-preserved : goal.loop-stage-preserved
loop-stage-preserved c =
    once_turn (flat_map stage_uses) c.args.stages.now c.loop-stage.stage-index c.stage-item.result c.stage-item.result (flat_map input_uses (values_of c.as_slice.result.now)) c.loop-stage.self c.add_inputs.new.self _
    (λ others. ap (λ inputs. flat_map input_uses (values_of inputs) ++ flat_map stage_uses others) (sym c.as_slice.ensures.items))
    c.loop-stage-test.true c.stage-item.is c.in_ok-add_inputs.ensures c.loop-stage.invariant
