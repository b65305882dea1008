use Rattle.serde_json.specs.View.{view}
use Rattle.osb_manifest.specs.Walks.{pipeline_objects, applies}
use Rattle.osb_manifest.proofs.Order.{found_here, found_later}
use Rattle.osb_manifest.proofs.walks.first_of_pipelines.Goals as goal

pub returns-in-Some : goal.returns-in-Some
returns-in-Some c =
    found_here pipeline_objects (applies (view c.args.whole.now) c.args.condition) c.args.pipelines.now c.loop-i.i c.index-pipelines-i.result c.in_ok-refusal.field-0 c.in-Some.refusal
    c.loop-i-test.true c.index-pipelines-i.is c.in_ok-refusal.ensures c.in-Some.is c.loop-i.invariant

pub loop-i-preserved : goal.loop-i-preserved
loop-i-preserved c =
    found_later pipeline_objects (applies (view c.args.whole.now) c.args.condition) c.args.pipelines.now c.loop-i.i c.index-pipelines-i.result c.in_ok-refusal.field-0
    c.loop-i-test.true c.index-pipelines-i.is c.in_ok-refusal.ensures c.in_default.not-Some c.loop-i.invariant
