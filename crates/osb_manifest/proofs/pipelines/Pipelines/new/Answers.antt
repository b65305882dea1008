use Rattle.osb_manifest.proofs.Names.{put_turn}
use Rattle.osb_manifest.proofs.pipelines.Pipelines.new.Goals as goal

pub loop-name-preserved-in_ok-insert : goal.loop-name-preserved-in_ok-insert
loop-name-preserved-in_ok-insert c =
    put_turn c.loop-name.by_name.entries c.insert.new.self.entries c.loop-name.name-iterator.rest.items c.next.new.self.rest.items c.args.pipelines.items c.in-Some.name c.in-Some.pipeline
    c.requires c.loop-name.invariant c.in-Some.ensures.steps.0 c.in_ok-insert.ensures.entries

pub loop-name-preserved : goal.loop-name-preserved
loop-name-preserved c =
    put_turn c.loop-name.by_name.entries c.insert.new.self.entries c.loop-name.name-iterator.rest.items c.next.new.self.rest.items c.args.pipelines.items c.in-Some.name c.in-Some.pipeline
    c.requires c.loop-name.invariant c.in-Some.ensures.steps.0 c.in_ok-insert.ensures.entries
