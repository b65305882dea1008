use Rattle.std.proofs.Common.{inl}
use Rattle.osb_top.proofs.Coming.{comes_over}
use Rattle.osb_top.proofs.over.run_serial_over.Goals as goal

pub returns-clause-run : goal.returns-clause-run
returns-clause-run g c =
    rw (← c.get-settings.ensures.settings)
    (inl (comes_over c.get-settings.result.now c.args.store c.args.reads.items c.in-Ok.readies.items c.in-Ok-build_all.built.came.items c.in-Ok-export_builds.answers.items
    c.in-Ok-build_all.built.plan c.in-Ok-build_all.built.finished _ _
    c.in-Ok.ensures.prepared c.in-Ok-build_all.ensures.built c.in-Ok-export_builds.ensures.answers c.in-Ok-export_builds.ensures.exported
    (rw c.deref.ensures.value at c.finish.ensures.finishes)))
