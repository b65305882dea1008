use Rattle.osb_top.proofs.Coming.{built_over}
use Rattle.osb_top.proofs.builds.build_all.Goals as goal

pub returns : goal.returns
returns g c =
    let builds = c.in_ok-planned.field-0.planned.items in
    record {
      built =
          rw (← c.into_store-store.ensures.store)
          (built_over c.args.settings.now c.into_store-store.result _ c.args.readies.items builds c.in_ok-plan.field-0.plan c.in_ok-plan.field-0.finished c.in_ok-came.came.items
          c.in_ok-planned.ensures.planned c.in_ok-planned.ensures.ready
          (rw c.deref.ensures.value at c.in_ok-plan.ensures.plan) (rw c.deref.ensures.value at c.in_ok-plan.ensures.bridge)
          c.in_ok-plan.ensures.meant c.in_ok-plan.ensures.run
          (rw (c.deref-2.ensures.value, c.as_slice.ensures.items, c.in_ok-planned.ensures.places) at c.in_ok-came.ensures.came));
    }
