use Rattle.std.proofs.Common.{sym, subst}
use Rattle.std.specs.List.{All}
use Rattle.std.proofs.lemmas.List.Elements.{All-nil}
use Rattle.osb_plan.specs.Bridge.{IsReady}
use Rattle.osb_top.proofs.Preparing.{planned_more, places_more}
use Rattle.osb_top.proofs.prepares.split.Goals as goal

pub loop-ready-init : goal.loop-ready-init
loop-ready-init c = record {
  planned = c.new-planned.ensures.items;
  places = c.new-places.ensures.items;
  ready = subst (λ list. All IsReady list) (sym c.new-planned.ensures.items) (All-nil IsReady);
}

pub loop-ready-preserved : goal.loop-ready-preserved
loop-ready-preserved c = record {
  planned = planned_more c.loop-ready.planned.items _ c.loop-ready.yielded c.in-Some.ready c.loop-ready.invariant.planned c.in_ok-add_build.ensures.planned;
  places = places_more c.loop-ready.places.items _ c.loop-ready.planned.items c.loop-ready.yielded c.in-Some.ready c.loop-ready.invariant.planned c.loop-ready.invariant.places c.in_ok-add_build.ensures.places;
  ready = c.in_ok-add_build.ensures.ready c.loop-ready.invariant.ready;
}
