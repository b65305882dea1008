use Rattle.std.proofs.Common.{ℕ, List, sym, ◌∙◌, subst}
use Rattle.std.proofs.lemmas.List.{drop_more}
use Rattle.osb_plan.specs.Held.{HasBlobs}
use Rattle.osb_plan.proofs.Steps.{place_turn}
use Rattle.osb_plan.proofs.chains.chains_of.Goals as goal

pub loop-place-preserved : goal.loop-place-preserved
loop-place-preserved c =
    let Held : List (List ℕ) → Type 0 = λ blobs. HasBlobs blobs c.args.build.now.blobs in
    let turn = place_turn _ c.args.build.now.blobs c.loop-place.table c.add_chain.new.table c.loop-place.chains.items c.add_chain.new.chains.items _ _ _
    (drop_more c.args.places.now c.loop-place.place-index 0 c.loop-place-test.true) c.in_ok-add_chain.ensures.chains c.in_ok-add_chain.ensures.table in
    record {
      chains = turn.keys ∙ c.loop-place.invariant.chains;
      table = turn.recipes ∙ c.loop-place.invariant.table;
      held = subst Held (sym c.in_ok-add_chain.ensures.blobs) c.loop-place.invariant.held;
      below = c.in_ok-add_chain.ensures.below;
    }
