use Rattle.std.proofs.Common.{length, sym, ◌∙◌, subst}
use Rattle.osb_plan.specs.Planning.{Chains}
use Rattle.osb_plan.specs.Held.{AreEndsBelow}
use Rattle.osb_plan.proofs.Steps.{last_of_pipeline, ends_below-pushed}
use Rattle.osb_plan.proofs.chains.add_chain.Goals as goal

pub returns-clause-below : goal.returns-clause-below
returns-clause-below c =
    let Below : Chains → Type 0 = λ chains. AreEndsBelow (length c.pipeline_keys.new.table.recipes) chains in
    subst Below (sym c.in_ok-push.ensures.items)
    (ends_below-pushed _ _ c.args.place c.args.chains.now.items c.new.result c.in_ok-keys.ensures.grown c.requires.below
    (last_of_pipeline _ _ _ _ _ _ (c.new.ensures.items ∙ c.in_ok-keys.ensures.keys) c.in_ok-keys.ensures.table))
