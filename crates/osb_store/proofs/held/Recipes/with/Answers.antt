use Rattle.std.proofs.Common.{ap, ◌∙◌}
use Rattle.osb_store.specs.Places.{same_text}
use Rattle.osb_store.specs.Texts.{recipe_text}
use Rattle.osb_store.proofs.Seen.{held_more, same_order}
use Rattle.osb_store.proofs.held.Recipes.with.Goals as goal

pub invariant_of-self : goal.invariant_of-self
invariant_of-self c = λ text.
    held_more (λ recipe. same_text text (recipe_text recipe)) c.self.inside.table.recipes c.add.new.self.recipes c.args.recipe _ _ _ (c.self.invariant text)
    (c.in_ok-insert.ensures.updates.0 (record { ref_ptr = c.args.text.ref_ptr; now = text })) (same_order c.args.text.now text ∙ ap (same_text text) c.requires.text)
    c.in_ok-add.ensures.recipes
