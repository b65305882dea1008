use Rattle.osb_store.proofs.OptionKinds.{kind_read}
use Rattle.osb_store.proofs.recipes.recipe_of.Goals as goal

pub invariant_of-recipe : goal.invariant_of-recipe
invariant_of-recipe c =
    let read = kind_read c.in_ok-stage.stage.now c.in_ok-spelled.spelled.now c.in_ok-kind.kind c.in_ok-kind.ensures in
    rw (c.in_ok-new.ensures.value, c.in_ok-new-2.ensures.content) read.1
