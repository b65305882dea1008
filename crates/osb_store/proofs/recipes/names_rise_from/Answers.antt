use Rattle.std.proofs.Common.{◌≡◌, ℕ, List, true, false, sym, ap, ◌∙◌}
use Rattle.osb_recipe.specs.declared.references.InputRecipe.{InputRecipe}
use Rattle.osb_store.specs.Recipes.{is_above}
use Rattle.osb_store.proofs.RecipeRises.{rise_on, rise_no_more}
use Rattle.osb_store.proofs.recipes.names_rise_from.Goals as goal

pub returns-then-not-is_above : goal.returns-then-not-is_above
returns-then-not-is_above c =
    let item = c.input-item.result in
    let name : c.as_bytes-name.result.now ≡ item.0 = c.as_bytes-name.ensures.value ∙ c.as_str.ensures.content in
    let level : is_above c.loop-input.last.now item.0 ≡ false = ap (is_above c.loop-input.last.now) (sym name) ∙ sym c.is_above.ensures ∙ c.if-not-is_above.true in
    sym (rise_no_more (λ (input : List ℕ × InputRecipe). input.0) c.loop-input.last.now c.args.inputs.now c.loop-input.input-index item item c.loop-input-test.true c.input-item.is level) ∙ c.loop-input.invariant

pub loop-input-preserved : goal.loop-input-preserved
loop-input-preserved c =
    let item = c.input-item.result in
    let name : c.as_bytes-name.result.now ≡ item.0 = c.as_bytes-name.ensures.value ∙ c.as_str.ensures.content in
    let above : is_above c.loop-input.last.now item.0 ≡ true = ap (is_above c.loop-input.last.now) (sym name) ∙ sym c.is_above.ensures ∙ c.if-not-is_above.false in
    rw name (rise_on (λ (input : List ℕ × InputRecipe). input.0) c.loop-input.last.now c.args.inputs.now c.loop-input.input-index item item c.loop-input-test.true c.input-item.is above ∙ c.loop-input.invariant)
