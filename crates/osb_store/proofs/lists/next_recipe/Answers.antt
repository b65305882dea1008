use Rattle.std.proofs.Common.{ℕ, List, cond, Option, Some, None, sym, ap, ◌∙◌, arith}
use Rattle.osb_recipe.specs.Recipes.{Origin}
use Rattle.osb_store.specs.Bytes.{IsBytes}
use Rattle.osb_store.proofs.NextRecipes.{rest_within, text_in_front, checked_by_text}
use Rattle.osb_store.proofs.lists.next_recipe.Goals as goal

pub slice_bounds-text-count : goal.slice_bounds-text-count
slice_bounds-text-count c =
    let held = c.args.recipes.now in
    let bytes : IsBytes c.args.bytes.now = λ i. omega (arith, c.type_inv.bytes i) in
    rest_within held.blobs held.recipes c.args.bytes.now c.in_ok-recipe.recipe c.in_ok-recipe.rest.now c.requires.blobs c.requires.recipes c.requires.each bytes (omega arith) c.in_ok-recipe.ensures (sym c.is_well.ensures ∙ c.if-not-is_well.false)

pub returns-then-has-clause-recipe : goal.returns-then-has-clause-recipe
returns-then-has-clause-recipe c =
    let held = c.args.recipes.now in
    let bytes : IsBytes c.args.bytes.now = λ i. omega (arith, c.type_inv.bytes i) in
    let checked = checked_by_text held.blobs held.recipes c.args.bytes.now c.in_ok-recipe.recipe c.in_ok-recipe.rest.now c.requires.blobs c.requires.recipes c.requires.each bytes (omega arith) c.in_ok-recipe.ensures (sym c.is_well.ensures ∙ c.if-not-is_well.false) c.has.result c.has.ensures in
    checked ∙ ap (λ b. cond {A = Option (Origin × List ℕ)} b None (Some (c.in_ok-recipe.recipe, c.in_ok-recipe.rest.now))) c.if-has.true

pub returns-clause-recipe : goal.returns-clause-recipe
returns-clause-recipe c =
    let held = c.args.recipes.now in
    let bytes : IsBytes c.args.bytes.now = λ i. omega (arith, c.type_inv.bytes i) in
    let checked = checked_by_text held.blobs held.recipes c.args.bytes.now c.in_ok-recipe.recipe c.in_ok-recipe.rest.now c.requires.blobs c.requires.recipes c.requires.each bytes (omega arith) c.in_ok-recipe.ensures (sym c.is_well.ensures ∙ c.if-not-is_well.false) c.has.result c.has.ensures in
    checked ∙ ap (λ b. cond {A = Option (Origin × List ℕ)} b None (Some (c.in_ok-recipe.recipe, c.in_ok-recipe.rest.now))) c.if-has.false

pub returns-clause-text : goal.returns-clause-text
returns-clause-text c =
    let held = c.args.recipes.now in
    let bytes : IsBytes c.args.bytes.now = λ i. omega (arith, c.type_inv.bytes i) in
    text_in_front held.blobs held.recipes c.args.bytes.now c.in_ok-recipe.recipe c.in_ok-recipe.rest.now c.requires.blobs c.requires.recipes c.requires.each bytes (omega arith) c.in_ok-recipe.ensures (sym c.is_well.ensures ∙ c.if-not-is_well.false)
