use Rattle.std.proofs.Common.{◌≡◌, List, ◌∷◌, ℕ, ap, ◌∙◌}
use Rattle.serde_json.specs.View.{view}
use Rattle.osb_shape.specs.Firsts.{first}
use Rattle.osb_manifest.specs.Walks.{at_item, item_objects, applies}
use Rattle.osb_manifest.proofs.Order.{found_named, left_named, first-single}
use Rattle.osb_manifest.proofs.walks.first_of_items.Goals as goal

pub returns-in-Some-2 : goal.returns-in-Some-2
returns-in-Some-2 c =
    let left : c.loop-name.name-iterator ≡ (c.in-Some.name.now, c.in-Some.item.now) ∷ c.next.new.self = c.in-Some.ensures.steps in
    let here = first-single c.in_ok-refusal.field-0 _ (c.in_ok-refusal.ensures ∙ ap (λ (name : List ℕ). first (applies (view c.args.whole.now) c.args.condition (at_item c.args.source.now name (view c.in-Some.item.now)))) c.as_str.ensures.value) in
    found_named (item_objects c.args.source.now) (applies (view c.args.whole.now) c.args.condition) c.args.items.now.entries c.loop-name.name-iterator c.next.new.self c.in-Some.name.now c.in-Some.item.now
    c.in_ok-refusal.field-0 c.in-Some-2.refusal left here c.in-Some-2.is c.loop-name.invariant

pub loop-name-preserved : goal.loop-name-preserved
loop-name-preserved c =
    let left : c.loop-name.name-iterator ≡ (c.in-Some.name.now, c.in-Some.item.now) ∷ c.next.new.self = c.in-Some.ensures.steps in
    let here = first-single c.in_ok-refusal.field-0 _ (c.in_ok-refusal.ensures ∙ ap (λ (name : List ℕ). first (applies (view c.args.whole.now) c.args.condition (at_item c.args.source.now name (view c.in-Some.item.now)))) c.as_str.ensures.value) in
    left_named (item_objects c.args.source.now) (applies (view c.args.whole.now) c.args.condition) c.args.items.now.entries c.loop-name.name-iterator c.next.new.self c.in-Some.name.now c.in-Some.item.now
    c.in_ok-refusal.field-0 left here c.in_default.not-Some c.loop-name.invariant
