use Rattle.std.proofs.Common.{◌≡◌, List, ◌∷◌, ℕ, ap, ◌∙◌}
use Rattle.std.specs.List.{flat_map}
use Rattle.serde_json.specs.View.{view}
use Rattle.osb_shape.specs.Firsts.{first}
use Rattle.osb_manifest.specs.Walks.{source_objects, applies}
use Rattle.osb_manifest.proofs.Order.{found_named, left_named}
use Rattle.osb_manifest.proofs.walks.first_of_named.Goals as goal

pub returns-in-Some-2 : goal.returns-in-Some-2
returns-in-Some-2 c =
    let left : c.loop-name.name-iterator ≡ (c.in-Some.name.now, c.in-Some.source.now) ∷ c.next.new.self = c.in-Some.ensures.steps in
    let here = c.in_ok-refusal.ensures ∙ ap (λ (name : List ℕ). first (flat_map (applies (view c.args.whole.now) c.args.condition) (source_objects name (view c.in-Some.source.now)))) c.as_str.ensures.value in
    found_named source_objects (applies (view c.args.whole.now) c.args.condition) c.args.sources.now.entries c.loop-name.name-iterator c.next.new.self c.in-Some.name.now c.in-Some.source.now
    c.in_ok-refusal.field-0 c.in-Some-2.refusal left here c.in-Some-2.is c.loop-name.invariant

pub loop-name-preserved : goal.loop-name-preserved
loop-name-preserved c =
    let left : c.loop-name.name-iterator ≡ (c.in-Some.name.now, c.in-Some.source.now) ∷ c.next.new.self = c.in-Some.ensures.steps in
    let here = c.in_ok-refusal.ensures ∙ ap (λ (name : List ℕ). first (flat_map (applies (view c.args.whole.now) c.args.condition) (source_objects name (view c.in-Some.source.now)))) c.as_str.ensures.value in
    left_named source_objects (applies (view c.args.whole.now) c.args.condition) c.args.sources.now.entries c.loop-name.name-iterator c.next.new.self c.in-Some.name.now c.in-Some.source.now
    c.in_ok-refusal.field-0 left here c.in_default.not-Some c.loop-name.invariant
