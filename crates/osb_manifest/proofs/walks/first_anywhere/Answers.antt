use Rattle.std.proofs.Common.{List, ◌++◌, sym, ap, ◌∙◌, codes}
use Rattle.std.specs.List.{flat_map}
use Rattle.std.proofs.lemmas.List.Concat.{flat_map-append}
use Rattle.serde_json.specs.Data.{Data}
use Rattle.serde_json.specs.View.{view}
use Rattle.osb_shape.specs.Firsts.{first}
use Rattle.osb_shape.specs.Values.{list_at, members_at}
use Rattle.osb_manifest.specs.Walks.{Object, at_top, in_order, by_name, pipeline_objects, source_objects, applies, everywhere}
use Rattle.osb_manifest.specs.declared.manifests.Refusal.{Refusal}
use Rattle.osb_manifest.proofs.Order.{found_below, none_below, if_ok_map}
use Rattle.osb_manifest.proofs.walks.first_anywhere.Goals as goal

abbrev pipelines : Data → List Object
pipelines whole = in_order pipeline_objects 0 (list_at (codes "pipelines") whole)

abbrev sources : Data → List Object
sources whole = by_name source_objects (members_at (codes "sources") whole)

pub returns-in-Some-2 : goal.returns-in-Some-2
unfolding everywhere
returns-in-Some-2 c =
    let f : Object → List Refusal = applies (view c.args.whole.now) c.args.condition in
    let whole : Data = view c.args.whole.now in
    let below = c.in_ok-refusal-2.ensures ∙ ap (λ (values : List Data). first (flat_map f (in_order pipeline_objects 0 values))) c.list_at-pipelines.ensures.items in
    found_below (f (at_top whole)) (flat_map f (pipelines whole)) (flat_map f (sources whole)) c.in_ok-refusal-2.field-0 c.in-Some-2.refusal
    (sym c.in_default.is ∙ c.in_ok-refusal.ensures) below c.in-Some-2.is
    ∙ ap (λ (rest : List Refusal). first (f (at_top whole) ++ rest)) (sym (flat_map-append f (pipelines whole) (sources whole)))

pub returns : goal.returns
unfolding everywhere
returns c =
    let f : Object → List Refusal = applies (view c.args.whole.now) c.args.condition in
    let whole : Data = view c.args.whole.now in
    let below = c.in_ok-refusal-2.ensures ∙ ap (λ (values : List Data). first (flat_map f (in_order pipeline_objects 0 values))) c.list_at-pipelines.ensures.items in
    if_ok_map _ _ _
    (none_below (f (at_top whole)) (flat_map f (pipelines whole)) (flat_map f (sources whole)) (sym c.in_default.is ∙ c.in_ok-refusal.ensures) (sym c.in_default-2.is ∙ below)
    ∙ ap (λ (rest : List Refusal). first (f (at_top whole) ++ rest)) (sym (flat_map-append f (pipelines whole) (sources whole))))
    c.first_of_sources.ensures
