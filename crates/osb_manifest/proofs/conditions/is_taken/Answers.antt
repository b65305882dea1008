use Rattle.std.proofs.Common.{ap, ◌∙◌}
use Rattle.std.specs.Bool.{◌==◌}
use Rattle.std.specs.Cmp.Lexicographic.{pointwise}
use Rattle.std.specs.List.{filter_map, list_any}
use Rattle.osb_manifest.specs.Walks.{name_of}
use Rattle.osb_shape.proofs.Views.{list_of-before}
use Rattle.osb_manifest.proofs.conditions.is_taken.Goals as goal

pub returns : goal.returns
returns c =
    c.has_name.ensures ∙ ap (λ before. list_any (pointwise ◌==◌ c.args.name.now) (filter_map name_of before)) (list_of-before c.args.pipelines.now c.args.i c.min.result c.min.ensures)
