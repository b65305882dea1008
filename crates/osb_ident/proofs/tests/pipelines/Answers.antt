use Rattle.std.proofs.Common.{◌==◌, [], ◌∷◌, refl}
use Rattle.std.specs.Prelude.{codes}
use Rattle.std.specs.List.{IsDistinct}
use Rattle.std.specs.Cmp.Lexicographic.{pointwise}
use Rattle.osb_ident.proofs.tests.pipelines.Goals as goal

names_differ : IsDistinct (pointwise ◌==◌) (codes "empty" ∷ codes "build" ∷ codes "os" ∷ [])
unfolding IsDistinct
names_differ = ((refl, (refl, tt)), ((refl, tt), (tt, tt)))

pub new-requires-3 : goal.new-requires-3
new-requires-3 c = rw (c.in_ok-pipelines.ensures.items, c.in_ok-from_str.ensures.ok, c.in_ok-from_str-2.ensures.ok, c.in_ok-from_str-3.ensures.ok) names_differ
