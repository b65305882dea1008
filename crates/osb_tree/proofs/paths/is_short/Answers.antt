use Rattle.std.proofs.Common.{◌∷◌, arith, length, ap, ◌∙◌}
use Rattle.std.proofs.lemmas.Bool.{false≢true}
use Rattle.std.proofs.lemmas.List.Folds.{length-flat_map-take}
use Rattle.osb_tree.proofs.PathLaws.{length-flat_map-le}
use Rattle.osb_tree.proofs.paths.is_short.Goals as goal

pub returns-then-length-room : goal.returns-then-length-room
returns-then-length-room c =
    let names = c.args.names.now in
    let most = length-flat_map-take (λ n. 47 ∷ n) names c.loop-name.name-index c.name-item.result c.loop-name-test.true in
    let at_name = ap length (c.as_str-length.ensures.text ∙ c.name-item.is) in
    record { short = (λ e. absurd (false≢true e), λ short. absurd (omega (arith, length-flat_map-le names, most, at_name))); named = λ e. absurd (false≢true e) }
