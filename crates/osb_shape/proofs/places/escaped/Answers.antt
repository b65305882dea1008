use Rattle.std.proofs.Common.{◌≡◌, sym, ap, ◌∙◌}
use Rattle.std.proofs.lemmas.Iterator.{YieldsList-from_chars}
use Rattle.std.proofs.lemmas.Iterator.Consumers.{YieldsList-end}
use Rattle.std.proofs.lemmas.List.{map-id}
use Rattle.std.specs.List.{flat_map}
use Rattle.std.specs.Str.{chars}
use Rattle.osb_shape.specs.Places.{escaped_char}
use Rattle.osb_shape.proofs.places.escaped.Goals as goal

pub returns : goal.returns
returns c =
    let all = YieldsList-end (YieldsList-from_chars c.args.name.now c.utf8.name cc) c.loop-c.yielded _ c.loop-c.yielded_by _ _ c.in-None.is c.next.ensures.steps in
    let text : c.loop-c.yielded ≡ chars c.args.name.now = sym (map-id c.loop-c.yielded) ∙ all.0 in
    c.loop-c.invariant ∙ ap (λ cs. flat_map escaped_char cs) text
