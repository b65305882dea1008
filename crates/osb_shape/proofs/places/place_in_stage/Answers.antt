use Rattle.std.proofs.Common.{◌∙◌}
use Rattle.std.proofs.lemmas.List.{append-nil}
use Rattle.osb_shape.proofs.places.place_in_stage.Goals as goal

pub returns : goal.returns
returns c = record { place = c.from.ensures ∙ c.in_ok-format.ensures.ok ∙ simp append-nil }
