use Rattle.std.proofs.Common.{◌∙◌}
use Rattle.osb_base.proofs.Cuts.{cut_of_front}
use Rattle.osb_base.proofs.shelves.front_of.Goals as goal

pub returns-clause-front : goal.returns-clause-front
returns-clause-front c =
    c.new.ensures.content ∙ c.in_ok-front.ensures.items ∙ cut_of_front c.args.bytes.now c.min-end.result c.min-end.ensures
