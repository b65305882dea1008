use Rattle.std.proofs.Common.{◌≡◌, [], ◌∙◌, arith}
use Rattle.std.proofs.lemmas.Grind.{common_steps}
use Rattle.osb_ready.proofs.Pairing.{all_paired}
use Rattle.osb_ready.proofs.preparing.items_by_digest.Goals as goal

pub returns : goal.returns
returns c =
    let empty : c.loop-bytes.bytes-iterator.rest.items ≡ [] = grind (arith, common_steps, c.loop-bytes.bytes-iterator.rest.ok, c.in-None.ensures.steps.0) in
    record { pairs = c.new-2.ensures.items ∙ all_paired _ _ _ _ empty c.loop-bytes.invariant }
