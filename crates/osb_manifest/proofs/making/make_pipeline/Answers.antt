use Rattle.std.proofs.Common.{length, sym, ap, ◌∙◌}
use Rattle.osb_shape.proofs.Views.{length-list_of}
use Rattle.osb_manifest.proofs.making.make_pipeline.Goals as goal

pub returns-clause-kept : goal.returns-clause-kept
returns-clause-kept c =
    ap length c.new-stages.ensures.items ∙ c.in_ok-make_stages.ensures.kept ∙ sym (length-list_of c.list_at.result.now) ∙ ap length c.list_at.ensures.items
