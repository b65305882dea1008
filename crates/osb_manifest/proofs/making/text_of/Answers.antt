use Rattle.std.proofs.Common.{true≢false, Err, sym, ap, ◌∙◌}
use Rattle.serde_json.specs.View.{view}
use Rattle.osb_manifest.proofs.Whole.{has_float-right}
use Rattle.osb_manifest.proofs.making.text_of.Goals as goal

pub unreachable-requires : goal.unreachable-requires
unreachable-requires c =
    true≢false (sym (c.in-Err-NotWhole.ensures.not_whole (ap Err c.in-Err-NotWhole.field-0-is)) ∙ has_float-right (view c.args.value.now) c.requires)
