use Rattle.std.proofs.Common.{sym, ◌∙◌}
use Rattle.osb_shape.proofs.Views.{is_empty_items-items_view}
use Rattle.osb_shape.proofs.values.is_empty_list.Goals as goal

pub returns : goal.returns
returns c = c.is_empty.ensures ∙ sym (is_empty_items-items_view c.args.items.now)
