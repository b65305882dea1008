use Rattle.osb_shape.proofs.Views.{is_empty_members-decides}
use Rattle.osb_shape.proofs.values.is_empty_object.Goals as goal

pub returns : goal.returns
returns c = is_empty_members-decides c.is_empty.result c.args.members.now.entries c.is_empty.ensures
