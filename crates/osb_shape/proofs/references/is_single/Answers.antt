use Rattle.std.proofs.Common.{refl}
use Rattle.osb_shape.proofs.Views.{is_single-counted}
use Rattle.osb_shape.proofs.references.is_single.Goals as goal

pub returns : goal.returns
returns c = record { single = is_single-counted _ c.len.result c.args.members.now.entries c.len.ensures.len refl }
