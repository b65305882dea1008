use Rattle.osb_shape.proofs.Views.{length-list_of}
use Rattle.osb_shape.proofs.values.is_longer.Goals as goal

pub returns : goal.returns
returns c = record { longer = rw (length-list_of c.args.items.now) }
