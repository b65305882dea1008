use Rattle.std.proofs.Common.{sym, subst}
use Rattle.osb_base.specs.Shelves.{AreFiles}
use Rattle.osb_cases.proofs.MoreFiles.{no_file}
use Rattle.osb_cases.proofs.mirrors.items.Goals as goal

pub loop-place-init : goal.loop-place-init
loop-place-init c = subst AreFiles (sym c.new-items.ensures.items) no_file
