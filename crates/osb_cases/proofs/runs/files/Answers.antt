use Rattle.std.proofs.Common.{sym, subst}
use Rattle.osb_base.specs.Shelves.{AreFiles}
use Rattle.osb_cases.proofs.MoreFiles.{no_file}
use Rattle.osb_cases.proofs.runs.files.Goals as goal

pub loop-entry-init : goal.loop-entry-init
loop-entry-init c = subst AreFiles (sym c.new-files.ensures.items) no_file
