use Rattle.std.proofs.Common.{◌≡◌, take}
use Rattle.osb_ident.specs.Marks.{manifest_marks}
use Rattle.osb_ident.proofs.checkpoints.marks.Given as goal

abbrev pub invariant-loop-place : goal.invariant-loop-place
invariant-loop-place l = l.marks.items ≡ take l.place (manifest_marks l.manifest l.ids.stages l.checkpoints)
