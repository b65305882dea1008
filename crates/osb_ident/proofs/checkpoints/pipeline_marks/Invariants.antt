use Rattle.std.proofs.Common.{◌≡◌, take}
use Rattle.osb_ident.specs.Marks.{marks_of}
use Rattle.osb_ident.proofs.checkpoints.pipeline_marks.Given as goal

abbrev pub invariant-loop-place : goal.invariant-loop-place
invariant-loop-place l = l.marks.items ≡ take l.place (marks_of l.checkpoints l.name l.ids)
