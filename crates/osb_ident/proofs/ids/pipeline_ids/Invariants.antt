use Rattle.std.proofs.Common.{◌≡◌, None, take}
use Rattle.std.specs.Prelude.{option_copied}
use Rattle.osb_ident.specs.Idents.{ids_from}
use Rattle.osb_ident.proofs.ids.pipeline_ids.Given as goal

abbrev pub invariant-loop-stage : goal.invariant-loop-stage
invariant-loop-stage l = l.own.items ≡ ids_from l.ids (option_copied l.build) None (take l.stage-index l.stage-items)
