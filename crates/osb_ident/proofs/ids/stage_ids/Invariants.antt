use Rattle.std.proofs.Common.{◌≡◌, [], take}
use Rattle.std.specs.Map.{values_of}
use Rattle.osb_ident.specs.Idents.{ids_after}
use Rattle.osb_ident.proofs.ids.stage_ids.Given as goal

abbrev pub invariant-loop-place : goal.invariant-loop-place
invariant-loop-place l = l.ids.items ≡ ids_after [] (take l.place (values_of l.manifest.pipelines))
