use Rattle.std.proofs.Common.{◌≡◌, drop}
use Rattle.std.specs.List.{flat_map}
use Rattle.osb_manifest.specs.Wanted.{stage_uses, each_once}
use Rattle.osb_manifest.proofs.uses.Once.add_stages.Given as goal

-- the digests so far, with those that the stages that are left use
abbrev pub invariant-loop-stage : goal.invariant-loop-stage
invariant-loop-stage l = each_once l.self (flat_map stage_uses (drop l.stage-index l.stages)) ≡ each_once l.initial.self (flat_map stage_uses l.stages)
