use Rattle.std.proofs.Common.{◌≡◌, ℕ, ◌<◌, ◌||◌, false, drop, length, slice_index_or}
use Rattle.std.specs.List.{flat_map}
use Rattle.osb_manifest.specs.Needed.{inputs_need, has_place}
use Rattle.osb_manifest.proofs.exports.flag_stages.Given as goal

-- the flags, and what the stages that are left need
abbrev pub invariant-loop-stage : goal.invariant-loop-stage
invariant-loop-stage l =
    (k : ℕ) → k < length l.flags → (slice_index_or l.flags k false || has_place (flat_map (λ stage. inputs_need stage.inputs) (drop l.stage-index l.stages)) k) ≡ (slice_index_or l.initial.flags k false || has_place (flat_map (λ stage. inputs_need stage.inputs) l.stages) k)
