use Rattle.std.proofs.Common.{◌≡◌, ℕ, ◌<◌, ◌||◌, false, drop, length, slice_index_or}
use Rattle.osb_manifest.specs.Needed.{inputs_need, has_place}
use Rattle.osb_manifest.proofs.exports.flag_inputs.Given as goal

-- the flags, and what the inputs that are left need
abbrev pub invariant-loop-input : goal.invariant-loop-input
invariant-loop-input l =
    (k : ℕ) → k < length l.flags → (slice_index_or l.flags k false || has_place (inputs_need (drop l.input-index l.inputs)) k) ≡ (slice_index_or l.initial.flags k false || has_place (inputs_need l.inputs) k)
