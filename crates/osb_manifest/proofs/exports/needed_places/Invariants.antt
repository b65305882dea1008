use Rattle.std.proofs.Common.{◌≡◌, ℕ, ◌<◌, drop, length, false, reverse, slice_index_or}
use Rattle.osb_manifest.specs.Needed.{is_needed_by, needed_from, places_of}
use Rattle.osb_manifest.proofs.exports.needed_places.Given as goal

-- what the pipelines from a place on need
abbrev pub invariant-loop-place : goal.invariant-loop-place
invariant-loop-place l = record {
  flagged : (k : ℕ) → k < length l.flags.items → slice_index_or l.flags.items k false ≡ is_needed_by (needed_from l.exports l.place (drop l.place l.pipelines)) k;
  found : reverse l.places.items ≡ places_of (needed_from l.exports l.place (drop l.place l.pipelines));
  each : length l.flags.items ≡ length l.pipelines;
}
