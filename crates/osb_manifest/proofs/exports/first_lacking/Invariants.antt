use Rattle.std.proofs.Common.{◌≡◌, not, find, drop}
use Rattle.std.specs.Map.{keys_of}
use Rattle.osb_manifest.specs.Needed.{is_among}
use Rattle.osb_manifest.proofs.exports.first_lacking.Given as goal

abbrev pub invariant-loop-name : goal.invariant-loop-name
invariant-loop-name l = find (λ name. not (is_among (keys_of l.pipelines) name)) (drop l.name-index l.exports) ≡ find (λ name. not (is_among (keys_of l.pipelines) name)) l.exports
