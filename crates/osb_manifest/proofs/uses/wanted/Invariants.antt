use Rattle.std.proofs.Common.{◌≡◌, drop}
use Rattle.osb_manifest.specs.Wanted.{uses, each_once, wanted}
use Rattle.osb_manifest.proofs.uses.wanted.Given as goal

-- the digests so far, with those that the pipelines at the places that are left use
abbrev pub invariant-loop-place : goal.invariant-loop-place
invariant-loop-place l = each_once l.once (uses l.manifest (drop l.place-index l.needed)) ≡ wanted l.manifest l.needed
