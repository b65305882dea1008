use Rattle.std.proofs.Common.{◌≡◌, drop}
use Rattle.std.specs.Map.{keys_of}
use Rattle.osb_manifest.specs.Wanted.{each_once}
use Rattle.osb_manifest.proofs.uses.Once.add_items.Given as goal

-- the digests so far, with those of the items that are left
abbrev pub invariant-loop-digest : goal.invariant-loop-digest
invariant-loop-digest l = each_once l.self (keys_of (drop l.digest-index l.files)) ≡ each_once l.initial.self (keys_of l.files)
