use Rattle.std.proofs.Common.{◌≡◌, ◌+◌, drop}
use Rattle.osb_recipe.specs.Interning.{place_in}
use Rattle.osb_recipe.specs.Tables.{same_bytes}
use Rattle.osb_recipe.proofs.tables.place_of_blob.Given as goal

abbrev pub invariant-loop-place : goal.invariant-loop-place
invariant-loop-place l = l.place + place_in same_bytes (drop l.place l.blobs) l.bytes ≡ place_in same_bytes l.blobs l.bytes
