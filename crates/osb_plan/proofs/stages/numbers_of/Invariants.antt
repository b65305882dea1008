use Rattle.std.proofs.Common.{◌≡◌, ◌++◌, drop, map}
use Rattle.osb_recipe.specs.Interning.{place_in}
use Rattle.osb_recipe.specs.Tables.{same_bytes}
use Rattle.osb_manifest.specs.Solo.{items_given}
use Rattle.osb_plan.proofs.stages.numbers_of.Given as goal

abbrev pub invariant-loop-digest : goal.invariant-loop-digest
invariant-loop-digest l =
    l.numbers.items ++ map (place_in same_bytes l.table.blobs) (items_given l.gathered (drop l.digest-index l.files)) ≡ map (place_in same_bytes l.table.blobs) (items_given l.gathered l.files)
