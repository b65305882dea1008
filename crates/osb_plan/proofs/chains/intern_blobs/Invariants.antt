use Rattle.std.proofs.Common.{◌≡◌, drop}
use Rattle.std.specs.Map.{values_of}
use Rattle.osb_recipe.specs.Interning.{interned_all}
use Rattle.osb_recipe.specs.Tables.{same_bytes}
use Rattle.osb_plan.proofs.chains.intern_blobs.Given as goal

abbrev pub invariant-loop-bytes : goal.invariant-loop-bytes
invariant-loop-bytes l = record {
  recipes : l.table.recipes ≡ l.fn.table.recipes;
  blobs : interned_all same_bytes l.table.blobs (values_of (drop l.bytes-index l.gathered)) ≡ interned_all same_bytes l.fn.table.blobs (values_of l.gathered);
}
