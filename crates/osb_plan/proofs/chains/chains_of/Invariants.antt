use Rattle.std.proofs.Common.{◌≡◌, [], length, drop}
use Rattle.std.specs.Map.{values_of}
use Rattle.osb_plan.specs.Planning.{chains_after, table_after}
use Rattle.osb_plan.specs.Held.{HasBlobs, AreEndsBelow}
use Rattle.osb_plan.proofs.chains.chains_of.Given as goal

abbrev pub invariant-loop-place : goal.invariant-loop-place
invariant-loop-place l = record {
  chains : chains_after (values_of l.build.manifest.pipelines) l.build.blobs l.table l.chains.items (drop l.place-index l.places) ≡ chains_after (values_of l.build.manifest.pipelines) l.build.blobs l.fn.table [] l.places;
  table : table_after (values_of l.build.manifest.pipelines) l.build.blobs l.table l.chains.items (drop l.place-index l.places) ≡ table_after (values_of l.build.manifest.pipelines) l.build.blobs l.fn.table [] l.places;
  held : HasBlobs l.table.blobs l.build.blobs;
  below : AreEndsBelow (length l.table.recipes) l.chains.items;
}
