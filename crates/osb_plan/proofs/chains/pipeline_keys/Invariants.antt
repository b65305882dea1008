use Rattle.std.proofs.Common.{◌≡◌, ◌≤◌, ◌++◌, length, drop}
use Rattle.osb_recipe.specs.Recipes.{IsRefBelow}
use Rattle.osb_recipe.specs.declared.references.TreeRef.TheVariants.{Empty}
use Rattle.osb_plan.specs.Planning.{stage_recipe, keys_of_stages, table_with_stages}
use Rattle.osb_plan.proofs.chains.pipeline_keys.Given as goal

abbrev pub invariant-loop-stage : goal.invariant-loop-stage
invariant-loop-stage l = record {
  keys : l.keys.items ++ keys_of_stages (stage_recipe l.gathered l.chains l.fn.table.blobs l.pipeline.build) l.base l.table (drop l.stage-index l.pipeline.stages)
      ≡ keys_of_stages (stage_recipe l.gathered l.chains l.fn.table.blobs l.pipeline.build) Empty l.fn.table l.pipeline.stages;
  table : table_with_stages (stage_recipe l.gathered l.chains l.fn.table.blobs l.pipeline.build) l.base l.table (drop l.stage-index l.pipeline.stages)
      ≡ table_with_stages (stage_recipe l.gathered l.chains l.fn.table.blobs l.pipeline.build) Empty l.fn.table l.pipeline.stages;
  blobs : l.table.blobs ≡ l.fn.table.blobs;
  grown : length l.fn.table.recipes ≤ length l.table.recipes;
  base : IsRefBelow (length l.table.recipes) l.base;
}
