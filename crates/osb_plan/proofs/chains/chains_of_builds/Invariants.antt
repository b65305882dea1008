use Rattle.std.proofs.Common.{◌≡◌, ◌++◌, drop}
use Rattle.osb_plan.specs.Planning.{chains_of_builds, table_with_builds}
use Rattle.osb_plan.proofs.chains.chains_of_builds.Given as goal

abbrev pub invariant-loop-build : goal.invariant-loop-build
invariant-loop-build l = record {
  chains : l.chains.items ++ chains_of_builds l.table (drop l.build-index l.builds) ≡ chains_of_builds l.fn.table l.builds;
  table : table_with_builds l.table (drop l.build-index l.builds) ≡ table_with_builds l.fn.table l.builds;
}
