use Rattle.std.proofs.Common.{◌≡◌, ◌++◌}
use Rattle.osb_manifest.proofs.pipelines.Pipelines.new.Given as goal

abbrev pub invariant-loop-name : goal.invariant-loop-name
invariant-loop-name l = l.by_name.entries ++ l.name-iterator.rest.items ≡ l.fn.pipelines.items
