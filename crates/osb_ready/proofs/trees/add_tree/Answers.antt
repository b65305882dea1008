use Rattle.std.proofs.Common.{slice_get, arith}
use Rattle.std.specs.Map.{keys_of}
use Rattle.osb_ready.proofs.NamedTrees.{no_name, unnamed}
use Rattle.osb_ready.proofs.trees.add_tree.Goals as goal

pub returns-then-place-len-clause-ok : goal.returns-then-place-len-clause-ok
returns-then-place-len-clause-ok c =
    unnamed (slice_get (keys_of c.args.pipelines.now) c.args.place) c.args.outcome c.args.trees.now.items (no_name c.args.pipelines.now c.args.place (omega (arith, c.if-place-len.true, c.len.ensures.len)))
