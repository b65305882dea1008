use Rattle.std.proofs.Common.{List, sym, subst}
use Rattle.osb_tree.specs.Trees.{Listing, tree_size}
use Rattle.osb_cache.specs.Caches.{CanOpen}
use Rattle.osb_cache.specs.declared.answers.Stored.{Stored}
use Rattle.osb_crews.proofs.runs.run_twice.Goals as goal

pub run_once-requires-2-clause-can_open : goal.run_once-requires-2-clause-can_open
run_once-requires-2-clause-can_open g c κs within = λ limit small.
    subst (λ (entries : List (Stored Listing)). CanOpen tree_size limit entries) (sym c.into_vec.ensures.items) (c.in_ok-first.ensures.can_open limit small)
