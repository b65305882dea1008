use Rattle.std.proofs.Common.{List, sym, subst}
use Rattle.osb_tree.specs.Trees.{Listing, tree_size}
use Rattle.osb_cache.specs.Caches.{CanOpen}
use Rattle.osb_cache.specs.declared.answers.Stored.{Stored}
use Rattle.osb_cases.proofs.schedules.opening.Goals as goal

pub returns-clause-can_open : goal.returns-clause-can_open
returns-clause-can_open c = λ limit small. subst (λ (entries : List (Stored Listing)). CanOpen tree_size limit entries) (sym c.into_vec.ensures.items) (c.in_ok-finished.ensures.can_open limit small)
