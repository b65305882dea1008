-- What tasks make, one after another, with the trees that were found before.
use Rattle.std.specs.Prelude.{◌≡◌, ℕ, ◌<◌, ◌∷◌, List, [], slice_get, slice_set, Option, Some, None, option_and_then}
use Rattle.osb_tree.specs.Trees.{Listing}
use Rattle.osb_tree.specs.declared.numbers.Key.{Key}
use Rattle.osb_recipe.specs.Pairs.{both}
use Rattle.osb_recipe.specs.Works.{Work, run_from, run_all}
use Rattle.osb_recipe.specs.Recipes.{Origin}
use Rattle.osb_recipe.specs.Meanings.{Found, tree_at, work_of, meanings}
use Rattle.osb_recipe.specs.Tables.{TableData, last_of}
use Rattle.osb_recipe.specs.declared.references.TreeRef.{TreeRef}
use Rattle.osb_recipe.specs.declared.references.TreeRef.TheVariants.{Empty, Of}
use Rattle.osb_recipe.specs.declared.outcomes.Outcome.{Outcome}
use Rattle.osb_recipe.specs.declared.plans.Task.{Task}
use Rattle.osb_recipe.specs.declared.outcomes.Outcome.TheVariants.{Blocked}

abbrev pub work_found : Found → List (List ℕ) → List Origin → Key → Option Work
work_found found blobs recipes key = option_and_then (work_of found blobs) (slice_get recipes key.0)

-- the stages of a chain, where all that they are made with is found
abbrev pub works_found : Found → List (List ℕ) → List Origin → List Key → Option (List Work)
works_found found blobs recipes [] = Some []
works_found found blobs recipes (key ∷ keys) = both (λ work works. work ∷ works) (work_found found blobs recipes key) (works_found found blobs recipes keys)

-- what a task makes of what is found
abbrev pub outcome_found : Found → List (List ℕ) → List Origin → List Key → Outcome
outcome_found found blobs recipes chain = run_all (works_found found blobs recipes chain)

-- what stages make from a place on, where they can run
abbrev pub run_rest : ℕ → Option (List Work) → Listing → Outcome
run_rest place None base = Blocked
run_rest place (Some works) base = run_from place works base

-- the tree of a reference is now found, if there is one
abbrev pub with_tree : TreeRef → Option Listing → Found → Found
with_tree Empty tree found = found
with_tree (Of key) tree found = slice_set found key.0 tree

-- the trees of the first tasks are found under the keys that their chains end with
abbrev pub HasTrees : TableData → List Task → ℕ → Found → Type 0
HasTrees table tasks count found =
    (number : ℕ) (task : Task) → number < count → slice_get tasks number ≡ Some task → tree_at found (last_of task.chain) ≡ tree_at (meanings table) (last_of task.chain)
