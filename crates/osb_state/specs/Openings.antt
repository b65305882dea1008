-- The shared state before the first action.
use Rattle.std.specs.Prelude.{ℕ, ◌-◌, List, [], length, map}
use Rattle.osb_tree.specs.Trees.{Listing, tree_size}
use Rattle.osb_recipe.specs.declared.plans.Plan.{Plan}
use Rattle.osb_board.specs.Boards.{new_board}
use Rattle.osb_cache.specs.declared.answers.Stored.{Stored}
use Rattle.osb_cache.specs.Caches.{CacheState, counted, opened}
use Rattle.osb_state.specs.declared.opened.Opened.{Opened}
use Rattle.osb_state.specs.States.{State}

-- what is left of these entries
abbrev pub opened_of : CacheState Listing → List (Stored Listing) → Opened
opened_of cache entries = record {
  kept = length cache.lines;
  bytes = counted cache;
  evicted = length entries - length cache.lines;
}

abbrev pub opened_state : Plan → List (Stored Listing) → ℕ → State
opened_state plan entries limit = record {
  cache = opened tree_size limit entries;
  board = new_board (map (λ task. task.deps) plan.tasks);
  marked = map (λ task. task.marked) plan.tasks;
  keys = length plan.table.recipes;
  opened = opened_of (opened tree_size limit entries) entries;
  log = [];
}
