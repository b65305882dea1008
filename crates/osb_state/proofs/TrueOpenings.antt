-- A state over a true opening is true.
use Rattle.std.proofs.Common.{◌≡◌, ℕ, zero, suc, ◌+◌, ◌-◌, ◌<◌, ◌==◌, Bool, true, false, cond, List, [], ◌∷◌, length, map, All, sum_by, Option, Some, None, refl, sym, ap, subst, ◌∙◌, arith, inl, inr}
use Rattle.std.specs.Prelude.{slice_get, option_and_then}
use Rattle.std.specs.List.{slice_index_or}
use Rattle.std.specs.Option.{option_map_or}
use Rattle.std.proofs.lemmas.List.Elements.{All-nil, All-cons, All-head, All-tail, All-weaker}
use Rattle.std.proofs.lemmas.List.Sums.{sum_by-cons}
use Rattle.std.proofs.lemmas.Option.{none-some, slice_get_cases}
use Rattle.osb_tree.specs.Trees.{Listing, tree_size}
use Rattle.osb_tree.specs.Chunks.{AreOfATree}
use Rattle.osb_tree.specs.declared.numbers.Key.{Key}
use Rattle.osb_tree.specs.declared.numbers.TaskNo.{TaskNo}
use Rattle.osb_recipe.specs.Meanings.{meanings, meaning}
use Rattle.osb_recipe.specs.Plans.{IsSound}
use Rattle.osb_recipe.specs.Tables.{TableData, IsTable}
use Rattle.osb_recipe.specs.declared.outcomes.Outcome.{Outcome}
use Rattle.osb_recipe.specs.declared.plans.Task.{Task}
use Rattle.osb_recipe.specs.declared.plans.Plan.{Plan}
use Rattle.osb_recipe.proofs.Meanings.{length-meanings}
use Rattle.osb_board.specs.declared.tasks.Task.{Task as BoardTask}
use Rattle.osb_board.specs.Boards.{is_run_by, state_at, outcome_at, new_board, AreLower}
use Rattle.osb_board.proofs.Kept.{IsBoard-new_board}
use Rattle.osb_tree.proofs.ChunkLaws.{chunks_give_the_tree}
use Rattle.osb_meanings.proofs.Meanings.{meanings_law}
use Rattle.osb_cache.specs.Caches.{Line, pins_in, pins_on, sizes, evict, opening_line, opening_lines, CanOpen}
use Rattle.osb_cache.specs.declared.answers.Stored.{Stored}
use Rattle.osb_cache.proofs.Evicts.{All-evict, sum-evict-le}
use Rattle.osb_cache.proofs.Kept.{sound-opened}
use Rattle.osb_state.specs.Kept.{IsEntry, Valid}
use Rattle.osb_state.specs.Openings.{opened_state}
use Rattle.osb_state.specs.Truth.{AreMeant, IsMeantDraft, IsTrueOpening, TrueOpens}

-- ---- entries

pub known_key : (table : TableData) (key : Key) (tree : Listing) → meaning table key ≡ Some tree → key.0 < length table.recipes
known_key table key tree means = elim (slice_get_cases (meanings table) key.0).1 [
  | inl held ↦ (let within = held.1 in omega (arith, length-meanings table))
  | inr past ↦ absurd (none-some tree (ap (λ (found : Option (Option Listing)). option_and_then (λ tree. tree) found) (sym past.1) ∙ means))
]

-- an entry with the chunks that its key means
abbrev pub IsMeantLine : Plan → Line Listing → Type 0
IsMeantLine plan line = AreMeant plan line.key line.chunks

pub entry_meant : (plan : Plan) (line : Line Listing) → IsSound plan → IsTable plan.table → IsMeantLine plan line → IsEntry (length plan.table.recipes) line
entry_meant plan line sound table meant =
    let within = meanings_law plan.table (record { 0 = line.key }) meant.tree table meant.means in
    record {
      known = known_key plan.table (record { 0 = line.key }) meant.tree meant.means;
      tree = subst AreOfATree (sym meant.all) (chunks_give_the_tree meant.tree within.tree within.limits);
    }

meant_lines : (plan : Plan) (first : ℕ) (opening : List (Stored Listing)) → IsTrueOpening plan opening → All (IsMeantLine plan) (opening_lines tree_size first opening)
meant_lines plan first [] all = All-nil (IsMeantLine plan)
meant_lines plan first (stored ∷ rest) all =
    let P : Stored Listing → Type 0 = λ stored. AreMeant plan stored.key.0 stored.chunks in
    All-cons (IsMeantLine plan) (opening_line tree_size first stored) (opening_lines tree_size (first + 1) rest) (All-head P stored rest all) (meant_lines plan (first + 1) rest (All-tail P stored rest all))

pins_of : ℕ → ℕ → Line Listing → ℕ
pins_of worker key line = cond (line.key == key) (pins_in worker line) 0

abbrev if_so : Bool → ℕ → ℕ
if_so b n = cond b n 0

no_pin : (b : Bool) → if_so b 0 ≡ 0
no_pin true = refl
no_pin false = refl

none_pinned : (worker key first : ℕ) (opening : List (Stored Listing)) → sum_by (pins_of worker key) (opening_lines tree_size first opening) ≡ 0
unfolding pins_of
none_pinned worker key first [] = refl
none_pinned worker key first (stored ∷ rest) =
    omega (arith, sum_by-cons (pins_of worker key) (opening_line tree_size first stored) (opening_lines tree_size (first + 1) rest), no_pin (stored.key.0 == key), none_pinned worker key (first + 1) rest)

unpinned : (worker key excess : ℕ) (opening : List (Stored Listing)) → pins_on worker key (evict excess (opening_lines tree_size 1 opening)) ≡ 0
unfolding pins_of
unpinned worker key excess opening = omega (arith, none_pinned worker key 1 opening, sum-evict-le (pins_of worker key) excess (opening_lines tree_size 1 opening))

-- ---- the board

pub by_number : {X : Type 0} (f : X → List TaskNo) (xs : List X) (number : ℕ) → option_map_or f (slice_get xs number) [] ≡ slice_index_or (map f xs) number []
by_number f [] number = refl
by_number f (x ∷ xs) zero = refl
by_number f (x ∷ xs) (suc number) = by_number f xs number

are_lower : (plan : Plan) → IsSound plan → AreLower (map (λ task. task.deps) plan.tasks)
are_lower plan sound number = subst (All (λ dep. dep.0 < number)) (by_number (λ (t : Task). t.deps) plan.tasks number) (by (slice_get plan.tasks number) refl)
  where
    by : (there : Option Task) → slice_get plan.tasks number ≡ there → All (λ dep. dep.0 < number) (option_map_or (λ (t : Task). t.deps) there [])
    by None at = All-nil (λ dep. dep.0 < number)
    by (Some task) at = (sound.tasks number task at).lower

new_deps : (deps : List (List TaskNo)) → map (λ (task : BoardTask Outcome). task.deps) (new_board deps) ≡ deps
new_deps [] = refl
new_deps (one ∷ deps) = ap (λ (rest : List (List TaskNo)). one ∷ rest) (new_deps deps)

new_runs : (deps : List (List TaskNo)) (worker task : ℕ) → state_at {O = Outcome} (is_run_by worker) (new_board deps) task ≡ false
new_runs [] worker task = refl
new_runs (one ∷ deps) worker zero = refl
new_runs (one ∷ deps) worker (suc task) = new_runs deps worker task

new_ends : (deps : List (List TaskNo)) (task : ℕ) → outcome_at {O = Outcome} (new_board deps) task ≡ None
new_ends [] task = refl
new_ends (one ∷ deps) zero = refl
new_ends (one ∷ deps) (suc task) = new_ends deps task

-- ---- the state

opens_valid : (plan : Plan) (opening : List (Stored Listing)) (limit : ℕ) → IsSound plan → IsTable plan.table → CanOpen tree_size limit opening → IsTrueOpening plan opening → Valid (opened_state plan opening limit)
opens_valid plan opening limit sound table can true_opening =
    let lines : List (Line Listing) = opening_lines tree_size 1 opening in
    let excess : ℕ = sizes lines - limit in
    let deps : List (List TaskNo) = map (λ task. task.deps) plan.tasks in
    record {
      sound = sound-opened tree_size limit opening can;
      clocked = omega arith;
      entries = All-weaker (IsMeantLine plan) (IsEntry (length plan.table.recipes)) (λ line. entry_meant plan line sound table) (evict excess lines) (All-evict (IsMeantLine plan) excess lines (meant_lines plan 1 opening true_opening));
      drafts = All-nil (λ draft. draft.key < length plan.table.recipes);
      pinned = λ worker key. unpinned worker key excess opening;
      drafted = λ worker key. refl;
      put = λ worker key. refl;
      board_is = IsBoard-new_board Outcome deps (are_lower plan sound);
      running = new_runs deps;
    }

pub true_opens : TrueOpens
true_opens plan opening limit sound table can true_opening =
    let lines : List (Line Listing) = opening_lines tree_size 1 opening in
    let deps : List (List TaskNo) = map (λ task. task.deps) plan.tasks in
    record {
      valid = opens_valid plan opening limit sound table can true_opening;
      deps = new_deps deps;
      marked = refl;
      keys = refl;
      entries = All-evict (IsMeantLine plan) (sizes lines - limit) lines (meant_lines plan 1 opening true_opening);
      drafts = All-nil (IsMeantDraft plan);
      ends = λ task outcome at. absurd (none-some outcome (sym (new_ends deps task) ∙ at));
      told = λ worker block at. absurd (cc);
    }
