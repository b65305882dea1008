-- Where a dependency of a task has no tree, the task is meant to be blocked: its chain is built with that tree.
use Rattle.std.proofs.Common.{◌≡◌, ◌==◌, arith, ℕ, zero, suc, Bool, true, false, cond, not, List, [], ◌∷◌, ◌++◌, length, map, filter, Option, Some, None, ◌⊎◌, inl, inr, refl, sym, ap, ◌∙◌}
use Rattle.std.specs.Prelude.{slice_get, option_map, option_and_then}
use Rattle.std.specs.Option.{option_map_or}
use Rattle.std.specs.List.{list_any, flat_map, range_with_len}
use Rattle.std.proofs.lemmas.Bool.{false≢true, eqb-true, or_cases, or_parts}
use Rattle.std.proofs.lemmas.List.Folds.{list_any-append}
use Rattle.std.proofs.lemmas.Option.{same_Some, slice_get_cases, slice_get_within}
use Rattle.osb_tree.specs.Trees.{Listing}
use Rattle.osb_tree.specs.declared.numbers.Key.{Key}
use Rattle.osb_tree.specs.declared.numbers.TaskNo.{TaskNo}
use Rattle.osb_recipe.specs.Pairs.{both}
use Rattle.osb_recipe.specs.Works.{Given, a_tree, Work, tree_of, run_all}
use Rattle.osb_recipe.specs.Recipes.{Origin}
use Rattle.osb_recipe.specs.Tables.{TableData, IsTable, last_of}
use Rattle.osb_recipe.specs.Meanings.{Found, tree_at, build_at, input_at, inputs_at, work_of, work_at, works_at, meanings, meant}
use Rattle.osb_recipe.specs.Plans.{ref_keys, build_keys, input_keys, recipe_needs, needs_of, has_key, ends_with, no_of, ends_task, chains_of, IsSound}
use Rattle.osb_recipe.specs.declared.references.TreeRef.{TreeRef}
use Rattle.osb_recipe.specs.declared.references.TreeRef.TheVariants.{Empty, Of}
use Rattle.osb_recipe.specs.declared.references.InputRecipe.{InputRecipe}
use Rattle.osb_recipe.specs.declared.references.InputRecipe.TheVariants.{Tree, Files}
use Rattle.osb_recipe.specs.declared.outcomes.Outcome.{Outcome}
use Rattle.osb_recipe.specs.declared.outcomes.Outcome.TheVariants as outcomes
use Rattle.osb_recipe.specs.declared.plans.Task.{Task}
use Rattle.osb_recipe.specs.declared.plans.Plan.{Plan}
use Rattle.osb_recipe.proofs.Chains.{last_key_law}
use Rattle.osb_board.specs.Boards.{outcome_at}
use Rattle.osb_job.specs.declared.entries.Word.{Word}
use Rattle.osb_job.specs.Scripts.{Block, word_of, is_tree, is_no_memory, chain_at, deps_at}
use Rattle.osb_job.proofs.PlanTasks.{linked_at}
use Rattle.osb_state.specs.States.{State}
use Rattle.osb_state.specs.Truth.{IsEnd, IsTold}

-- ---- a stage that is made with a key that means nothing

both_none : {A B C : Type 0} (f : A → B → C) (first : Option A) → both f first None ≡ None
both_none f None = refl
both_none f (Some a) = refl

module _ (found : Found) (key : Key) (nothing : tree_at found (Of key) ≡ None) where
  no_ref : (ref : TreeRef) → has_key (ref_keys ref) key ≡ true → tree_at found ref ≡ None
  no_ref Empty has = absurd (false≢true has)
  no_ref (Of other) has = elim (or_cases (other.0 == key.0) false has) [
    | inl same ↦ ap (λ (n : ℕ). option_and_then (λ (tree : Option Listing). tree) (slice_get found n)) (eqb-true other.0 key.0 same) ∙ nothing
    | inr none ↦ absurd (false≢true none)
  ]

  no_build : (build : Option TreeRef) → has_key (build_keys build) key ≡ true → build_at found build ≡ None
  no_build None has = absurd (false≢true has)
  no_build (Some ref) has = ap (λ (tree : Option Listing). option_map (λ (one : Listing). Some one) tree) (no_ref ref has)

  no_input : (blobs : List (List ℕ)) (input : InputRecipe) → has_key (input_keys input) key ≡ true → input_at found blobs input ≡ None
  no_input blobs (Tree ref) has = ap (option_map a_tree) (no_ref ref has)
  no_input blobs (Files numbers) has = absurd (false≢true has)

abbrev keys_of_input : List ℕ × InputRecipe → List Key
keys_of_input input = input_keys input.1

split_keys : (first more : List Key) (key : Key) → has_key (first ++ more) key ≡ true → (has_key first key ≡ true) ⊎ (has_key more key ≡ true)
split_keys first more key has = or_cases (has_key first key) (has_key more key) (sym (list_any-append (λ (held : Key). held.0 == key.0) first more) ∙ has)

no_inputs : (found : Found) (key : Key) (blobs : List (List ℕ)) (inputs : List (List ℕ × InputRecipe)) → tree_at found (Of key) ≡ None → has_key (flat_map keys_of_input inputs) key ≡ true → inputs_at found blobs inputs ≡ None
no_inputs found key blobs [] nothing has = absurd (false≢true has)
no_inputs found key blobs (input ∷ inputs) nothing has =
    let join = λ (given : Given) (others : List (List ℕ × Given)). (input.0, given) ∷ others in
    elim (split_keys (input_keys input.1) (flat_map keys_of_input inputs) key has) [
      | inl here ↦ ap (λ (one : Option Given). both join one (inputs_at found blobs inputs)) (no_input found key nothing blobs input.1 here)
      | inr later ↦ ap (both join (input_at found blobs input.1)) (no_inputs found key blobs inputs nothing later) ∙ both_none join (input_at found blobs input.1)
    ]

no_work : (found : Found) (key : Key) (blobs : List (List ℕ)) (recipe : Origin) → tree_at found (Of key) ≡ None → has_key (recipe_needs (Some recipe)) key ≡ true → work_of found blobs recipe ≡ None
no_work found key blobs recipe nothing has =
    let join = λ (build : Option Listing) (inputs : List (List ℕ × Given)). let work : Work = record { kind = recipe.kind; build = build; inputs = inputs } in work in
    elim (split_keys (build_keys recipe.build) (flat_map keys_of_input recipe.inputs) key has) [
      | inl here ↦ ap (λ (build : Option (Option Listing)). both join build (inputs_at found blobs recipe.inputs)) (no_build found key nothing recipe.build here)
      | inr later ↦ ap (both join (build_at found recipe.build)) (no_inputs found key blobs recipe.inputs nothing later) ∙ both_none join (build_at found recipe.build)
    ]

no_work_there : (found : Found) (key : Key) (blobs : List (List ℕ)) (there : Option Origin) → tree_at found (Of key) ≡ None → has_key (recipe_needs there) key ≡ true → option_and_then (work_of found blobs) there ≡ None
no_work_there found key blobs None nothing has = absurd (false≢true has)
no_work_there found key blobs (Some recipe) nothing has = no_work found key blobs recipe nothing has

no_works : (table : TableData) (key : Key) (chain : List Key) → tree_at (meanings table) (Of key) ≡ None → has_key (needs_of table chain) key ≡ true → works_at table chain ≡ None
no_works table key [] nothing has = absurd (false≢true has)
no_works table key (first ∷ chain) nothing has =
    let join = λ (work : Work) (works : List Work). work ∷ works in
    elim (split_keys (recipe_needs (slice_get table.recipes first.0)) (needs_of table chain) key has) [
      | inl here ↦ ap (λ (work : Option Work). both join work (works_at table chain)) (no_work_there (meanings table) key table.blobs (slice_get table.recipes first.0) nothing here)
      | inr later ↦ ap (both join (work_at table first)) (no_works table key chain nothing later) ∙ both_none join (work_at table first)
    ]

-- ---- the dependencies of a task

passes_step : (p : ℕ → Bool) (x : ℕ) (xs : List ℕ) (dep : TaskNo) (b : Bool) (place : ℕ) → ((n : ℕ) → slice_get (map no_of (filter p xs)) n ≡ Some dep → p dep.0 ≡ true) → p x ≡ b
    → slice_get (map no_of (cond b (x ∷ filter p xs) (filter p xs))) place ≡ Some dep → p dep.0 ≡ true
passes_step p x xs dep true zero later e at = ap (λ (task : TaskNo). p task.0) (sym (same_Some (no_of x) dep at)) ∙ e
passes_step p x xs dep true (suc place) later e at = later place at
passes_step p x xs dep false place later e at = later place at

passes_at : (p : ℕ → Bool) (xs : List ℕ) (dep : TaskNo) (place : ℕ) → slice_get (map no_of (filter p xs)) place ≡ Some dep → p dep.0 ≡ true
passes_at p [] dep place at = absurd (cc)
passes_at p (x ∷ xs) dep place at = passes_step p x xs dep (p x) place (passes_at p xs dep) refl at

ends_chain : (tasks : List Task) (keys : List Key) (number : ℕ) → ends_task (chains_of tasks) keys number ≡ true → ends_with keys (last_of (option_map_or (λ (t : Task). t.chain) (slice_get tasks number) [])) ≡ true
ends_chain [] keys number ends = absurd (false≢true ends)
ends_chain (task ∷ tasks) keys zero ends = ends
ends_chain (task ∷ tasks) keys (suc number) ends = ends_chain tasks keys number ends

ends_key : (keys : List Key) (ref : TreeRef) → ends_with keys ref ≡ true → (key : Key) × (ref ≡ Of key) × (has_key keys key ≡ true)
ends_key keys Empty ends = absurd (false≢true ends)
ends_key keys (Of key) ends = (key, refl, ends)

-- a task is built with each of its dependencies
dep_needed : (plan : Plan) (task dep : TaskNo) (place : ℕ) → IsSound plan → slice_get (deps_at plan task) place ≡ Some dep → ends_with (needs_of plan.table (chain_at plan task)) (last_of (chain_at plan dep)) ≡ true
dep_needed plan task dep place sound at = by (slice_get plan.tasks task.0) refl at
  where
    by : (there : Option Task) → slice_get plan.tasks task.0 ≡ there → slice_get (option_map_or (λ (t : Task). t.deps) there []) place ≡ Some dep
        → ends_with (needs_of plan.table (option_map_or (λ (t : Task). t.chain) there [])) (last_of (chain_at plan dep)) ≡ true
    by None is found = absurd (cc)
    by (Some t) is found =
        let chains = chains_of plan.tasks in
        let needs = needs_of plan.table t.chain in
        let deps = (sound.tasks task.0 t is).deps in
        ends_chain plan.tasks needs dep.0 (passes_at (ends_task chains needs) (range_with_len 0 (length chains)) dep place (ap (λ (all : List TaskNo). slice_get all place) (sym deps) ∙ found))

pub blocked_is_meant : (plan : Plan) (task dep : TaskNo) (place : ℕ) → IsSound plan → IsTable plan.table → slice_get (deps_at plan task) place ≡ Some dep → tree_of (meant plan.table (chain_at plan dep)) ≡ None → meant plan.table (chain_at plan task) ≡ outcomes.Blocked
blocked_is_meant plan task dep place sound table at nothing =
    let chain = chain_at plan dep in
    let needs = needs_of plan.table (chain_at plan task) in
    let end = ends_key needs (last_of chain) (dep_needed plan task dep place sound at) in
    let none : tree_at (meanings plan.table) (Of end.0) ≡ None = ap (tree_at (meanings plan.table)) (sym end.1) ∙ sym (last_key_law plan.table chain table (linked_at plan dep sound)) ∙ nothing in
    ap run_all (no_works plan.table end.0 (chain_at plan task) none end.2)

-- ---- what a worker was told

any_at : {X : Type 0} (p : X → Bool) (xs : List X) → list_any p xs ≡ true → (place : ℕ) × (x : X) × (slice_get xs place ≡ Some x) × (p x ≡ true)
any_at p [] any = absurd (false≢true any)
any_at {X} p (x ∷ xs) any = elim (or_cases (p x) (list_any p xs) any) [
  | inl here ↦ (zero, x, refl, here)
  | inr later ↦
      let rest = any_at p xs later in
      (suc rest.0, rest.1, rest.2, rest.3)
]

none_at : {X : Type 0} (p : X → Bool) (xs : List X) (place : ℕ) (x : X) → list_any p xs ≡ false → slice_get xs place ≡ Some x → p x ≡ false
none_at p [] place x none at = absurd (cc)
none_at p (y ∷ xs) zero x none at = ap p (sym (same_Some y x at)) ∙ (or_parts (p y) (list_any p xs) none).0
none_at p (y ∷ xs) (suc place) x none at = none_at p xs place x (or_parts (p y) (list_any p xs) none).1 at

untree : (means outcome : Outcome) → (outcome ≡ means) ⊎ (outcome ≡ outcomes.NoMemory) → is_no_memory (word_of outcome) ≡ false → not (is_tree (word_of outcome)) ≡ true → tree_of means ≡ None
untree means (outcomes.Tree tree) told memory without = absurd (false≢true without)
untree means (outcomes.Fault run fault) (inl is) memory without = ap tree_of (sym is)
untree means (outcomes.Fault run fault) (inr is) memory without = absurd (cc)
untree means outcomes.Blocked (inl is) memory without = ap tree_of (sym is)
untree means outcomes.Blocked (inr is) memory without = absurd (cc)
untree means outcomes.NoMemory told memory without = absurd (false≢true (sym memory))

-- where all ends are those that are meant, a fetched word that is no tree says that the task is meant to be blocked
pub told_blocked : (plan : Plan) (state : State) (block : Block) → IsSound plan → IsTable plan.table → ((task : ℕ) (outcome : Outcome) → outcome_at state.board task ≡ Some outcome → IsEnd plan task outcome) → IsTold plan state block
    → list_any is_no_memory block.words ≡ false → list_any (λ word. not (is_tree word)) block.words ≡ true → meant plan.table (chain_at plan block.task) ≡ outcomes.Blocked
told_blocked plan state block sound table ends told memory without =
    let bad : (place : ℕ) × (word : Word) × (slice_get block.words place ≡ Some word) × (not (is_tree word) ≡ true) = any_at (λ (word : Word). not (is_tree word)) block.words without in
    let fine : is_no_memory bad.1 ≡ false = none_at is_no_memory block.words bad.0 bad.1 memory bad.2 in
    elim (slice_get_cases (deps_at plan block.task) bad.0).1 [
      | inl held ↦
          let end = told.words bad.0 held.0 bad.1 held.2 bad.2 in
          blocked_is_meant plan block.task held.0 bad.0 sound table held.2
          (untree (meant plan.table (chain_at plan held.0)) end.0 (ends held.0.0 end.0 end.1) (ap is_no_memory (sym end.2) ∙ fine) (ap (λ (word : Word). not (is_tree word)) (sym end.2) ∙ bad.3))
      | inr past ↦ absurd (let few = told.few in let within = slice_get_within block.words bad.0 bad.1 bad.2 in omega arith)
    ]
