-- One more task of a sound plan: its trees are found, and its own is found for those behind it.
use Rattle.std.proofs.Common.{◌≡◌, ◌≢◌, ◌⊎◌, inl, inr, ℕ, ◌+◌, ◌<◌, List, [], ◌∷◌, ◌++◌, length, get_or, take, Option, Some, None, refl, sym, ap, ap₂, ◌∙◌, subst, arith, get_or-set_other, get_or-set_same, length-set}
use Rattle.std.specs.Prelude.{slice_get, slice_set, map, option_map, option_and_then}
use Rattle.std.specs.List.{All}
use Rattle.std.proofs.lemmas.Option.{slice_get_cases, slice_get_within, slice_get_past, slice_get-get_or, slice_get_read, slice_get-map, get_or_from_slice_get}
use Rattle.std.proofs.lemmas.List.{take_more, map-append}
use Rattle.std.proofs.lemmas.Bool.Decides.{eqb_tells}
use Rattle.std.proofs.lemmas.List.Elements.{All-cons, All-nil}
use Rattle.osb_tree.specs.Trees.{Listing}
use Rattle.osb_tree.specs.declared.numbers.Key.{Key}
use Rattle.osb_recipe.specs.Works.{tree_of}
use Rattle.osb_recipe.specs.Recipes.{IsRefBelow}
use Rattle.osb_recipe.specs.Tables.{TableData, IsTable, IsChainFrom, IsChain, last_of}
use Rattle.osb_recipe.specs.Meanings.{Found, tree_at, meanings, meant}
use Rattle.osb_recipe.specs.Plans.{needs_of, chains_of, IsTask}
use Rattle.osb_recipe.specs.declared.references.TreeRef.{TreeRef}
use Rattle.osb_recipe.specs.declared.references.TreeRef.TheVariants.{Empty, Of}
use Rattle.osb_recipe.specs.declared.outcomes.Outcome.{Outcome}
use Rattle.osb_recipe.specs.declared.plans.Task.{Task}
use Rattle.osb_recipe.proofs.Chains.{last_key_law, last_of-below}
use Rattle.osb_tasks.specs.Running.{with_tree, HasTrees, outcome_found}
use Rattle.osb_tasks.proofs.Agreeing.{AgreeOn, outcome_meant}

-- ---- what is found for a task

chain_at : (tasks : List Task) (number : ℕ) (chain : List Key) → slice_get (chains_of tasks) number ≡ Some chain → (task : Task) × (slice_get tasks number ≡ Some task) × (task.chain ≡ chain)
chain_at tasks number chain at = by (slice_get tasks number) refl
  where
    by : (there : Option Task) → slice_get tasks number ≡ there → (task : Task) × (slice_get tasks number ≡ Some task) × (task.chain ≡ chain)
    by None is = absurd (let none : slice_get (chains_of tasks) number ≡ None = slice_get-map (λ (t : Task). t.chain) tasks number ∙ ap (option_map (λ (t : Task). t.chain)) is in cc)
    by (Some task) is =
        let held : slice_get (chains_of tasks) number ≡ Some task.chain = slice_get-map (λ (t : Task). t.chain) tasks number ∙ ap (option_map (λ (t : Task). t.chain)) is in
        let same : task.chain ≡ chain = cc in
        (task, is, same)

agree_at : (table : TableData) (tasks : List Task) (number : ℕ) (task : Task) (found : Found) → IsTask table (chains_of tasks) number task → HasTrees table tasks number found → AgreeOn (needs_of table task.chain) (meanings table) found
agree_at table tasks number task found is has key needed =
    let met = is.met key needed in
    let end = chain_at tasks met.0.0 met.2 met.3 in
    let last : last_of end.0.chain ≡ Of key = ap last_of end.2 ∙ met.4 in
    let Alike : TreeRef → Type 0 = λ ref. tree_at found ref ≡ tree_at (meanings table) ref in
    subst Alike last (has met.0.0 end.0 met.1 end.1)

pub task_meant : (table : TableData) (tasks : List Task) (number : ℕ) (task : Task) (found : Found) → IsTask table (chains_of tasks) number task → HasTrees table tasks number found
    → outcome_found found table.blobs table.recipes task.chain ≡ meant table task.chain
task_meant table tasks number task found is has = outcome_meant found table task.chain (agree_at table tasks number task found is has)

-- ---- what is found behind it

slice_get-set_same : {X : Type 0} (xs : List X) (i : ℕ) (x : X) → i < length xs → slice_get (slice_set xs i x) i ≡ Some x
slice_get-set_same xs i x h =
    let within : i < length (slice_set xs i x) = omega (arith, length-set xs i x) in
    slice_get-get_or (slice_set xs i x) i x within ∙ ap Some (get_or-set_same xs i x x h)

slice_get-set_other : {X : Type 0} (xs : List X) (i j : ℕ) (x : X) → j ≢ i → slice_get (slice_set xs i x) j ≡ slice_get xs j
slice_get-set_other xs i j x apart = elim (slice_get_cases xs j).1 [
  | inl held ↦
      let within : j < length (slice_set xs i x) = omega (arith, length-set xs i x, slice_get_within xs j held.0 held.2) in
      slice_get-get_or (slice_set xs i x) j x within ∙ ap Some (get_or-set_other xs i j x x apart) ∙ sym (slice_get-get_or xs j x (omega (arith, length-set xs i x)))
  | inr past ↦ slice_get_past (slice_set xs i x) j (omega (arith, length-set xs i x)) ∙ sym (slice_get_past xs j (omega arith))
]

-- the tree of one reference is kept: a reference is found by what was found before, unless it is that one
kept : (found means : Found) (last ref : TreeRef) → IsRefBelow (length found) last → (tree_at found ref ≡ tree_at means ref) ⊎ (ref ≡ last) → tree_at (with_tree last (tree_at means last) found) ref ≡ tree_at means ref
kept found means last Empty below alike = by last
  where
    by : (last : TreeRef) → tree_at (with_tree last (tree_at means last) found) Empty ≡ tree_at means Empty
    by Empty = refl
    by (Of key) = refl
kept found means Empty (Of key) below (inl alike) = alike
kept found means Empty (Of key) below (inr same) = absurd (cc)
kept found means (Of last) (Of key) below alike = elim (eqb_tells key.0 last.0) [
  | inl same ↦
      ap (option_and_then (λ (tree : Option Listing). tree))
      (ap (slice_get (slice_set found last.0 (tree_at means (Of last)))) same.1 ∙ slice_get-set_same found last.0 (tree_at means (Of last)) below)
      ∙ ap (λ (number : ℕ). option_and_then (λ (tree : Option Listing). tree) (slice_get means number)) (sym same.1)
  | inr apart ↦
      ap (option_and_then (λ (tree : Option Listing). tree)) (slice_get-set_other found last.0 key.0 (tree_at means (Of last)) apart.1)
      ∙ alike_apart alike apart.1
]
  where
    alike_apart : (tree_at found (Of key) ≡ tree_at means (Of key)) ⊎ (Of key ≡ Of last) → key.0 ≢ last.0 → tree_at found (Of key) ≡ tree_at means (Of key)
    alike_apart (inl alike) apart = alike
    alike_apart (inr same) apart = absurd (apart (cc))

pub trees_kept : (table : TableData) (tasks : List Task) (number : ℕ) (task : Task) (found : Found) (outcome : Outcome) → IsTable table → IsChain table task.chain → length found ≡ length table.recipes
    → slice_get tasks number ≡ Some task → outcome ≡ meant table task.chain → HasTrees table tasks number found → HasTrees table tasks (number + 1) (with_tree (last_of task.chain) (tree_of outcome) found)
trees_kept table tasks number task found outcome is chain keys at made has i other within there =
    let last = last_of task.chain in
    let means = meanings table in
    let tree : tree_of outcome ≡ tree_at means last = ap tree_of made ∙ last_key_law table task.chain is chain in
    let below : IsRefBelow (length found) last = subst (λ (count : ℕ). IsRefBelow count last) (sym keys) (last_of-below table task.chain chain) in
    let alike : (tree_at found (last_of other.chain) ≡ tree_at means (last_of other.chain)) ⊎ (last_of other.chain ≡ last) = elim (eqb_tells i number) [
      | inl same ↦ inr (ap (λ (t : Task). last_of t.chain) (let one : other ≡ task = (let here : slice_get tasks i ≡ Some task = ap (slice_get tasks) same.1 ∙ at in cc) in one))
      | inr apart ↦ inl (has i other (let ne : i ≢ number = apart.1 in omega arith) there)
    ] in
    ap (λ (t : Option Listing). tree_at (with_tree last t found) (last_of other.chain)) tree
    ∙ kept found means last (last_of other.chain) below alike

pub length-with_tree : (last : TreeRef) (tree : Option Listing) (found : Found) → length (with_tree last tree found) ≡ length found
length-with_tree Empty tree found = refl
length-with_tree (Of key) tree found = length-set found key.0 tree

-- ---- chains

keys_below : (table : TableData) (base : TreeRef) (chain : List Key) → IsChainFrom table base chain → All (λ key. key.0 < length table.recipes) chain
keys_below table base [] linked = All-nil (λ key. key.0 < length table.recipes)
keys_below table base (key ∷ keys) linked =
    All-cons (λ (k : Key). k.0 < length table.recipes) key keys (slice_get_within table.recipes key.0 linked.0.0 linked.0.1) (keys_below table (Of key) keys linked.1)

pub chain_below : (table : TableData) (chain : List Key) → IsChain table chain → All (λ key. key.0 < length table.recipes) chain
chain_below table chain linked = keys_below table Empty chain linked

-- ---- a task of a plan

pub task_at : (shown tasks : List Task) (i : ℕ) (task : Task) → shown ≡ tasks → i < length shown → task ≡ get_or shown i task → slice_get tasks i ≡ Some task
task_at shown tasks i task same within is = ap (λ (ts : List Task). slice_get ts i) (sym same) ∙ slice_get_read shown (length shown) i task refl within is

pub outcomes_on : (table : TableData) (tasks : List Task) (i : ℕ) (task : Task) (outcome : Outcome) (done made : List Outcome) → slice_get tasks i ≡ Some task → outcome ≡ meant table task.chain → made ≡ done ++ outcome ∷ []
    → done ≡ map (λ t. meant table t.chain) (take i tasks) → made ≡ map (λ t. meant table t.chain) (take (i + 1) tasks)
outcomes_on table tasks i task outcome done made at is pushed before =
    let of : Task → Outcome = λ t. meant table t.chain in
    let next : take (i + 1) tasks ≡ take i tasks ++ task ∷ [] =
    take_more tasks i task (slice_get_within tasks i task at) ∙ ap (λ (t : Task). take i tasks ++ t ∷ []) (get_or_from_slice_get tasks i task task at) in
    pushed ∙ ap₂ (λ (front : List Outcome) (o : Outcome). front ++ o ∷ []) before is ∙ sym (map-append of (take i tasks) (task ∷ [])) ∙ ap (map of) (sym next)

pub last_below : (table : TableData) (found : Found) (chain shown : List Key) (last : TreeRef) → IsChain table chain → length found ≡ length table.recipes → shown ≡ chain → last ≡ last_of shown → IsRefBelow (length found) last
last_below table found chain shown last linked keys same is =
    subst (λ (count : ℕ). IsRefBelow count last) (sym keys) (subst (λ (ref : TreeRef). IsRefBelow (length table.recipes) ref) (sym (is ∙ ap last_of same)) (last_of-below table chain linked))
