-- What a sound plan says of a task: its chain, its marked keys, and the tasks that it is built with.
use Rattle.std.proofs.Common.{◌≡◌, ◌==◌, ◌||◌, arith, ℕ, zero, suc, ◌+◌, ◌<◌, ◌≤◌, Bool, true, false, cond, List, [], ◌∷◌, length, map, reverse, filter, Option, Some, None, inl, inr, refl, sym, ap, ◌∙◌}
use Rattle.std.specs.Prelude.{slice_get, option_map}
use Rattle.std.specs.Option.{option_map_or}
use Rattle.std.specs.List.{list_any, range_with_len}
use Rattle.std.proofs.lemmas.Bool.{false≢true, or_cases, or_left, or_right}
use Rattle.std.proofs.lemmas.Bool.Decides.{eqb_tells}
use Rattle.std.proofs.lemmas.List.{reverse-append}
use Rattle.std.proofs.lemmas.List.Folds.{list_any-append}
use Rattle.std.proofs.lemmas.Option.{slice_get_cases, slice_get-map, slice_get_within}
use Rattle.osb_tree.specs.declared.numbers.Key.{Key}
use Rattle.osb_tree.specs.declared.numbers.TaskNo.{TaskNo}
use Rattle.osb_recipe.specs.Tables.{IsChain, last_of}
use Rattle.osb_recipe.specs.Plans.{needs_of, has_key, ends_with, ends_task, no_of, chains_of, IsTask, IsSound}
use Rattle.osb_recipe.specs.declared.references.TreeRef.TheVariants.{Of}
use Rattle.osb_recipe.specs.declared.plans.Task.{Task}
use Rattle.osb_recipe.specs.declared.plans.Plan.{Plan}
use Rattle.osb_job.specs.Scripts.{chain_at, marked_at, deps_at}

-- ---- lists

filter-has : {X : Type 0} (p kept : X → Bool) (xs : List X) → list_any p (filter kept xs) ≡ true → list_any p xs ≡ true
filter-has p kept [] there = there
filter-has {X} p kept (x ∷ xs) there = by (kept x) (filter-has p kept xs) there
  where
    by : (b : Bool) → (list_any p (filter kept xs) ≡ true → list_any p xs ≡ true) → list_any p (cond b (x ∷ filter kept xs) (filter kept xs)) ≡ true → list_any p (x ∷ xs) ≡ true
    by true later h = elim (or_cases (p x) (list_any p (filter kept xs)) h) [
      | inl here ↦ or_left (p x) (list_any p xs) here
      | inr more ↦ or_right (p x) (list_any p xs) (later more)
    ]
    by false later h = or_right (p x) (list_any p xs) (later h)

reverse-has : {X : Type 0} (p : X → Bool) (xs : List X) → list_any p (reverse xs) ≡ true → list_any p xs ≡ true
reverse-has p [] there = there
reverse-has {X} p (x ∷ xs) there =
    let split : (list_any p (reverse xs) || list_any p (x ∷ [])) ≡ true = sym (list_any-append p (reverse xs) (x ∷ [])) ∙ ap (list_any p) (sym (reverse-append (x ∷ []) xs)) ∙ there in
    elim (or_cases (list_any p (reverse xs)) (list_any p (x ∷ [])) split) [
      | inl early ↦ or_right (p x) (list_any p xs) (reverse-has p xs early)
      | inr last ↦ or_left (p x) (list_any p xs) (elim (or_cases (p x) false last) [ inl here ↦ here | inr none ↦ absurd (false≢true none) ])
    ]

abbrev pub has_task : List TaskNo → TaskNo → Bool
has_task tasks task = list_any (λ held. held.0 == task.0) tasks

-- a number of a range that passes is among those that do
range-has : (passes : ℕ → Bool) (low count number : ℕ) → low ≤ number → number < low + count → passes number ≡ true → has_task (map no_of (filter passes (range_with_len low count))) (no_of number) ≡ true
range-has passes low zero number above below passed = absurd (omega arith)
range-has passes low (suc count) number above below passed = elim (eqb_tells low number) [
  | inl same ↦ here (passes low) same.0 (ap passes same.1 ∙ passed)
  | inr apart ↦ later (passes low) (let next : low + 1 ≤ number = (let ne = apart.1 in omega arith) in range-has passes (low + 1) count number next (omega arith) passed)
]
  where
    here : (b : Bool) → (low == number) ≡ true → b ≡ true → has_task (map no_of (cond b (low ∷ filter passes (range_with_len (low + 1) count)) (filter passes (range_with_len (low + 1) count)))) (no_of number) ≡ true
    here true same h = or_left (low == number) (has_task (map no_of (filter passes (range_with_len (low + 1) count))) (no_of number)) same
    here false same h = absurd (false≢true h)

    later : (b : Bool) → has_task (map no_of (filter passes (range_with_len (low + 1) count))) (no_of number) ≡ true
        → has_task (map no_of (cond b (low ∷ filter passes (range_with_len (low + 1) count)) (filter passes (range_with_len (low + 1) count)))) (no_of number) ≡ true
    later true h = or_right (low == number) (has_task (map no_of (filter passes (range_with_len (low + 1) count))) (no_of number)) h
    later false h = h

-- ---- a task

-- the chain of any number is one of the table
pub linked_at : (plan : Plan) (task : TaskNo) → IsSound plan → IsChain plan.table (chain_at plan task)
linked_at plan task sound = by (slice_get plan.tasks task.0) refl
  where
    by : (there : Option Task) → slice_get plan.tasks task.0 ≡ there → IsChain plan.table (option_map_or (λ (t : Task). t.chain) there [])
    by None at = tt
    by (Some t) at = (sound.tasks task.0 t at).chain

ends_at : (plan : Plan) (dep : TaskNo) (ends : List Key) → slice_get (chains_of plan.tasks) dep.0 ≡ Some ends → chain_at plan dep ≡ ends
ends_at plan dep ends at = by (slice_get plan.tasks dep.0) (sym (slice_get-map (λ (t : Task). t.chain) plan.tasks dep.0) ∙ at)
  where
    by : (there : Option Task) → option_map (λ (t : Task). t.chain) there ≡ Some ends → option_map_or (λ (t : Task). t.chain) there [] ≡ ends
    by None is = absurd (cc)
    by (Some t) is = cc

-- a task that the chain is built with
pub record HasEnd (plan : Plan) (task : TaskNo) (key : Key) : Type 0 where
  pub dep : TaskNo
  pub waits : has_task (deps_at plan task) dep ≡ true
  pub last : last_of (chain_at plan dep) ≡ Of key

pub record IsKnown (plan : Plan) (task : TaskNo) : Type 0 where
  pub linked : IsChain plan.table (chain_at plan task)
  pub marked : (key : Key) → has_key (marked_at plan task) key ≡ true → has_key (chain_at plan task) key ≡ true
  pub met : (key : Key) → has_key (needs_of plan.table (chain_at plan task)) key ≡ true → HasEnd plan task key

ends_task-is : (chains : List (List Key)) (keys : List Key) (number : ℕ) (ends : List Key) → slice_get chains number ≡ Some ends → ends_with keys (last_of ends) ≡ true → ends_task chains keys number ≡ true
ends_task-is [] keys number ends at passes = absurd (cc)
ends_task-is (chain ∷ chains) keys zero ends at passes =
    let same : chain ≡ ends = cc in
    ap (λ (one : List Key). ends_with keys (last_of one)) same ∙ passes
ends_task-is (chain ∷ chains) keys (suc number) ends at passes = ends_task-is chains keys number ends at passes

met_at : (plan : Plan) (number : ℕ) (task : Task) (key : Key) → IsTask plan.table (chains_of plan.tasks) number task → has_key (needs_of plan.table task.chain) key ≡ true
    → (dep : TaskNo) × (has_task task.deps dep ≡ true) × (last_of (chain_at plan dep) ≡ Of key)
met_at plan number task key is needed =
    let end = is.met key needed in
    let dep = end.0 in
    let chains = chains_of plan.tasks in
    let passes = ends_task-is chains (needs_of plan.table task.chain) dep.0 end.2 end.3 (ap (ends_with (needs_of plan.table task.chain)) end.4 ∙ needed) in
    let within : dep.0 < 0 + length chains = omega (arith, slice_get_within chains dep.0 end.2 end.3) in
    let waits = range-has (ends_task chains (needs_of plan.table task.chain)) 0 (length chains) dep.0 (omega arith) within passes in
    (dep, ap (λ (deps : List TaskNo). has_task deps dep) is.deps ∙ waits, ap last_of (ends_at plan dep end.2 end.3) ∙ end.4)

pub known : (plan : Plan) (task : TaskNo) → IsSound plan → task.0 < length plan.tasks → IsKnown plan task
known plan task sound within = elim (slice_get_cases plan.tasks task.0).1 [
  | inl held ↦ known_at held.0 held.2
  | inr past ↦ absurd (omega arith)
]
  where
    known_at : (t : Task) → slice_get plan.tasks task.0 ≡ Some t → IsKnown plan task
    known_at t at =
        let is = sound.tasks task.0 t at in
        let chain : chain_at plan task ≡ t.chain = ap (λ (there : Option Task). option_map_or (λ (one : Task). one.chain) there []) at in
        let marked : marked_at plan task ≡ t.marked = ap (λ (there : Option Task). option_map_or (λ (one : Task). one.marked) there []) at in
        let deps : deps_at plan task ≡ t.deps = ap (λ (there : Option Task). option_map_or (λ (one : Task). one.deps) there []) at in
        record {
          linked = linked_at plan task sound;
          marked = λ key there.
              let held : has_key (filter is.marked.0 (reverse t.chain)) key ≡ true = ap (λ (keys : List Key). has_key keys key) (sym is.marked.1 ∙ sym marked) ∙ there in
              let of : Key → Bool = λ (k : Key). k.0 == key.0 in
              ap (λ (keys : List Key). has_key keys key) chain ∙ reverse-has of t.chain (filter-has of is.marked.0 (reverse t.chain) held);
          met = λ key needed.
              let end = met_at plan task.0 t key is (ap (λ (keys : List Key). has_key (needs_of plan.table keys) key) (sym chain) ∙ needed) in
              record { dep = end.0; waits = ap (λ (tasks : List TaskNo). has_task tasks end.0) deps ∙ end.1; last = end.2 };
        }
