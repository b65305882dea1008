-- Plans are sound.
use Rattle.std.proofs.Common.{◌≡◌, ◌⊎◌, ⊎_elim, ℕ, ◌<◌, ◌==◌, zero, suc, true, false, List, [], ◌∷◌, ◌++◌, map, filter, length, take, flat_map, Option, Some, None, All, refl, sym, ap, ap₂, ◌∙◌, subst}
use Rattle.std.specs.Prelude.{slice_get}
use Rattle.std.specs.List.{AllByRecursion, cons_option, range_with_len}
use Rattle.std.specs.Map.{values_of}
use Rattle.std.proofs.lemmas.Bool.{false≢true, eqb-true, or_cases}
use Rattle.std.proofs.lemmas.List.{length-map}
use Rattle.std.proofs.lemmas.List.Elements.{All-from_recursion, recursion_from_All, All-weaker, All-map, filter_passes}
use Rattle.std.proofs.lemmas.List.Folds.{list_any-append}
use Rattle.osb_tree.specs.declared.numbers.Key.{Key}
use Rattle.osb_tree.specs.declared.numbers.TaskNo.{TaskNo}
use Rattle.osb_recipe.specs.FilesTrees.{blobs_at}
use Rattle.osb_recipe.specs.Recipes.{Origin}
use Rattle.osb_recipe.specs.Interning.{place_in}
use Rattle.osb_recipe.specs.Tables.{TableData, IsTable, IsChain, last_of}
use Rattle.osb_recipe.specs.Plans.{ref_keys, build_keys, input_keys, recipe_needs, needs_of, has_key, ends_with, no_of, ends_task, deps_of, chains_of, AreItems, HasItems, IsInOrder, IsTask, IsSound}
use Rattle.osb_recipe.specs.declared.references.TreeRef.{TreeRef}
use Rattle.osb_recipe.specs.declared.references.TreeRef.TheVariants.{Empty, Of}
use Rattle.osb_recipe.specs.declared.references.InputRecipe.{InputRecipe}
use Rattle.osb_recipe.specs.declared.references.InputRecipe.TheVariants.{Tree, Files}
use Rattle.osb_plan.specs.declared.builds.Build.{Build}
use Rattle.osb_plan.specs.Bridge.{IsReady}
use Rattle.osb_plan.specs.Planning.{Chains, chains_of_builds, table_with_builds, same_chain, task_chains, task_numbers, marked_by, task_of, plan_of, planned}
use Rattle.osb_plan.proofs.HeldItems.{IsHeld, interned_all-holds}
use Rattle.osb_plan.proofs.LastKeys.{chain_by_last}
use Rattle.osb_plan.proofs.Links.{IsEnd, Meets, BuildMeets, InputMeets, AreAt, InputHasFiles, IsOver, AreLinks, AreLinked, chain_from_links}
use Rattle.osb_plan.proofs.TaskLinks.{AreApart, same_chain-self, tasks_linked, tasks_apart, links_at, slice_get-taken}
use Rattle.osb_plan.proofs.BuildLinks.{builds_linked}

-- ---- keys of a list

same_key : (a b : Key) → (a.0 == b.0) ≡ true → a ≡ b
same_key a b e = ap (λ (n : ℕ). let key : Key = record { 0 = n } in key) (eqb-true a.0 b.0 e)

split_keys : (xs ys : List Key) (key : Key) → has_key (xs ++ ys) key ≡ true → (has_key xs key ≡ true) ⊎ (has_key ys key ≡ true)
split_keys xs ys key e = or_cases (has_key xs key) (has_key ys key) (sym (list_any-append (λ (held : Key). held.0 == key.0) xs ys) ∙ e)

-- ---- what a recipe needs, it meets

module _ (P : Key → Type 0) (need : Key) where
  ref_met : (ref : TreeRef) → Meets P ref → has_key (ref_keys ref) need ≡ true → P need
  ref_met Empty meets e = absurd (false≢true e)
  ref_met (Of key) meets e = ⊎_elim (λ h. subst P (same_key key need h) meets) (λ h. absurd (false≢true h)) (or_cases (key.0 == need.0) false e)

  build_met : (build : Option TreeRef) → BuildMeets P build → has_key (build_keys build) need ≡ true → P need
  build_met None meets e = absurd (false≢true e)
  build_met (Some ref) meets e = ref_met ref meets e

  input_met : (input : InputRecipe) → InputMeets P input → has_key (input_keys input) need ≡ true → P need
  input_met (Tree ref) meets e = ref_met ref meets e
  input_met (Files numbers) meets e = absurd (false≢true e)

  inputs_met : (inputs : List (List ℕ × InputRecipe)) → AllByRecursion (λ input. InputMeets P input.1) inputs → has_key (flat_map (λ (input : List ℕ × InputRecipe). input_keys input.1) inputs) need ≡ true → P need
  inputs_met [] meets e = absurd (false≢true e)
  inputs_met (input ∷ inputs) meets e =
      ⊎_elim (input_met input.1 meets.0) (inputs_met inputs meets.1) (split_keys (input_keys input.1) (flat_map (λ (other : List ℕ × InputRecipe). input_keys other.1) inputs) need e)

recipe_met : (chains : List (List Key)) (blobs : List (List ℕ)) (recipe : Origin) (need : Key) → IsOver chains blobs recipe → has_key (recipe_needs (Some recipe)) need ≡ true → IsEnd chains need
recipe_met chains blobs recipe need over e =
    ⊎_elim (build_met (IsEnd chains) need recipe.build over.build) (inputs_met (IsEnd chains) need recipe.inputs over.trees) (split_keys (build_keys recipe.build) (flat_map (λ (input : List ℕ × InputRecipe). input_keys input.1) recipe.inputs) need e)

chain_met : (chains : List (List Key)) (table : TableData) (base : TreeRef) (keys : List Key) (need : Key) → AreLinks chains table base keys → has_key (needs_of table keys) need ≡ true → IsEnd chains need
chain_met chains table base [] need links e = absurd (false≢true e)
chain_met chains table base (key ∷ keys) need links e =
    let link = links.0 in
    ⊎_elim (λ h. recipe_met chains table.blobs link.recipe need link.over (sym (ap (λ (found : Option Origin). has_key (recipe_needs found) need) link.at) ∙ h)) (chain_met chains table (Of key) keys need links.1)
    (split_keys (recipe_needs (slice_get table.recipes key.0)) (needs_of table keys) need e)

-- ---- recipes are in order

items_at : (blobs : List (List ℕ)) (numbers : List ℕ) (items : List (List ℕ)) → AreAt blobs numbers items → items ≡ blobs_at blobs numbers
items_at blobs [] [] there = refl
items_at blobs [] (item ∷ items) there = absurd there
items_at blobs (number ∷ numbers) [] there = absurd there
items_at blobs (number ∷ numbers) (item ∷ items) there = sym (ap₂ cons_option there.0 (sym (items_at blobs numbers items there.1)))

has_items : (table : TableData) (input : InputRecipe) → InputHasFiles table.blobs input → HasItems table input
has_items table (Tree ref) has = tt
has_items table (Files numbers) has = subst AreItems (items_at table.blobs numbers has.items has.there) has.sound

have_items : (table : TableData) (inputs : List (List ℕ × InputRecipe)) → AllByRecursion (λ input. InputHasFiles table.blobs input.1) inputs → AllByRecursion (λ input. HasItems table input.1) inputs
have_items table [] has = tt
have_items table (input ∷ inputs) has = (has_items table input.1 has.0, have_items table inputs has.1)

in_order : (table : TableData) (chains : List (List Key)) (recipe : Origin) → IsOver chains table.blobs recipe → IsInOrder table recipe
in_order table chains recipe over = record { named = over.named; items = All-from_recursion (λ (input : List ℕ × InputRecipe). HasItems table input.1) recipe.inputs (have_items table recipe.inputs over.files) }

same_at : (table : TableData) (i j : ℕ) (a b : Origin) → i ≡ j → slice_get table.recipes i ≡ Some a → slice_get table.recipes j ≡ Some b → a ≡ b
same_at table i j a b is first second = cc

chain_ordered : (chains : List (List Key)) (table : TableData) (base : TreeRef) (keys : List Key) (key : Key) (recipe : Origin) → AreLinks chains table base keys → has_key keys key ≡ true → slice_get table.recipes key.0 ≡ Some recipe → IsInOrder table recipe
chain_ordered chains table base [] key recipe links e at = absurd (false≢true e)
chain_ordered chains table base (first ∷ keys) key recipe links e at =
    let link = links.0 in
    ⊎_elim (λ h. subst (IsInOrder table) (same_at table first.0 key.0 link.recipe recipe (eqb-true first.0 key.0 h) link.at at) (in_order table chains link.recipe link.over)) (λ h. chain_ordered chains table (Of first) keys key recipe links.1 h at)
    (or_cases (first.0 == key.0) (has_key keys key) e)

-- ---- a task that another is built with is lower

record EndsWith (chains : List (List Key)) (keys : List Key) (number : ℕ) : Type 0 where
  pub chain : List Key
  pub key : Key
  pub at : slice_get chains number ≡ Some chain
  pub last : last_of chain ≡ Of key
  pub among : has_key keys key ≡ true

end_among : (keys : List Key) (ref : TreeRef) → ends_with keys ref ≡ true → (key : Key) × (ref ≡ Of key) × (has_key keys key ≡ true)
end_among keys Empty e = absurd (false≢true e)
end_among keys (Of key) e = (key, refl, e)

ends_task-means : (chains : List (List Key)) (keys : List Key) (number : ℕ) → ends_task chains keys number ≡ true → EndsWith chains keys number
ends_task-means [] keys number e = absurd (false≢true e)
ends_task-means (chain ∷ chains) keys zero e =
    let end = end_among keys (last_of chain) e in
    record { chain = chain; key = end.0; at = refl; last = end.1; among = end.2 }
ends_task-means (chain ∷ chains) keys (suc number) e =
    let end = ends_task-means chains keys number e in
    record { chain = end.chain; key = end.key; at = end.at; last = end.last; among = end.among }

module _ (table : TableData) (tasks : List (List Key)) (linked : AreLinked table [] tasks) (apart : AreApart tasks) where
  task_chain : (number : ℕ) (chain : List Key) → slice_get tasks number ≡ Some chain → IsChain table chain
  task_chain number chain at = chain_from_links (take number tasks) table Empty chain (links_at table [] tasks number chain linked at)

  -- a need ends a task before
  record IsMet (number : ℕ) (key : Key) : Type 0 where
    pub place : ℕ
    pub ends : List Key
    pub lower : place < number
    pub at : slice_get tasks place ≡ Some ends
    pub last : last_of ends ≡ Of key

  task_met : (number : ℕ) (chain : List Key) (key : Key) → slice_get tasks number ≡ Some chain → has_key (needs_of table chain) key ≡ true → IsMet number key
  task_met number chain key at e =
      let end = chain_met (take number tasks) table Empty chain key (links_at table [] tasks number chain linked at) e in
      let there = slice_get-taken tasks number end.place end.chain end.at in
      record { place = end.place; ends = end.chain; lower = there.0; at = there.1; last = end.last }

  dep_lower : (number : ℕ) (chain : List Key) (dep : ℕ) → slice_get tasks number ≡ Some chain → ends_task tasks (needs_of table chain) dep ≡ true → dep < number
  dep_lower number chain dep at e =
      let end = ends_task-means tasks (needs_of table chain) dep e in
      let met = task_met number chain end.key at end.among in
      let same : met.ends ≡ end.chain = chain_by_last table met.ends end.chain (task_chain met.place met.ends met.at) (task_chain dep end.chain end.at) (met.last ∙ sym end.last) in
      let one : met.place ≡ dep = apart met.place dep met.ends met.at (end.at ∙ ap Some (sym same)) in
      subst (λ (n : ℕ). n < number) one met.lower

  deps_lower : (number : ℕ) (chain : List Key) → slice_get tasks number ≡ Some chain → All (λ dep. dep.0 < number) (deps_of table tasks chain)
  deps_lower number chain at =
      let needs : List Key = needs_of table chain in
      let held : List ℕ = filter (ends_task tasks needs) (range_with_len 0 (length tasks)) in
      All-map (λ (dep : TaskNo). dep.0 < number) no_of held
      (All-weaker (λ (dep : ℕ). ends_task tasks needs dep ≡ true) (λ (dep : ℕ). dep < number) (λ dep e. dep_lower number chain dep at e) held (filter_passes (ends_task tasks needs) (range_with_len 0 (length tasks))))

  pub IsTask-at : (marked : List Key) (number : ℕ) (chain : List Key) → slice_get tasks number ≡ Some chain → IsTask table tasks number (task_of table tasks marked chain)
  IsTask-at marked number chain at = record {
    chain = task_chain number chain at;
    marked = (has_key marked, refl);
    deps = refl;
    lower = deps_lower number chain at;
    met = λ key e. let met = task_met number chain key at e in (no_of met.place, met.lower, met.ends, met.at, met.last);
    recipes = λ key recipe e held. chain_ordered (take number tasks) table Empty chain key recipe (links_at table [] tasks number chain linked at) e held;
  }

-- ---- plans

made_from : {X Y : Type 0} (make : X → Y) (xs : List X) (place : ℕ) (y : Y) → slice_get (map make xs) place ≡ Some y → (x : X) × (slice_get xs place ≡ Some x) × (make x ≡ y)
made_from make [] place y at = absurd (cc)
made_from make (x ∷ xs) zero y at = (x, refl, cc)
made_from make (x ∷ xs) (suc place) y at = made_from make xs place y at

tasks_chains : (table : TableData) (tasks : List (List Key)) (marked : List Key) (chains : List (List Key)) → chains_of (map (task_of table tasks marked) chains) ≡ chains
tasks_chains table tasks marked [] = refl
tasks_chains table tasks marked (chain ∷ chains) = ap (λ (rest : List (List Key)). chain ∷ rest) (tasks_chains table tasks marked chains)

front : {X : Type 0} (P : X → Type 0) (xs ys : List X) → AllByRecursion P (xs ++ ys) → AllByRecursion P xs
front P [] ys all = tt
front P (x ∷ xs) ys all = (all.0, front P xs ys all.1)

back : {X : Type 0} (P : X → Type 0) (xs ys : List X) → AllByRecursion P (xs ++ ys) → AllByRecursion P ys
back P [] ys all = all
back P (x ∷ xs) ys all = back P xs ys all.1

numbers_within : (tasks chains : List (List Key)) (count : ℕ) → count ≡ length tasks → AllByRecursion (IsHeld same_chain tasks) chains → AllByRecursion (λ (number : TaskNo). number.0 < count) (map (λ (chain : List Key). no_of (place_in same_chain tasks chain)) chains)
numbers_within tasks [] count is held = tt
numbers_within tasks (chain ∷ chains) count is held = (subst (λ (n : ℕ). place_in same_chain tasks chain < n) (sym is) held.0, numbers_within tasks chains count is held.1)

builds_within : (tasks : List (List Key)) (builds : List Chains) (count : ℕ) → count ≡ length tasks → AllByRecursion (IsHeld same_chain tasks) (flat_map (λ (chains : Chains). values_of chains) builds) → AllByRecursion (λ (build : List TaskNo). All (λ number. number.0 < count) build) (map (task_numbers tasks) builds)
builds_within tasks [] count is held = tt
builds_within tasks (chains ∷ builds) count is held =
    let rest : List (List Key) = flat_map (λ (more : Chains). values_of more) builds in (
      All-from_recursion (λ (number : TaskNo). number.0 < count) (task_numbers tasks chains) (numbers_within tasks (values_of chains) count is (front (IsHeld same_chain tasks) (values_of chains) rest held)),
      builds_within tasks builds count is (back (IsHeld same_chain tasks) (values_of chains) rest held),
    )

plan_sound : (table : TableData) (builds : List Build) (chains : List Chains) → AreLinked table [] (flat_map (λ (some : Chains). values_of some) chains) → IsSound (plan_of table builds chains (task_chains chains))
plan_sound table builds chains linked =
    let all : List (List Key) = flat_map (λ (some : Chains). values_of some) chains in
    let tasks : List (List Key) = task_chains chains in
    let marked : List Key = marked_by builds 0 chains in
    let make = task_of table tasks marked in
    let same : chains_of (map make tasks) ≡ tasks = tasks_chains table tasks marked tasks in
    record {
      tasks = λ number task at.
          let made = made_from make tasks number task at in
          let is : IsTask table tasks number (make made.0) = IsTask-at table tasks (tasks_linked table all linked) (tasks_apart table all linked) marked number made.0 made.1 in
          subst (λ (some : List (List Key)). IsTask table some number task) (sym same) (subst (IsTask table tasks number) made.2 is);
      builds = All-from_recursion (λ (build : List TaskNo). All (λ number. number.0 < length (map make tasks)) build) (map (task_numbers tasks) chains)
          (builds_within tasks chains (length (map make tasks)) (length-map tasks make) (interned_all-holds same_chain same_chain-self [] all));
    }

pub plan_is_sound : (table : TableData) (builds : List Build) → IsTable table → All IsReady builds → IsSound (planned table builds)
unfolding planned
plan_is_sound table builds is ready =
    plan_sound (table_with_builds table builds) builds (chains_of_builds table builds) (builds_linked [] table builds (recursion_from_All IsReady builds ready) is tt)
