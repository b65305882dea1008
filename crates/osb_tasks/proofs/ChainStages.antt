-- Stages that can run, and the first that has a fault.
use Rattle.std.proofs.Common.{◌≡◌, ◌≢◌, ◌&&◌, ℕ, ◌+◌, ◌<◌, true, false, true≢false, List, [], ◌∷◌, ◌++◌, length, drop, get_or, slice_get, Option, Some, None, is_some, Result, Ok, Err, refl, sym, ap, ap₂, ◌∙◌, subst}
use Rattle.std.specs.Prelude.{IfOk, option_map, option_and_then}
use Rattle.std.specs.Result.{result_map_both}
use Rattle.std.proofs.lemmas.Bool.{and_parts}
use Rattle.std.proofs.lemmas.List.{drop_more}
use Rattle.osb_tree.specs.Trees.{Listing}
use Rattle.osb_tree.specs.declared.numbers.Key.{Key}
use Rattle.osb_tree.specs.declared.faults.PutFault.{PutFault}
use Rattle.osb_tree.specs.declared.faults.PutFault.TheVariants as puts
use Rattle.osb_tree.specs.declared.faults.StageFault.{StageFault}
use Rattle.osb_tree.specs.declared.faults.StageFault.TheVariants.{TreeTooLarge, NoMemory}
use Rattle.osb_recipe.specs.Pairs.{both}
use Rattle.osb_recipe.specs.Works.{Given, a_tree, Work, ok_or_large, given_tree, and_then, input_trees, does, after_work, run_from, run_all}
use Rattle.osb_recipe.specs.Recipes.{Origin, IsBelow}
use Rattle.osb_recipe.specs.Tables.{TableData, IsTable}
use Rattle.osb_recipe.specs.Meanings.{Found, tree_at, build_at, input_at, inputs_at, work_of}
use Rattle.osb_recipe.specs.declared.references.TreeRef.{TreeRef}
use Rattle.osb_recipe.specs.declared.references.InputRecipe.{InputRecipe}
use Rattle.osb_recipe.specs.declared.references.InputRecipe.TheVariants.{Tree, Files}
use Rattle.osb_recipe.specs.declared.outcomes.Outcome.{Outcome}
use Rattle.osb_recipe.specs.declared.outcomes.Outcome.TheVariants as outcomes
use Rattle.osb_recipe.proofs.Chains.{recipe-below}
use Rattle.osb_tasks.specs.Ready.{has_build, has_input, has_inputs, can_run, entry_can_run, key_can_run, keys_can_run}
use Rattle.osb_tasks.specs.Running.{work_found, works_found, outcome_found, run_rest}

-- ---- what can run

is_some-map : {A B : Type 0} (f : A → B) (x : Option A) → is_some (option_map f x) ≡ is_some x
is_some-map f None = refl
is_some-map f (Some x) = refl

is_some-both : {A B C : Type 0} (f : A → B → C) (x : Option A) (y : Option B) → is_some (both f x y) ≡ (is_some x && is_some y)
is_some-both f None y = refl
is_some-both f (Some x) None = refl
is_some-both f (Some x) (Some y) = refl

build_there : (found : Found) (build : Option TreeRef) → is_some (build_at found build) ≡ has_build found build
build_there found None = refl
build_there found (Some ref) = is_some-map Some (tree_at found ref)

input_there : (found : Found) (blobs : List (List ℕ)) (input : InputRecipe) → is_some (input_at found blobs input) ≡ has_input found input
input_there found blobs (Tree ref) = is_some-map a_tree (tree_at found ref)
input_there found blobs (Files numbers) = refl

inputs_there : (found : Found) (blobs : List (List ℕ)) (inputs : List (List ℕ × InputRecipe)) → is_some (inputs_at found blobs inputs) ≡ has_inputs found inputs
inputs_there found blobs [] = refl
inputs_there found blobs (input ∷ inputs) =
    is_some-both (λ given others. (input.0, given) ∷ others) (input_at found blobs input.1) (inputs_at found blobs inputs)
    ∙ ap₂ (λ a b. a && b) (input_there found blobs input.1) (inputs_there found blobs inputs)

work_there : (found : Found) (blobs : List (List ℕ)) (recipes : List Origin) (key : Key) → is_some (work_found found blobs recipes key) ≡ key_can_run found recipes key
work_there found blobs recipes key = by (slice_get recipes key.0)
  where
    by : (there : Option Origin) → is_some (option_and_then (work_of found blobs) there) ≡ entry_can_run found there
    by None = refl
    by (Some recipe) =
        is_some-both (λ build inputs. let work : Work = record { kind = recipe.kind; build = build; inputs = inputs } in work) (build_at found recipe.build) (inputs_at found blobs recipe.inputs)
        ∙ ap₂ (λ a b. a && b) (build_there found recipe.build) (inputs_there found blobs recipe.inputs)

pub work_blocked : (found : Found) (blobs : List (List ℕ)) (recipe : Origin) → can_run found recipe ≡ false → work_of found blobs recipe ≡ None
work_blocked found blobs recipe e = by (work_of found blobs recipe) (is_some-both (λ build inputs. let work : Work = record { kind = recipe.kind; build = build; inputs = inputs } in work) (build_at found recipe.build) (inputs_at found blobs recipe.inputs)
    ∙ ap₂ (λ a b. a && b) (build_there found recipe.build) (inputs_there found blobs recipe.inputs) ∙ e)
  where
    by : (there : Option Work) → is_some there ≡ false → there ≡ None
    by None h = refl
    by (Some work) h = absurd (true≢false h)

works_there : (found : Found) (blobs : List (List ℕ)) (recipes : List Origin) (keys : List Key) → is_some (works_found found blobs recipes keys) ≡ keys_can_run found recipes keys
works_there found blobs recipes [] = refl
works_there found blobs recipes (key ∷ keys) =
    is_some-both (λ work others. work ∷ others) (work_found found blobs recipes key) (works_found found blobs recipes keys)
    ∙ ap₂ (λ a b. a && b) (work_there found blobs recipes key) (works_there found blobs recipes keys)

pub blocked : (found : Found) (blobs : List (List ℕ)) (recipes : List Origin) (keys : List Key) → keys_can_run found recipes keys ≡ false → outcomes.Blocked ≡ outcome_found found blobs recipes keys
blocked found blobs recipes keys e = by (works_found found blobs recipes keys) (works_there found blobs recipes keys ∙ e)
  where
    by : (there : Option (List Work)) → is_some there ≡ false → outcomes.Blocked ≡ run_all there
    by None h = refl
    by (Some works) h = absurd (true≢false h)

-- ---- the fault of an input, and of a stage

next : {A : Type 0} (xs : List A) (i : ℕ) (x : A) → i < length xs → x ≡ get_or xs i x → drop i xs ≡ x ∷ drop (i + 1) xs
next xs i x h e = drop_more xs i x h ∙ ap (λ head. head ∷ drop (i + 1) xs) (sym e)

first_fault : (done : List (List ℕ × Listing)) (name : List ℕ) (given : Option Given) (others : Option (List (List ℕ × Given))) (fault : StageFault) → option_map given_tree given ≡ Some (Err fault) → is_some others ≡ true
    → option_map (λ all. result_map_both (λ rest. done ++ rest) (λ f. f) (input_trees all)) (both (λ g more. (name, g) ∷ more) given others) ≡ Some (Err fault)
first_fault done name None others fault e h = absurd (true≢false (sym (ap is_some e)))
first_fault done name (Some g) None fault e h = absurd (true≢false (sym h))
first_fault done name (Some g) (Some more) fault e h =
    let is : given_tree g ≡ Err fault = cc in
    ap (λ made. Some (result_map_both (λ rest. done ++ rest) (λ f. f) (and_then made (λ tree. and_then (input_trees more) (λ others. Ok ((name, tree) ∷ others)))))) is

pub inputs_stop : (found : Found) (blobs : List (List ℕ)) (inputs : List (List ℕ × InputRecipe)) (i : ℕ) (input : List ℕ × InputRecipe) (done : List (List ℕ × Listing)) (fault : StageFault) (whole : Option (Result (List (List ℕ × Listing)) StageFault))
    → i < length inputs → input ≡ get_or inputs i input → has_inputs found (drop i inputs) ≡ true → option_map given_tree (input_at found blobs input.1) ≡ Some (Err fault)
    → option_map (λ all. result_map_both (λ rest. done ++ rest) (λ f. f) (input_trees all)) (inputs_at found blobs (drop i inputs)) ≡ whole → whole ≡ Some (Err fault)
inputs_stop found blobs inputs i input done fault whole h e ready failed before =
    let is = next inputs i input h e in
    let parts = and_parts (has_input found input.1) (has_inputs found (drop (i + 1) inputs)) (sym (ap (has_inputs found) is) ∙ ready) in
    sym before ∙ ap (λ left. option_map (λ all. result_map_both (λ rest. done ++ rest) (λ f. f) (input_trees all)) (inputs_at found blobs left)) is
    ∙ first_fault done input.0 (input_at found blobs input.1) (inputs_at found blobs (drop (i + 1) inputs)) fault failed (inputs_there found blobs (drop (i + 1) inputs) ∙ parts.1)

stage_fault : (place : ℕ) (base : Listing) (work : Option Work) (others : Option (List Work)) (fault : StageFault) → option_map (λ w. does w base) work ≡ Some (Err fault) → is_some others ≡ true
    → run_rest place (both (λ w more. w ∷ more) work others) base ≡ outcomes.Fault place fault
stage_fault place base None others fault e h = absurd (true≢false (sym (ap is_some e)))
stage_fault place base (Some w) None fault e h = absurd (true≢false (sym h))
stage_fault place base (Some w) (Some more) fault e h =
    let is : does w base ≡ Err fault = cc in
    ap (after_work place (run_from (place + 1) more)) is

stage_made : (place : ℕ) (base made : Listing) (work : Option Work) (others : Option (List Work)) → option_map (λ w. does w base) work ≡ Some (Ok made)
    → run_rest place (both (λ w more. w ∷ more) work others) base ≡ run_rest (place + 1) others made
stage_made place base made None others e = absurd (true≢false (sym (ap is_some e)))
stage_made place base made (Some w) None e = refl
stage_made place base made (Some w) (Some more) e =
    let is : does w base ≡ Ok made = cc in
    ap (after_work place (run_from (place + 1) more)) is

-- a key of a chain whose stages can run, with its recipe
pub record IsStage (found : Found) (blobs : List (List ℕ)) (recipes : List Origin) (keys : List Key) (i : ℕ) (key : Key) (recipe : Origin) : Type 0 where
  pub left : drop i keys ≡ key ∷ drop (i + 1) keys
  pub work : work_found found blobs recipes key ≡ work_of found blobs recipe
  pub runs : can_run found recipe ≡ true
  pub later : keys_can_run found recipes (drop (i + 1) keys) ≡ true

-- the key at a place of a chain
abbrev pub key_at : List Key → ℕ → Key
key_at keys i = get_or keys i (record { 0 = 0 })

pub stage_at : (found : Found) (blobs : List (List ℕ)) (shown recipes : List Origin) (keys : List Key) (i : ℕ) (recipe : Origin)
    → shown ≡ recipes → i < length keys → slice_get shown (key_at keys i).0 ≡ Some recipe → keys_can_run found recipes (drop i keys) ≡ true → IsStage found blobs recipes keys i (key_at keys i) recipe
stage_at found blobs shown recipes keys i recipe same h at ready =
    let key = key_at keys i in
    let is = drop_more keys i (record { 0 = 0 }) h in
    let there : slice_get recipes key.0 ≡ Some recipe = ap (λ (rs : List Origin). slice_get rs key.0) (sym same) ∙ at in
    let parts = and_parts (key_can_run found recipes key) (keys_can_run found recipes (drop (i + 1) keys)) (sym (ap (keys_can_run found recipes) is) ∙ ready) in
    record {
      left = is;
      work = ap (option_and_then (work_of found blobs)) there;
      runs = sym (ap (entry_can_run found) there) ∙ parts.0;
      later = parts.1;
    }

pub below_shown : (table : TableData) (found : Found) (shown : List Origin) (blobs : List (List ℕ)) (keys : List Key) (i : ℕ) (recipe : Origin) → IsTable table → length found ≡ length table.recipes → shown ≡ table.recipes → blobs ≡ table.blobs
    → slice_get shown (key_at keys i).0 ≡ Some recipe → IsBelow (length found) (length blobs) recipe
below_shown table found shown blobs keys i recipe is long same alike at =
    let there : slice_get table.recipes (key_at keys i).0 ≡ Some recipe = ap (λ (rs : List Origin). slice_get rs (key_at keys i).0) (sym same) ∙ at in
    subst (λ (count : ℕ). IsBelow count (length blobs) recipe) (sym long)
    (subst (λ (bs : List (List ℕ)). IsBelow (length table.recipes) (length bs) recipe) (sym alike) (recipe-below table (key_at keys i) recipe is there))

pub stages_stop : (found : Found) (blobs : List (List ℕ)) (recipes : List Origin) (keys : List Key) (i : ℕ) (key : Key) (recipe : Origin) (base : Listing) (fault : StageFault) (whole : Outcome)
    → IsStage found blobs recipes keys i key recipe → option_map (λ w. does w base) (work_of found blobs recipe) ≡ Some (Err fault)
    → run_rest i (works_found found blobs recipes (drop i keys)) base ≡ whole → outcomes.Fault i fault ≡ whole
stages_stop found blobs recipes keys i key recipe base fault whole is failed before =
    sym (stage_fault i base (work_found found blobs recipes key) (works_found found blobs recipes (drop (i + 1) keys)) fault (ap (option_map (λ (w : Work). does w base)) is.work ∙ failed) (works_there found blobs recipes (drop (i + 1) keys) ∙ is.later))
    ∙ sym (ap (λ (left : List Key). run_rest i (works_found found blobs recipes left) base) is.left) ∙ before

pub stages_go_on : (found : Found) (blobs : List (List ℕ)) (recipes : List Origin) (keys : List Key) (i : ℕ) (key : Key) (recipe : Origin) (base made : Listing) (whole : Outcome)
    → IsStage found blobs recipes keys i key recipe → option_map (λ w. does w base) (work_of found blobs recipe) ≡ Some (Ok made)
    → run_rest i (works_found found blobs recipes (drop i keys)) base ≡ whole → run_rest (i + 1) (works_found found blobs recipes (drop (i + 1) keys)) made ≡ whole
stages_go_on found blobs recipes keys i key recipe base made whole is done before =
    sym (stage_made i base made (work_found found blobs recipes key) (works_found found blobs recipes (drop (i + 1) keys)) (ap (option_map (λ (w : Work). does w base)) is.work ∙ done))
    ∙ sym (ap (λ (left : List Key). run_rest i (works_found found blobs recipes left) base) is.left) ∙ before

pub files_stop : (fault : PutFault) (made : StageFault) (files : Result Listing PutFault) → (fault ≡ puts.NoMemory → made ≡ NoMemory) → (fault ≢ puts.NoMemory → made ≡ TreeTooLarge) → (fault ≢ puts.NoMemory → Err fault ≡ files) → made ≢ NoMemory → ok_or_large files ≡ Err made
files_stop fault made files memory large is other =
    let apart : fault ≢ puts.NoMemory = λ e. other (memory e) in
    ap ok_or_large (sym (is apart)) ∙ ap Err (sym (large apart))

pub on_ok : {A E : Type 0} {P Q : A → Type 0} (result : Result A E) → ((x : A) → P x → Q x) → IfOk result P → IfOk result Q
on_ok (Ok x) f p = f x p
on_ok (Err e) f p = p
