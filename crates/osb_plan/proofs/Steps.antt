-- One more turn of the loops that plan: a stage, a pipeline, the blobs and chains of a build.
use Rattle.std.proofs.Common.{◌≡◌, ℕ, ◌+◌, ◌<◌, ◌≤◌, Bool, true, false, cond, List, [], ◌∷◌, ◌++◌, length, drop, get_or, nat_lt, Option, Some, None, append_assoc, refl, sym, ap, ◌∙◌, subst, arith, length-append}
use Rattle.std.specs.Prelude.{◌==◌, slice_get, option_map}
use Rattle.std.specs.Option.{option_map_or}
use Rattle.std.specs.List.{All, AllByRecursion, flat_map}
use Rattle.std.specs.Map.{values_of, lookup}
use Rattle.std.proofs.lemmas.List.{drop_more}
use Rattle.std.proofs.lemmas.List.Elements.{All-from_recursion, All-weaker, All-append, All-head, All-tail, All-map, All-cons, All-nil}
use Rattle.std.proofs.lemmas.Bool.Decides.{nat_tests}
use Rattle.osb_tree.specs.declared.numbers.Key.{Key}
use Rattle.osb_recipe.specs.Recipes.{Origin, IsRefBelow, IsBuildBelow, IsInputBelow, IsBelow, same_recipe}
use Rattle.osb_recipe.specs.Interning.{place_in, interned, interned_all}
use Rattle.osb_recipe.specs.Tables.{TableData, same_bytes, last_from, last_of}
use Rattle.osb_recipe.specs.declared.references.TreeRef.{TreeRef}
use Rattle.osb_recipe.specs.declared.references.TreeRef.TheVariants.{Empty, Of}
use Rattle.osb_recipe.specs.declared.references.InputRecipe.{InputRecipe}
use Rattle.osb_recipe.proofs.Growing.{below_ref}
use Rattle.osb_recipe.proofs.Interning.{place_in-within}
use Rattle.osb_recipe.proofs.Exact.{same_bytes-self}
use Rattle.osb_manifest.specs.Manifests.{IsStage, ArePipelines}
use Rattle.osb_manifest.specs.Solo.{Blobs, items_given}
use Rattle.osb_manifest.specs.declared.manifests.Pipeline.{Pipeline}
use Rattle.osb_manifest.specs.declared.manifests.Stage.{Stage}
use Rattle.osb_manifest.specs.declared.manifests.Input.{Input}
use Rattle.osb_manifest.specs.declared.manifests.Input.TheVariants.{Tree, Files}
use Rattle.osb_plan.specs.declared.builds.Build.{Build}
use Rattle.osb_plan.specs.Planning.{Chains, ref_at, input_recipe, stage_recipe, key_of, with_recipe, keys_of_stages, table_with_stages, pipeline_keys, table_with_pipeline, chains_with, table_with, chains_after, table_after, same_chain}
use Rattle.osb_plan.specs.Held.{HasBlobs, AreEndsBelow, IsReadStage, IsReadPipeline}
use Rattle.osb_plan.specs.Bridge.{IsReady}
use Rattle.osb_plan.proofs.Interned.{Holds, interned_all-holds}
use Rattle.osb_plan.proofs.SameWorks.{items_all}
use Rattle.osb_plan.proofs.Bridged.{read_stage}

-- ---- one stage

-- what is left of a list at a place begins with the item there
pub left_at : {X : Type 0} (xs : List X) (i : ℕ) (x : X) → i < length xs → x ≡ get_or xs i x → drop i xs ≡ x ∷ drop (i + 1) xs
left_at xs i x within is = drop_more xs i x within ∙ ap (λ y. y ∷ drop (i + 1) xs) (sym is)

-- the same of a slice that shows the list
pub left_shown : {X : Type 0} (shown xs : List X) (i : ℕ) (x : X) → shown ≡ xs → i < length shown → x ≡ get_or shown i x → drop i xs ≡ x ∷ drop (i + 1) xs
left_shown {X} shown xs i x same within is =
    let Left : List X → Type 0 = λ ys. drop i ys ≡ x ∷ drop (i + 1) ys in
    subst Left same (left_at shown i x within is)

-- what is made so far and what is left make the whole, with one more item made
pub pushed_on : {X : Type 0} (now before left rest whole : List X) (x : X) → now ≡ before ++ x ∷ [] → left ≡ x ∷ rest → before ++ left ≡ whole → now ++ rest ≡ whole
pushed_on now before left rest whole x pushed parts made =
    ap (λ ys. ys ++ rest) pushed ∙ append_assoc before (x ∷ []) rest ∙ ap (λ ys. before ++ ys) (sym parts) ∙ made

pub record IsTurn (recipe : TreeRef → Stage → Origin) (base : TreeRef) (before now : TableData) (key : Key) (stages later : List Stage) : Type 0 where
  pub keys : keys_of_stages recipe base before stages ≡ key ∷ keys_of_stages recipe (Of key) now later
  pub table : table_with_stages recipe base before stages ≡ table_with_stages recipe (Of key) now later

pub stage_turn : (recipe : TreeRef → Stage → Origin) (base : TreeRef) (before now : TableData) (stages later : List Stage) (stage : Stage) (made : Origin) (key : Key)
    → stages ≡ stage ∷ later → made ≡ recipe base stage → key.0 ≡ place_in same_recipe before.recipes made → now.recipes ≡ interned same_recipe before.recipes made → now.blobs ≡ before.blobs
    → IsTurn recipe base before now key stages later
stage_turn recipe base before now stages later stage made key left is number recipes blobs =
    let here : key_of before (recipe base stage) ≡ key = λ i. record { 0 = sym (number ∙ ap (place_in same_recipe before.recipes) is) i } in
    let grown : with_recipe before (recipe base stage) ≡ now = λ i. record { recipes = sym (recipes ∙ ap (interned same_recipe before.recipes) is) i; blobs = sym blobs i } in
    let Turns : List Stage → Type 0 = λ ss. IsTurn recipe base before now key ss later in
    subst Turns (sym left) (record {
      keys = λ i. here i ∷ keys_of_stages recipe (Of (here i)) (grown i) later;
      table = λ i. table_with_stages recipe (Of (here i)) (grown i) later;
    })

-- ---- what a stage's recipe refers to

ref_step : (keys : ℕ) (here : Bool) (chain : List Key) (rest : Option (List Key)) → IsRefBelow keys (last_of chain) → IsRefBelow keys (option_map_or last_of rest Empty) → IsRefBelow keys (option_map_or last_of (cond here (Some chain) rest) Empty)
ref_step keys true chain rest first later = first
ref_step keys false chain rest first later = later

ref_below : (keys : ℕ) (chains : Chains) (place : ℕ) → AreEndsBelow keys chains → IsRefBelow keys (ref_at chains place)
ref_below keys [] place below = tt
ref_below keys (chain ∷ chains) place below =
    let Below : ℕ × List Key → Type 0 = λ c. IsRefBelow keys (last_of c.1) in
    ref_step keys (chain.0 == place) chain.1 (lookup (λ held. held == place) chains) (All-head Below chain chains below) (ref_below keys chains place (All-tail Below chain chains below))

-- where more keys are there
pub ends_below-more : (few many : ℕ) (chains : Chains) → few ≤ many → AreEndsBelow few chains → AreEndsBelow many chains
ends_below-more few many chains more below =
    let Below : ℕ → (ℕ × List Key) → Type 0 = λ keys c. IsRefBelow keys (last_of c.1) in
    All-weaker (Below few) (Below many) (λ c h. below_ref few many (last_of c.1) more h) chains below

build_below : (keys : ℕ) (chains : Chains) (build : Option ℕ) → AreEndsBelow keys chains → IsBuildBelow keys (option_map (ref_at chains) build)
build_below keys chains None ends = tt
build_below keys chains (Some place) ends = ref_below keys chains place ends

held_values : (blobs : List (List ℕ)) (gathered : Blobs) → HasBlobs blobs gathered → AllByRecursion (Holds same_bytes blobs) (values_of gathered)
held_values blobs [] held = tt
held_values blobs (blob ∷ gathered) held =
    let Held : List ℕ × List ℕ → Type 0 = λ b. Holds same_bytes blobs b.1 in
    (All-head Held blob gathered held, held_values blobs gathered (All-tail Held blob gathered held))

input_below : (gathered : Blobs) (chains : Chains) (keys : ℕ) (blobs : List (List ℕ)) → HasBlobs blobs gathered → AreEndsBelow keys chains → (input : Input) → IsInputBelow keys (length blobs) (input_recipe gathered chains blobs input)
input_below gathered chains keys blobs held ends (Tree place options) = ref_below keys chains place ends
input_below gathered chains keys blobs held ends (Files files) =
    All-map (λ (number : ℕ). number < length blobs) (place_in same_bytes blobs) (items_given gathered files)
    (All-from_recursion (Holds same_bytes blobs) (items_given gathered files) (items_all (Holds same_bytes blobs) gathered files (held_values blobs gathered held)))

pub stage_recipe-below : (gathered : Blobs) (chains : Chains) (keys : ℕ) (blobs : List (List ℕ)) (build : Option ℕ) (base : TreeRef) (stage : Stage)
    → HasBlobs blobs gathered → AreEndsBelow keys chains → IsRefBelow keys base → IsBelow keys (length blobs) (stage_recipe gathered chains blobs build base stage)
stage_recipe-below gathered chains keys blobs build base stage held ends below =
    let named : List ℕ × Input → List ℕ × InputRecipe = λ input. (input.0, input_recipe gathered chains blobs input.1) in
    let Below : List ℕ × InputRecipe → Type 0 = λ input. IsInputBelow keys (length blobs) input.1 in
    record {
      build = build_below keys chains build ends;
      base = below;
      inputs = All-map Below named stage.inputs (λ k d h. input_below gathered chains keys blobs held ends (get_or stage.inputs k d).1);
    }

-- ---- the last key of a pipeline

within_step : (b : Bool) (n : ℕ) (items : List Origin) (item : Origin) → n ≤ length items → b ≡ nat_lt n (length items) → n < length (cond b items (items ++ item ∷ []))
within_step true n items item within test = grind (arith, nat_tests)
within_step false n items item within test = omega (arith, length-append items (item ∷ []))

place_in-interned : (items : List Origin) (item : Origin) → place_in same_recipe items item < length (interned same_recipe items item)
place_in-interned items item = within_step (nat_lt (place_in same_recipe items item) (length items)) (place_in same_recipe items item) items item (place_in-within same_recipe items item) refl

pub last_below : (recipe : TreeRef → Stage → Origin) (base : TreeRef) (table : TableData) (stages : List Stage) → IsRefBelow (length table.recipes) base
    → IsRefBelow (length (table_with_stages recipe base table stages).recipes) (last_from base (keys_of_stages recipe base table stages))
last_below recipe base table [] below = below
last_below recipe base table (stage ∷ stages) below =
    last_below recipe (Of (key_of table (recipe base stage))) (with_recipe table (recipe base stage)) stages (place_in-interned table.recipes (recipe base stage))

pub last_of_pipeline : (gathered : Blobs) (chains : Chains) (table now : TableData) (pipeline : Pipeline) (keys : List Key) → keys ≡ pipeline_keys gathered chains table pipeline → now ≡ table_with_pipeline gathered chains table pipeline → IsRefBelow (length now.recipes) (last_of keys)
last_of_pipeline gathered chains table now pipeline keys are is =
    let recipe : TreeRef → Stage → Origin = stage_recipe gathered chains table.blobs pipeline.build in
    let Below : TableData → List Key → Type 0 = λ t ks. IsRefBelow (length t.recipes) (last_of ks) in
    subst (λ (t : TableData). Below t keys) (sym is) (subst (λ (ks : List Key). Below (table_with_pipeline gathered chains table pipeline) ks) (sym are) (last_below recipe Empty table pipeline.stages tt))

pub ends_below-pushed : (few many place : ℕ) (chains : Chains) (chain : List Key) → few ≤ many → AreEndsBelow few chains → IsRefBelow many (last_of chain) → AreEndsBelow many (chains ++ (place, chain) ∷ [])
ends_below-pushed few many place chains chain more below last =
    let Below : ℕ × List Key → Type 0 = λ c. IsRefBelow many (last_of c.1) in
    All-append Below chains ((place, chain) ∷ []) (ends_below-more few many chains more below) (All-cons Below (place, chain) [] last (All-nil Below))

-- ---- the pipelines at some places

pub record IsPlaceTurn (pipelines : List Pipeline) (gathered : Blobs) (table grown : TableData) (chains now : Chains) (places later : List ℕ) : Type 0 where
  pub keys : chains_after pipelines gathered grown now later ≡ chains_after pipelines gathered table chains places
  pub recipes : table_after pipelines gathered grown now later ≡ table_after pipelines gathered table chains places

pub place_turn : (pipelines : List Pipeline) (gathered : Blobs) (table grown : TableData) (chains now : Chains) (places later : List ℕ) (place : ℕ)
    → places ≡ place ∷ later → now ≡ chains_with gathered table chains place (slice_get pipelines place) → grown ≡ table_with gathered table chains (slice_get pipelines place)
    → IsPlaceTurn pipelines gathered table grown chains now places later
place_turn pipelines gathered table grown chains now places later place left are is =
    let Turns : List ℕ → Type 0 = λ ps. IsPlaceTurn pipelines gathered table grown chains now ps later in
    subst Turns (sym left) (record { keys = λ i. chains_after pipelines gathered (is i) (are i) later; recipes = λ i. table_after pipelines gathered (is i) (are i) later })

-- ---- blobs

by_values : (P : List ℕ → Type 0) (gathered : Blobs) → AllByRecursion P (values_of gathered) → AllByRecursion (λ held. P held.1) gathered
by_values P [] all = tt
by_values P (held ∷ gathered) all = (all.0, by_values P gathered all.1)

pub has_blobs : (blobs : List (List ℕ)) (gathered : Blobs) → HasBlobs (interned_all same_bytes blobs (values_of gathered)) gathered
has_blobs blobs gathered =
    let Held : List ℕ → Type 0 = λ bytes. place_in same_bytes (interned_all same_bytes blobs (values_of gathered)) bytes < length (interned_all same_bytes blobs (values_of gathered)) in
    All-from_recursion (λ held. Held held.1) gathered (by_values Held gathered (interned_all-holds same_bytes same_bytes-self blobs (values_of gathered)))

-- ---- tasks

pub interned_all-append : {X : Type 0} (same : X → X → Bool) (items xs ys : List X) → interned_all same items (xs ++ ys) ≡ interned_all same (interned_all same items xs) ys
interned_all-append same items [] ys = refl
interned_all-append same items (x ∷ xs) ys = interned_all-append same (interned same items x) xs ys

pub chains_turn : (tasks now : List (List Key)) (builds later : List Chains) (chains shown : Chains) → builds ≡ chains ∷ later → shown ≡ chains → now ≡ interned_all same_chain tasks (values_of shown)
    → interned_all same_chain now (flat_map (λ c. values_of c) later) ≡ interned_all same_chain tasks (flat_map (λ c. values_of c) builds)
chains_turn tasks now builds later chains shown left same made =
    ap (λ ts. interned_all same_chain ts (flat_map (λ c. values_of c) later)) (made ∙ ap (λ cs. interned_all same_chain tasks (values_of cs)) same)
    ∙ sym (interned_all-append same_chain tasks (values_of chains) (flat_map (λ c. values_of c) later))
    ∙ ap (λ bs. interned_all same_chain tasks (flat_map (λ c. values_of c) bs)) (sym left)

-- ---- builds that are ready

read_stages : (i : ℕ) (stages : List Stage) → AllByRecursion (IsStage i) stages → AllByRecursion IsReadStage stages
read_stages i [] all = tt
read_stages i (stage ∷ stages) all = (read_stage i stage all.0, read_stages i stages all.1)

read_pipelines : (i : ℕ) (pipelines : List Pipeline) → ArePipelines i pipelines → AllByRecursion IsReadPipeline pipelines
read_pipelines i [] all = tt
read_pipelines i (pipeline ∷ pipelines) all = (read_stages i pipeline.stages all.0.stages, read_pipelines (i + 1) pipelines all.1)

pub reads_builds : (builds : List Build) → All IsReady builds → All (λ build. AllByRecursion IsReadPipeline (values_of build.manifest.pipelines)) builds
reads_builds builds ready = All-weaker IsReady (λ (build : Build). AllByRecursion IsReadPipeline (values_of build.manifest.pipelines)) (λ build is. read_pipelines 0 (values_of build.manifest.pipelines) is.formed.pipelines) builds ready
