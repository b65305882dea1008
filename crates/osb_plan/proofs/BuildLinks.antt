-- The pipelines of builds make linked chains.
use Rattle.std.proofs.Common.{◌≡◌, ℕ, ◌+◌, ◌<◌, ◌==◌, zero, suc, Bool, true, List, [], ◌∷◌, ◌++◌, length, take, flat_map, Option, Some, None, refl, sym, ap, ◌∙◌, subst, append_assoc, append-nil}
use Rattle.std.specs.Prelude.{slice_get}
use Rattle.std.specs.Option.{IfSome, option_map_or}
use Rattle.std.specs.List.{AllByRecursion}
use Rattle.std.specs.Map.{values_of, lookup}
use Rattle.std.proofs.lemmas.List.Elements.{recursion_from_All}
use Rattle.std.proofs.lemmas.Option.{slice_get_within}
use Rattle.osb_tree.specs.declared.numbers.Key.{Key}
use Rattle.osb_recipe.specs.Tables.{TableData, IsTable, same_bytes, last_of}
use Rattle.osb_recipe.specs.declared.references.TreeRef.{TreeRef}
use Rattle.osb_recipe.specs.declared.references.TreeRef.TheVariants.{Empty, Of}
use Rattle.osb_recipe.proofs.Exact.{exact_bytes, same_bytes-self}
use Rattle.osb_manifest.specs.Manifests.{IsPipeline, ArePipelines}
use Rattle.osb_manifest.specs.Solo.{Blobs}
use Rattle.osb_manifest.specs.declared.manifests.Pipeline.{Pipeline}
use Rattle.osb_plan.specs.declared.builds.Build.{Build}
use Rattle.osb_plan.specs.Bridge.{IsItem, IsReady}
use Rattle.osb_plan.specs.Planning.{Chains, ref_at, pipeline_keys, table_with_pipeline, chains_with, table_with, chains_after, table_after, with_blobs, build_chains, table_with_build, chains_of_builds, table_with_builds}
use Rattle.osb_plan.proofs.HeldItems.{IsHeld, IsHeld-stands, interned_all-holds}
use Rattle.osb_plan.proofs.Links.{IsEnd, IsEnd-between, Meets, AreLinks, AreLinked, AreLinked-later, AreLinked-pushed}
use Rattle.osb_plan.proofs.GivenItems.{lookup-has, HasBlob}
use Rattle.osb_plan.proofs.StageLinks.{AreMade-stages}
use Rattle.osb_plan.proofs.LaterTables.{Extends-with_blobs, IsTable-with_blobs}
use Rattle.osb_plan.proofs.TaskLinks.{links_at}

-- ---- the tree of a place ends a chain

end_meets : (before after : List (List Key)) (chain : List Key) (ref : TreeRef) → last_of chain ≡ ref → Meets (IsEnd (before ++ chain ∷ after)) ref
end_meets before after chain Empty last = tt
end_meets before after chain (Of key) last = IsEnd-between before after chain key last

all_meet : (test : ℕ → Bool) (before : List (List Key)) (chains : Chains) → AllByRecursion (λ (entry : ℕ × List Key). test entry.0 ≡ true → Meets (IsEnd (before ++ values_of chains)) (last_of entry.1)) chains
all_meet test before [] = tt
all_meet test before (entry ∷ chains) = (
  λ e. end_meets before (values_of chains) entry.1 (last_of entry.1) refl,
  subst (λ (some : List (List Key)). AllByRecursion (λ (other : ℕ × List Key). test other.0 ≡ true → Meets (IsEnd some) (last_of other.1)) chains) (append_assoc before (entry.1 ∷ []) (values_of chains)) (all_meet test (before ++ entry.1 ∷ []) chains),
)

found_meets : (P : Key → Type 0) (found : Option (List Key)) → IfSome found (λ chain. Meets P (last_of chain)) → Meets P (option_map_or last_of found Empty)
found_meets P None h = tt
found_meets P (Some chain) h = h

ref_meets : (before : List (List Key)) (chains : Chains) (place : ℕ) → Meets (IsEnd (before ++ values_of chains)) (ref_at chains place)
ref_meets before chains place =
    let ends : List (List Key) = before ++ values_of chains in
    found_meets (IsEnd ends) (lookup (λ (held : ℕ). held == place) chains) (lookup-has (λ (chain : List Key). Meets (IsEnd ends) (last_of chain)) (λ (held : ℕ). held == place) chains (all_meet (λ (held : ℕ). held == place) before chains))

-- ---- ends are keys of the table

last_below : (table : TableData) (chains : List (List Key)) (base : TreeRef) (keys : List Key) (key : Key) → AreLinks chains table base keys → last_of keys ≡ Of key → key.0 < length table.recipes
last_below table chains base [] key links last = absurd (cc)
last_below table chains base (first ∷ []) key links last =
    let is : first ≡ key = cc in
    subst (λ (k : Key). k.0 < length table.recipes) is (slice_get_within table.recipes first.0 links.0.recipe links.0.at)
last_below table chains base (first ∷ next ∷ keys) key links last = last_below table chains (Of first) (next ∷ keys) key links.1 last

end_below : (table : TableData) (before chains : List (List Key)) (key : Key) → AreLinked table before chains → IsEnd chains key → key.0 < length table.recipes
end_below table before chains key linked end =
    last_below table (before ++ take end.place chains) Empty end.chain key (links_at table before chains end.place end.chain linked end.at) end.last

-- ---- the pipelines of one build

values_of-pushed : (chains : Chains) (place : ℕ) (keys : List Key) → values_of (chains ++ (place, keys) ∷ []) ≡ values_of chains ++ keys ∷ []
values_of-pushed [] place keys = refl
values_of-pushed (entry ∷ chains) place keys = ap (λ (rest : List (List Key)). entry.1 ∷ rest) (values_of-pushed chains place keys)

pipeline_at : (i : ℕ) (pipelines : List Pipeline) (place : ℕ) → ArePipelines i pipelines → IfSome (slice_get pipelines place) (λ pipeline. (j : ℕ) × IsPipeline j pipeline)
pipeline_at i [] place are = tt
pipeline_at i (pipeline ∷ pipelines) zero are = (i, are.0)
pipeline_at i (pipeline ∷ pipelines) (suc place) are = pipeline_at (i + 1) pipelines place are.1

module _ (pipelines : List Pipeline) (gathered : Blobs) (before : List (List Key)) (blobs : List (List ℕ)) (are : ArePipelines 0 pipelines) (items : AllByRecursion IsItem gathered) (there : AllByRecursion (HasBlob blobs) (values_of gathered)) where
  -- a table that has the blobs, and the build's chains so far, linked behind those of the builds before it
  record IsState (table : TableData) (chains : Chains) : Type 0 where
    pub is_table : IsTable table
    pub same_blobs : table.blobs ≡ blobs
    pub linked : AreLinked table [] (before ++ values_of chains)

  pipeline_step : (table : TableData) (chains : Chains) (place : ℕ) (pipeline : Option Pipeline) → IfSome pipeline (λ one. (j : ℕ) × IsPipeline j one) → IsState table chains → IsState (table_with gathered table chains pipeline) (chains_with gathered table chains place pipeline)
  pipeline_step table chains place None is state = state
  pipeline_step table chains place (Some pipeline) is state =
      let ends : List (List Key) = before ++ values_of chains in
      let keys : List Key = pipeline_keys gathered chains table pipeline in
      let later : TableData = table_with_pipeline gathered chains table pipeline in
      let held : AllByRecursion (HasBlob table.blobs) (values_of gathered) = subst (λ (some : List (List ℕ)). AllByRecursion (HasBlob some) (values_of gathered)) (sym state.same_blobs) there in
      let made = AreMade-stages gathered chains table.blobs ends items held (ref_meets before chains) is.0 pipeline.build Empty table pipeline.stages state.is_table refl (λ key end. end_below table [] ends key state.linked end) tt is.1.stages in
      let pushed : AreLinked later [] (ends ++ keys ∷ []) = AreLinked-pushed later [] ends keys (AreLinked-later table later made.later [] ends state.linked) made.links in
      let same : ends ++ keys ∷ [] ≡ before ++ values_of (chains ++ (place, keys) ∷ []) = append_assoc before (values_of chains) (keys ∷ []) ∙ ap (λ (rest : List (List Key)). before ++ rest) (sym (values_of-pushed chains place keys)) in
      record {
        is_table = made.is_table;
        same_blobs = made.same_blobs ∙ state.same_blobs;
        linked = subst (λ (some : List (List Key)). AreLinked later [] some) same pushed;
      }

  pipelines_linked : (table : TableData) (chains : Chains) (places : List ℕ) → IsState table chains → IsState (table_after pipelines gathered table chains places) (chains_after pipelines gathered table chains places)
  pipelines_linked table chains [] state = state
  pipelines_linked table chains (place ∷ places) state =
      pipelines_linked (table_with gathered table chains (slice_get pipelines place)) (chains_with gathered table chains place (slice_get pipelines place)) places (pipeline_step table chains place (slice_get pipelines place) (pipeline_at 0 pipelines place are) state)

-- ---- what was gathered

blobs_there : (blobs values : List (List ℕ)) → AllByRecursion (IsHeld same_bytes blobs) values → AllByRecursion (HasBlob blobs) values
blobs_there blobs [] held = tt
blobs_there blobs (value ∷ values) held = (IsHeld-stands same_bytes exact_bytes blobs value held.0, blobs_there blobs values held.1)

-- ---- builds

build_linked : (before : List (List Key)) (table : TableData) (build : Build) → IsReady build → IsTable table → AreLinked table [] before → IsTable (table_with_build table build) × AreLinked (table_with_build table build) [] (before ++ values_of (build_chains table build))
build_linked before table build ready is linked =
    let first : TableData = with_blobs table build.blobs in
    let pipelines : List Pipeline = values_of build.manifest.pipelines in
    let items : AllByRecursion IsItem build.blobs = recursion_from_All IsItem build.blobs ready.items in
    let there : AllByRecursion (HasBlob first.blobs) (values_of build.blobs) = blobs_there first.blobs (values_of build.blobs) (interned_all-holds same_bytes same_bytes-self table.blobs (values_of build.blobs)) in
    let moved : AreLinked first [] before = AreLinked-later table first (Extends-with_blobs table build.blobs) [] before linked in
    let state : IsState pipelines build.blobs before first.blobs ready.formed.pipelines items there first [] = record {
      is_table = IsTable-with_blobs table build.blobs is;
      same_blobs = refl;
      linked = subst (λ (some : List (List Key)). AreLinked first [] some) (sym (append-nil before)) moved;
    } in
    let last = pipelines_linked pipelines build.blobs before first.blobs ready.formed.pipelines items there first [] build.needed state in
    (last.is_table, last.linked)

pub builds_linked : (before : List (List Key)) (table : TableData) (builds : List Build) → AllByRecursion IsReady builds → IsTable table → AreLinked table [] before
    → AreLinked (table_with_builds table builds) [] (before ++ flat_map (λ (chains : Chains). values_of chains) (chains_of_builds table builds))
builds_linked before table [] ready is linked = subst (λ (some : List (List Key)). AreLinked table [] some) (sym (append-nil before)) linked
builds_linked before table (build ∷ builds) ready is linked =
    let one = build_linked before table build ready.0 is linked in
    let chains : List (List Key) = values_of (build_chains table build) in
    let later : TableData = table_with_build table build in
    let rest = builds_linked (before ++ chains) later builds ready.1 one.0 one.1 in
    subst (λ (some : List (List Key)). AreLinked (table_with_builds later builds) [] some) (append_assoc before chains (flat_map (λ (more : Chains). values_of more) (chains_of_builds later builds))) rest
