-- What a needed pipeline is built with stands before it among the needed ones.
use Rattle.std.proofs.Common.{◌≡◌, ℕ, zero, suc, ◌+◌, ◌<◌, Bool, true, false, true≢false, ◌||◌, eqb, List, [], ◌∷◌, ◌++◌, length, Option, Some, None, refl, sym, ap, ap₂, ◌∙◌, subst, arith, append_assoc, Less}
use Rattle.std.specs.Prelude.{slice_get, option_map}
use Rattle.std.specs.List.{AllByRecursion, flat_map}
use Rattle.std.specs.List.Sorted.{IsStrictlySortedBy}
use Rattle.std.specs.Map.{values_of}
use Rattle.std.specs.Option.{IfSome}
use Rattle.std.specs.Ordering.{nat_cmp}
use Rattle.std.proofs.lemmas.Bool.Decides.{Decides-eqb, nat_tests}
use Rattle.std.proofs.lemmas.List.Elements.{recursion_from_All}
use Rattle.std.proofs.lemmas.List.Folds.{list_any-append}
use Rattle.std.proofs.lemmas.Map.Keys.{sorted_head, sorted_tail, sorted_from_strictly_increasing}
use Rattle.std.proofs.lemmas.Option.{slice_get-map}
use Rattle.osb_manifest.specs.declared.manifests.Manifest.{Manifest}
use Rattle.osb_manifest.specs.declared.manifests.Pipeline.{Pipeline}
use Rattle.osb_manifest.specs.declared.manifests.Stage.{Stage}
use Rattle.osb_manifest.specs.declared.manifests.Input.{Input}
use Rattle.osb_manifest.specs.declared.manifests.Input.TheVariants.{Tree, Files}
use Rattle.osb_manifest.specs.Manifests.{IsInput, IsStage, IsPipeline, ArePipelines, IsWellFormed}
use Rattle.osb_manifest.specs.Needed.{input_needs, inputs_need, build_needs, needs_of, has_place, needed_places, IsClosed}
use Rattle.osb_manifest.proofs.NeededLaws.{rising, are_places, closed}
use Rattle.osb_plan.specs.Bridge.{IsReady}
use Rattle.osb_plan.specs.declared.builds.Build.{Build}
use Rattle.osb_plan.proofs.Lists.{all_both, all_from_each, or_left, or_right, all_places, of_place}

abbrev pub AreAmong : List ℕ → List ℕ → Type 0
AreAmong done places = AllByRecursion (λ place. has_place done place ≡ true) places

-- the pipeline at a place is built with what is done already
pub record IsMet (pipelines : List Pipeline) (done : List ℕ) (place : ℕ) : Type 0 where
  pub pipeline : Pipeline
  pub there : slice_get pipelines place ≡ Some pipeline
  pub formed : IsPipeline place pipeline
  pub needs : AreAmong done (needs_of pipeline)

-- and so one after another
abbrev pub AreMet : List Pipeline → List ℕ → List ℕ → Type 0
AreMet pipelines done [] = Unit {0}
AreMet pipelines done (place ∷ places) = IsMet pipelines done place × AreMet pipelines (done ++ place ∷ []) places

-- ---- what a pipeline is built with stands before it

module _ (place : ℕ) where
  abbrev AreBelow : List ℕ → Type 0
  AreBelow needs = AllByRecursion (λ need. need < place) needs

  input_below : (input : Input) → IsInput place input → AreBelow (input_needs input)
  input_below (Tree at options) h = (h, tt)
  input_below (Files files) h = tt

  inputs_below : (inputs : List (List ℕ × Input)) → AllByRecursion (IsInput place) (values_of inputs) → AllByRecursion (λ input. AreBelow (input_needs input.1)) inputs
  inputs_below [] all = tt
  inputs_below (input ∷ inputs) all = (input_below input.1 all.0, inputs_below inputs all.1)

  stages_below : (stages : List Stage) → AllByRecursion (IsStage place) stages → AllByRecursion (λ stage. AreBelow (inputs_need stage.inputs)) stages
  stages_below [] all = tt
  stages_below (stage ∷ stages) all =
      (all_from_each (λ need. need < place) (λ input. input_needs input.1) stage.inputs (inputs_below stage.inputs all.0.inputs), stages_below stages all.1)

  build_below : (build : Option ℕ) → IfSome build (λ at. at < place) → AreBelow (build_needs build)
  build_below None h = tt
  build_below (Some at) h = (h, tt)

  pipeline_below : (pipeline : Pipeline) → IsPipeline place pipeline → AreBelow (needs_of pipeline)
  pipeline_below pipeline is =
      all_both (λ need. need < place) (build_needs pipeline.build) (flat_map (λ stage. inputs_need stage.inputs) pipeline.stages) (build_below pipeline.build is.build)
      (all_from_each (λ need. need < place) (λ stage. inputs_need stage.inputs) pipeline.stages (stages_below pipeline.stages is.stages))

-- ---- the pipeline at a place

item_at : {X : Type 0} (items : List X) (place : ℕ) → place < length items → (item : X) × (slice_get items place ≡ Some item)
item_at [] place h = absurd (omega arith)
item_at (x ∷ items) zero h = (x, refl)
item_at (x ∷ items) (suc place) h = item_at items place (omega arith)

pipeline_at : (pipelines : List Pipeline) (i k : ℕ) (pipeline : Pipeline) → ArePipelines i pipelines → slice_get pipelines k ≡ Some pipeline → IsPipeline (i + k) pipeline
pipeline_at [] i k pipeline all there = absurd (cc)
pipeline_at (first ∷ pipelines) i zero pipeline all there =
    let is : first ≡ pipeline = cc in
    let here : i ≡ i + 0 = omega arith in
    subst (λ (n : ℕ). IsPipeline n pipeline) here (subst (IsPipeline i) is all.0)
pipeline_at (first ∷ pipelines) i (suc k) pipeline all there =
    let next : i + 1 + k ≡ i + suc k = omega arith in
    subst (λ (n : ℕ). IsPipeline n pipeline) next (pipeline_at pipelines (i + 1) k pipeline all.1 there)

-- ---- rising places

other_place : (i j : ℕ) (b : Bool) → (i ≡ j → ⊥) → eqb i j ≡ b → b ≡ false
other_place i j true apart e = absurd (apart ((Decides-eqb i j).0 e))
other_place i j false apart e = refl

none_above : (low need : ℕ) (places : List ℕ) → need < low → AllByRecursion (λ place. nat_cmp low place ≡ Less) places → has_place places need ≡ false
none_above low need [] h all = refl
none_above low need (place ∷ places) h all =
    let above : low < place = less low place all.0 in
    ap₂ (λ a b. a || b) (other_place place need (eqb place need) (λ same. absurd (omega arith)) refl) (none_above low need places h all.1)
  where
    less : (a b : ℕ) → nat_cmp a b ≡ Less → a < b
    less a b e = grind (arith, nat_tests)

or_first : (a b : Bool) → (a || b) ≡ true → b ≡ false → a ≡ true
or_first true b e none = refl
or_first false b e none = absurd (true≢false (sym e ∙ none))

-- what a rising list has below a place stands before it
before : (done : List ℕ) (place need : ℕ) (places : List ℕ) → need < place → AllByRecursion (λ later. nat_cmp place later ≡ Less) places → has_place (done ++ place ∷ places) need ≡ true → has_place done need ≡ true
before done place need places low above e =
    let parts : has_place (done ++ place ∷ places) need ≡ (has_place done need || has_place (place ∷ places) need) = list_any-append (λ held. eqb held need) done (place ∷ places) in
    let none : has_place (place ∷ places) need ≡ false = ap₂ (λ a b. a || b) (other_place place need (eqb place need) (λ same. absurd (omega arith)) refl) (none_above place need places low above) in
    or_first (has_place done need) (has_place (place ∷ places) need) (sym parts ∙ e) none

has_here : (done : List ℕ) (place : ℕ) (places : List ℕ) → has_place (done ++ place ∷ places) place ≡ true
has_here [] place places = or_left (eqb place place) (has_place places place) ((Decides-eqb place place).1 refl)
has_here (first ∷ done) place places = or_right (eqb first place) (has_place (done ++ place ∷ places) place) (has_here done place places)

-- ---- the needed places

module _ (manifest : Manifest) (formed : IsWellFormed manifest) (full : List ℕ) (whole : IsClosed manifest (has_place full)) where
  met_one : (done : List ℕ) (place : ℕ) (places : List ℕ) → done ++ place ∷ places ≡ full → place < length manifest.pipelines → AllByRecursion (λ later. nat_cmp place later ≡ Less) places → IsMet (values_of manifest.pipelines) done place
  met_one done place places is within above =
      let Has : List ℕ → ℕ → Type 0 = λ all need. has_place all need ≡ true in
      let found = item_at manifest.pipelines place within in
      let there : slice_get (values_of manifest.pipelines) place ≡ Some found.0.1 = slice_get-map (λ entry. entry.1) manifest.pipelines place ∙ ap (option_map (λ entry. entry.1)) found.1 in
      let first : 0 + place ≡ place = omega arith in
      let formed_here : IsPipeline place found.0.1 = subst (λ (n : ℕ). IsPipeline n found.0.1) first (pipeline_at (values_of manifest.pipelines) 0 place found.0.1 formed.pipelines there) in
      let held : has_place full place ≡ true = subst (λ all. Has all place) is (has_here done place places) in
      record {
        pipeline = found.0.1;
        there = there;
        formed = formed_here;
        needs = all_places (λ need. has_place done need ≡ true) (needs_of found.0.1) (λ need e.
            let low : need < place = of_place (λ n. n < place) (needs_of found.0.1) need (pipeline_below place found.0.1 formed_here) e in
            before done place need places low above (subst (λ all. Has all need) (sym is) (whole found.0.0 place need found.0.1 found.1 held e)));
      }

  met_from : (done rest : List ℕ) → done ++ rest ≡ full → AllByRecursion (λ place. place < length manifest.pipelines) rest → IsStrictlySortedBy nat_cmp rest → AreMet (values_of manifest.pipelines) done rest
  met_from done [] is within sorted = tt
  met_from done (place ∷ places) is within sorted =
      (met_one done place places is within.0 (sorted_head nat_cmp place places sorted), met_from (done ++ place ∷ []) places (append_assoc done (place ∷ []) places ∙ is) within.1 (sorted_tail nat_cmp place places sorted))

pub ready_is_met : (build : Build) → IsReady build → AreMet (values_of build.manifest.pipelines) [] build.needed
ready_is_met build ready =
    let Met : List ℕ → Type 0 = λ places. AreMet (values_of build.manifest.pipelines) [] places in
    let places = needed_places build.manifest ready.exports in
    let within = recursion_from_All (λ place. place < length build.manifest.pipelines) places (are_places build.manifest ready.exports) in
    subst Met (sym ready.needed) (met_from build.manifest ready.formed places (closed build.manifest ready.exports ready.formed) [] places refl within (sorted_from_strictly_increasing places (rising build.manifest ready.exports)))
