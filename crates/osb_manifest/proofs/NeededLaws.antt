-- The places that exports need rise, and are the least set that holds the exports' places and is closed.
use Rattle.std.proofs.Common.{◌≡◌, ◌⊎◌, inl, inr, ℕ, zero, suc, ◌+◌, ◌<◌, ◌≤◌, Bool, true, false, true≢false, IsTrue, ◌||◌, eqb, cond, if◌then◌else◌, List, [], ◌∷◌, ◌++◌, length, slice_get, Option, Some, None, All, refl, sym, ap, ap₂, ◌∙◌, subst, arith, zero-add, Less, Equal, Greater}
use Rattle.std.specs.List.{AllByRecursion, flat_map}
use Rattle.std.specs.List.Sorted.{IsStrictlySortedBy, IsStrictlyIncreasing}
use Rattle.std.specs.Map.{values_of}
use Rattle.std.specs.Option.{IfSome}
use Rattle.std.specs.Ordering.{nat_cmp}
use Rattle.std.proofs.lemmas.Bool.Decides.{Decides-eqb, Decides-ltb}
use Rattle.std.proofs.lemmas.List.Elements.{All-from_recursion}
use Rattle.std.proofs.lemmas.Map.Keys.{IsStrictlyIncreasing-from_sorted}
use Rattle.osb_manifest.specs.declared.manifests.Manifest.{Manifest}
use Rattle.osb_manifest.specs.declared.manifests.Pipeline.{Pipeline}
use Rattle.osb_manifest.specs.declared.manifests.Stage.{Stage}
use Rattle.osb_manifest.specs.declared.manifests.Input.{Input}
use Rattle.osb_manifest.specs.declared.manifests.Input.TheVariants.{Tree, Files}
use Rattle.osb_manifest.specs.Manifests.{IsInput, IsStage, IsPipeline, ArePipelines, IsWellFormed}
use Rattle.osb_manifest.specs.Needed.{input_needs, inputs_need, build_needs, needs_of, is_among, has_place, is_needed_by, needed_from, places_of, needed_places, PassesExports, IsClosed}

abbrev Entry : Type 0
Entry = List ℕ × Pipeline

-- ---- tests

or_left : (a b : Bool) → a ≡ true → (a || b) ≡ true
or_left true b e = refl
or_left false b e = absurd (true≢false (sym e))

or_right : (a b : Bool) → b ≡ true → (a || b) ≡ true
or_right true b e = refl
or_right false b e = e

or_cases : (a b : Bool) → (a || b) ≡ true → (a ≡ true) ⊎ (b ≡ true)
or_cases true b e = inl refl
or_cases false b e = inr e

on : {A B C : Type 0} → A ⊎ B → (A → C) → (B → C) → C
on (inl x) f g = f x
on (inr y) f g = g y

by_test : {C : Type 0} (b : Bool) → (b ≡ true → C) → (b ≡ false → C) → C
by_test true f g = f refl
by_test false f g = g refl

same_place : (i j : ℕ) → i ≡ j → eqb i j ≡ true
same_place i j e = (Decides-eqb i j).1 e

other_place : (i j : ℕ) (b : Bool) → (i ≡ j → ⊥) → eqb i j ≡ b → b ≡ false
other_place i j true h e = absurd (h ((Decides-eqb i j).0 e))
other_place i j false h e = refl

-- ---- one pipeline, and later ones

-- a place of the later ones is one of all
has_later : (b : Bool) (i j : ℕ) (p : Pipeline) (later : List (ℕ × Pipeline)) → has_place (places_of later) j ≡ true → has_place (places_of (if b then (i, p) ∷ later else later)) j ≡ true
has_later true i j p later e = or_right (eqb i j) (has_place (places_of later) j) e
has_later false i j p later e = e

-- another place than the first is one of the later ones
later_has : (b : Bool) (i j : ℕ) (p : Pipeline) (later : List (ℕ × Pipeline)) → (i ≡ j → ⊥) → has_place (places_of (if b then (i, p) ∷ later else later)) j ≡ true → has_place (places_of later) j ≡ true
later_has true i j p later h e = sym (ap (λ c. c || has_place (places_of later) j) (other_place i j _ h refl)) ∙ e
later_has false i j p later h e = e

has_first : (b : Bool) (i j : ℕ) (p : Pipeline) (later : List (ℕ × Pipeline)) → b ≡ true → i ≡ j → has_place (places_of (if b then (i, p) ∷ later else later)) j ≡ true
has_first true i j p later e s = or_left (eqb i j) (has_place (places_of later) j) (same_place i j s)
has_first false i j p later e s = absurd (true≢false (sym e))

needs_later : (b : Bool) (i need : ℕ) (p : Pipeline) (later : List (ℕ × Pipeline)) → is_needed_by later need ≡ true → is_needed_by (if b then (i, p) ∷ later else later) need ≡ true
needs_later true i need p later e = or_right (has_place (needs_of p) need) (is_needed_by later need) e
needs_later false i need p later e = e

needs_first : (b : Bool) (i need : ℕ) (p : Pipeline) (later : List (ℕ × Pipeline)) → has_place (places_of (if b then (i, p) ∷ later else later)) i ≡ true → has_place (places_of later) i ≡ false → has_place (needs_of p) need ≡ true → is_needed_by (if b then (i, p) ∷ later else later) need ≡ true
needs_first true i need p later e none h = or_left (has_place (needs_of p) need) (is_needed_by later need) h
needs_first false i need p later e none h = absurd (true≢false (sym e ∙ none))

either_first : (P : ℕ × Pipeline → Type 0) (b : Bool) (e : ℕ × Pipeline) (later : List (ℕ × Pipeline)) → (b ≡ true → P e) → AllByRecursion P later → AllByRecursion P (if b then e ∷ later else later)
either_first P true e later h k = (h refl, k)
either_first P false e later h k = k

module _ (exports : List (List ℕ)) where
  abbrev found : ℕ → List Entry → List (ℕ × Pipeline)
  found i pipelines = needed_from exports i pipelines

  -- ---- between the first place and the end

  abbrev Lies : ℕ → ℕ → ℕ × Pipeline → Type 0
  Lies low high e = (low ≤ e.0) × (e.0 < high)

  weaker : (low low' high high' : ℕ) (es : List (ℕ × Pipeline)) → low' ≤ low → high ≤ high' → AllByRecursion (Lies low high) es → AllByRecursion (Lies low' high') es
  weaker low low' high high' [] l h k = tt
  weaker low low' high high' (e ∷ es) l h k = ((omega arith, omega arith), weaker low low' high high' es l h k.1)

  lie : (i : ℕ) (pipelines : List Entry) → AllByRecursion (Lies i (i + length pipelines)) (found i pipelines)
  lie i [] = tt
  lie i (e ∷ pipelines) =
      either_first (Lies i (i + length (e ∷ pipelines))) (is_among exports e.0 || is_needed_by (found (i + 1) pipelines) i) (i, e.1) (found (i + 1) pipelines) (λ _. (omega arith, omega arith))
      (weaker (i + 1) i (i + 1 + length pipelines) (i + length (e ∷ pipelines)) (found (i + 1) pipelines) (omega arith) (omega arith) (lie (i + 1) pipelines))

  none_before : (low high j : ℕ) (es : List (ℕ × Pipeline)) → j < low → AllByRecursion (Lies low high) es → has_place (places_of es) j ≡ false
  none_before low high j [] h k = refl
  none_before low high j (e ∷ es) h k = ap₂ (λ a b. a || b) (other_place e.0 j _ (λ s. absurd (omega arith)) refl) (none_before low high j es h k.1)

  places_within : (low high : ℕ) (es : List (ℕ × Pipeline)) → AllByRecursion (Lies low high) es → AllByRecursion (λ place. place < high) (places_of es)
  places_within low high [] k = tt
  places_within low high (e ∷ es) k = (k.0.1, places_within low high es k.1)

  below : (i low high : ℕ) (es : List (ℕ × Pipeline)) → i < low → AllByRecursion (Lies low high) es → AllByRecursion (λ place. nat_cmp i place ≡ Less) (places_of es)
  below i low high [] h k = tt
  below i low high (e ∷ es) h k = (ap (λ b. cond b Less (cond (eqb i e.0) Equal Greater)) ((Decides-ltb i e.0).1 (omega arith)), below i low high es h k.1)

  sorted_with : (b : Bool) (i : ℕ) (p : Pipeline) (later : List (ℕ × Pipeline)) → AllByRecursion (λ place. nat_cmp i place ≡ Less) (places_of later) → IsStrictlySortedBy nat_cmp (places_of later) → IsStrictlySortedBy nat_cmp (places_of (if b then (i, p) ∷ later else later))
  unfolding IsStrictlySortedBy
  sorted_with true i p later h k = (h, k)
  sorted_with false i p later h k = k

  sorted : (i : ℕ) (pipelines : List Entry) → IsStrictlySortedBy nat_cmp (places_of (found i pipelines))
  unfolding IsStrictlySortedBy
  sorted i [] = tt
  sorted i (e ∷ pipelines) = sorted_with (is_among exports e.0 || is_needed_by (found (i + 1) pipelines) i) i e.1 (found (i + 1) pipelines) (below i (i + 1) (i + 1 + length pipelines) (found (i + 1) pipelines) (omega arith) (lie (i + 1) pipelines)) (sorted (i + 1) pipelines)

  rises : (i : ℕ) (pipelines : List Entry) → IsStrictlyIncreasing (places_of (found i pipelines))
  rises i pipelines = IsStrictlyIncreasing-from_sorted (places_of (found i pipelines)) (sorted i pipelines)

  within : (i : ℕ) (pipelines : List Entry) → All (λ place. place < i + length pipelines) (places_of (found i pipelines))
  within i pipelines = All-from_recursion (λ place. place < i + length pipelines) (places_of (found i pipelines)) (places_within i (i + length pipelines) (found i pipelines) (lie i pipelines))

  -- ---- exports

  export_held : (pipelines : List Entry) (i k : ℕ) (name : List ℕ) (p : Pipeline) → slice_get pipelines k ≡ Some (name, p) → is_among exports name ≡ true → has_place (places_of (found i pipelines)) (i + k) ≡ true
  export_held [] i k name p there e = cc
  export_held (x ∷ pipelines) i zero name p there e =
      let is : name ≡ x.0 = cc in
      has_first (is_among exports x.0 || is_needed_by (found (i + 1) pipelines) i) i (i + 0) x.1 (found (i + 1) pipelines) (or_left (is_among exports x.0) (is_needed_by (found (i + 1) pipelines) i) (sym (ap (is_among exports) is) ∙ e)) (omega arith)
  export_held (x ∷ pipelines) i (suc k) name p there e =
      let next : i + 1 + k ≡ i + suc k = omega arith in
      has_later (is_among exports x.0 || is_needed_by (found (i + 1) pipelines) i) i (i + suc k) x.1 (found (i + 1) pipelines) (subst (λ (j : ℕ). has_place (places_of (found (i + 1) pipelines)) j ≡ true) next (export_held pipelines (i + 1) k name p there e))

  -- ---- closed

  needed_held : (pipelines : List Entry) (i k need : ℕ) (name : List ℕ) (p : Pipeline) → slice_get pipelines k ≡ Some (name, p) → has_place (places_of (found i pipelines)) (i + k) ≡ true → has_place (needs_of p) need ≡ true → is_needed_by (found i pipelines) need ≡ true
  needed_held [] i k need name p there e h = cc
  needed_held (x ∷ pipelines) i zero need name p there e h =
      let is : p ≡ x.1 = cc in
      let first : i + 0 ≡ i = omega arith in
      let b = is_among exports x.0 || is_needed_by (found (i + 1) pipelines) i in
      needs_first b i need x.1 (found (i + 1) pipelines) (subst (λ (j : ℕ). has_place (places_of (found i (x ∷ pipelines))) j ≡ true) first e) (none_before (i + 1) (i + 1 + length pipelines) i (found (i + 1) pipelines) (omega arith) (lie (i + 1) pipelines)) (sym (ap (λ q. has_place (needs_of q) need) is) ∙ h)
  needed_held (x ∷ pipelines) i (suc k) need name p there e h =
      let next : i + suc k ≡ i + 1 + k = omega arith in
      let b = is_among exports x.0 || is_needed_by (found (i + 1) pipelines) i in
      let apart : i ≡ i + suc k → ⊥ = λ s. omega arith in
      needs_later b i need x.1 (found (i + 1) pipelines) (needed_held pipelines (i + 1) k need name p there (subst (λ (j : ℕ). has_place (places_of (found (i + 1) pipelines)) j ≡ true) next (later_has b i (i + suc k) x.1 (found (i + 1) pipelines) apart e)) h)

  closed_from : (pipelines : List Entry) (i k need : ℕ) (name : List ℕ) (p : Pipeline) → slice_get pipelines k ≡ Some (name, p) → has_place (places_of (found i pipelines)) (i + k) ≡ true → has_place (needs_of p) need ≡ true → i ≤ need → need < i + k → has_place (places_of (found i pipelines)) need ≡ true
  closed_from [] i k need name p there e h low high = cc
  closed_from (x ∷ pipelines) i zero need name p there e h low high = absurd (omega arith)
  closed_from (x ∷ pipelines) i (suc k) need name p there e h low high =
      let next : i + suc k ≡ i + 1 + k = omega arith in
      let b = is_among exports x.0 || is_needed_by (found (i + 1) pipelines) i in
      let apart : i ≡ i + suc k → ⊥ = λ s. omega arith in
      let held = subst (λ (j : ℕ). has_place (places_of (found (i + 1) pipelines)) j ≡ true) next (later_has b i (i + suc k) x.1 (found (i + 1) pipelines) apart e) in
      by_test (eqb i need)
      (λ s. let is : i ≡ need = (Decides-eqb i need).0 s in
      has_first b i need x.1 (found (i + 1) pipelines) (or_right (is_among exports x.0) (is_needed_by (found (i + 1) pipelines) i) (ap (is_needed_by (found (i + 1) pipelines)) is ∙ needed_held pipelines (i + 1) k need name p there held h)) is)
      (λ s. let apart_from : i ≡ need → ⊥ = λ e. true≢false (sym (same_place i need e) ∙ s) in
      has_later b i need x.1 (found (i + 1) pipelines) (closed_from pipelines (i + 1) k need name p there held h (omega arith) (omega arith)))

  -- ---- least

  module _ (test : ℕ → Bool) where
    abbrev Passes : ℕ × Pipeline → Type 0
    Passes e = (test e.0 ≡ true) × ((need : ℕ) → has_place (needs_of e.1) need ≡ true → test need ≡ true)

    need_passes : (es : List (ℕ × Pipeline)) (need : ℕ) → AllByRecursion Passes es → is_needed_by es need ≡ true → test need ≡ true
    need_passes [] need k e = absurd (true≢false (sym e))
    need_passes (x ∷ es) need k e = on (or_cases (has_place (needs_of x.1) need) (is_needed_by es need) e) (λ h. k.0.1 need h) (λ h. need_passes es need k.1 h)

    all_pass : (pipelines : List Entry) (i : ℕ)
        → ((k : ℕ) (name : List ℕ) (p : Pipeline) → slice_get pipelines k ≡ Some (name, p) → is_among exports name ≡ true → test (i + k) ≡ true)
        → ((k need : ℕ) (name : List ℕ) (p : Pipeline) → slice_get pipelines k ≡ Some (name, p) → test (i + k) ≡ true → has_place (needs_of p) need ≡ true → test need ≡ true)
        → AllByRecursion Passes (found i pipelines)
    all_pass [] i exported closed = tt
    all_pass (x ∷ pipelines) i exported closed =
        let first : i + 0 ≡ i = omega arith in
        let next : (k : ℕ) → i + 1 + k ≡ i + suc k = λ k. omega arith in
        let rest = all_pass pipelines (i + 1) (λ k name p there e. ap test (next k) ∙ exported (suc k) name p there e) (λ k need name p there e h. closed (suc k) need name p there (sym (ap test (next k)) ∙ e) h) in
        either_first Passes (is_among exports x.0 || is_needed_by (found (i + 1) pipelines) i) (i, x.1) (found (i + 1) pipelines)
        (λ e. let passes : test i ≡ true = on (or_cases (is_among exports x.0) (is_needed_by (found (i + 1) pipelines) i) e) (λ h. sym (ap test first) ∙ exported 0 x.0 x.1 refl h) (λ h. need_passes (found (i + 1) pipelines) i rest h) in
        (passes, λ need h. closed 0 need x.0 x.1 refl (ap test first ∙ passes) h)) rest

    passing_places : (es : List (ℕ × Pipeline)) → AllByRecursion Passes es → AllByRecursion (λ place. IsTrue (test place)) (places_of es)
    passing_places [] k = tt
    passing_places (e ∷ es) k = (k.0.0, passing_places es k.1)

-- ---- what a pipeline is built with stands before it

split_needs : (xs ys : List ℕ) (need : ℕ) → has_place (xs ++ ys) need ≡ true → (has_place xs need ≡ true) ⊎ (has_place ys need ≡ true)
split_needs [] ys need e = inr e
split_needs (x ∷ xs) ys need e =
    on (or_cases (eqb x need) (has_place (xs ++ ys) need) e) (λ h. inl (or_left (eqb x need) (has_place xs need) h))
    (λ h. on (split_needs xs ys need h) (λ k. inl (or_right (eqb x need) (has_place xs need) k)) (λ k. inr k))

module _ (place need : ℕ) where
  input_below : (input : Input) → IsInput place input → has_place (input_needs input) need ≡ true → need < place
  input_below (Tree at options) h e = on (or_cases (eqb at need) false e) (λ k. let is = (Decides-eqb at need).0 k in omega arith) (λ k. absurd (true≢false (sym k)))
  input_below (Files files) h e = absurd (true≢false (sym e))

  inputs_below : (inputs : List (List ℕ × Input)) → AllByRecursion (IsInput place) (values_of inputs) → has_place (inputs_need inputs) need ≡ true → need < place
  inputs_below [] h e = absurd (true≢false (sym e))
  inputs_below (input ∷ inputs) h e = on (split_needs (input_needs input.1) (inputs_need inputs) need e) (λ k. input_below input.1 h.0 k) (λ k. inputs_below inputs h.1 k)

  stages_below : (stages : List Stage) → AllByRecursion (IsStage place) stages → has_place (flat_map (λ stage. inputs_need stage.inputs) stages) need ≡ true → need < place
  stages_below [] h e = absurd (true≢false (sym e))
  stages_below (stage ∷ stages) h e = on (split_needs (inputs_need stage.inputs) (flat_map (λ s. inputs_need s.inputs) stages) need e) (λ k. inputs_below stage.inputs h.0.inputs k) (λ k. stages_below stages h.1 k)

  build_below : (build : Option ℕ) → IfSome build (λ at. at < place) → has_place (build_needs build) need ≡ true → need < place
  build_below None h e = absurd (true≢false (sym e))
  build_below (Some at) h e = input_below (Tree at []) h e

  pipeline_below : (p : Pipeline) → IsPipeline place p → has_place (needs_of p) need ≡ true → need < place
  pipeline_below p h e = on (split_needs (build_needs p.build) (flat_map (λ s. inputs_need s.inputs) p.stages) need e) (λ k. build_below p.build h.build k) (λ k. stages_below p.stages h.stages k)

pipeline_at : (pipelines : List Entry) (i k : ℕ) (name : List ℕ) (p : Pipeline) → ArePipelines i (values_of pipelines) → slice_get pipelines k ≡ Some (name, p) → IsPipeline (i + k) p
pipeline_at [] i k name p h there = cc
pipeline_at (x ∷ pipelines) i zero name p h there =
    let is : x.1 ≡ p = cc in
    let first : i ≡ i + 0 = omega arith in
    subst (λ (j : ℕ). IsPipeline j p) first (subst (IsPipeline i) is h.0)
pipeline_at (x ∷ pipelines) i (suc k) name p h there =
    let next : i + 1 + k ≡ i + suc k = omega arith in
    subst (λ (j : ℕ). IsPipeline j p) next (pipeline_at pipelines (i + 1) k name p h.1 there)

-- ---- the laws

pub rising : (manifest : Manifest) (exports : List (List ℕ)) → IsStrictlyIncreasing (needed_places manifest exports)
rising manifest exports = rises exports 0 manifest.pipelines

pub are_places : (manifest : Manifest) (exports : List (List ℕ)) → All (λ place. place < length manifest.pipelines) (needed_places manifest exports)
are_places manifest exports =
    let P : ℕ → Type 0 = λ n. All (λ place. place < n) (needed_places manifest exports) in
    subst P (zero-add (length manifest.pipelines)) (within exports 0 manifest.pipelines)

pub holds_exports : (manifest : Manifest) (exports : List (List ℕ)) → PassesExports manifest exports (has_place (needed_places manifest exports))
holds_exports manifest exports name place p there e =
    let first : 0 + place ≡ place = omega arith in
    subst (λ (j : ℕ). has_place (needed_places manifest exports) j ≡ true) first (export_held exports manifest.pipelines 0 place name p there e)

pub closed : (manifest : Manifest) (exports : List (List ℕ)) → IsWellFormed manifest → IsClosed manifest (has_place (needed_places manifest exports))
closed manifest exports w name place need p there e h =
    let first : place ≡ 0 + place = omega arith in
    let below_it = pipeline_below (0 + place) need p (pipeline_at manifest.pipelines 0 place name p w.pipelines there) h in
    closed_from exports manifest.pipelines 0 place need name p there (subst (λ (j : ℕ). has_place (needed_places manifest exports) j ≡ true) first e) h (omega arith) below_it

pub least : (manifest : Manifest) (exports : List (List ℕ)) (test : ℕ → Bool) → PassesExports manifest exports test → IsClosed manifest test → All (λ place. IsTrue (test place)) (needed_places manifest exports)
least manifest exports test exported closed_test =
    All-from_recursion (λ place. IsTrue (test place)) (needed_places manifest exports) (passing_places exports test (needed_from exports 0 manifest.pipelines)
    (all_pass exports test manifest.pipelines 0 (λ k name p there e. ap test (first k) ∙ exported name k p there e) (λ k need name p there e h. closed_test name k need p there (sym (ap test (first k)) ∙ e) h)))
  where
    first : (k : ℕ) → 0 + k ≡ k
    first k = omega arith
