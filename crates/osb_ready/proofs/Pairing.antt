-- The outcomes of the tasks of one build are those of its pipelines alone, and a build of gathered items is ready.
use Rattle.std.proofs.Common.{◌≡◌, ◌⊎◌, ℕ, ◌+◌, ◌<◌, zero, suc, Bool, false, List, [], ◌∷◌, ◌++◌, length, drop, map, unwrap_or, Option, Some, None, refl, sym, ap, ◌∙◌, subst, inl, inr, true≢false, arith}
use Rattle.std.specs.Prelude.{slice_get, slice_index_or}
use Rattle.std.specs.List.{All, AllByRecursion, zip, list_any}
use Rattle.std.specs.Map.{keys_of, values_of}
use Rattle.std.proofs.lemmas.Bool.{or_parts}
use Rattle.std.proofs.lemmas.List.Elements.{All-from_recursion, All-head, All-tail}
use Rattle.std.proofs.lemmas.Map.Entries.{length-values_of}
use Rattle.std.proofs.lemmas.Option.{slice_get-get_or}
use Rattle.osb_tree.specs.declared.numbers.TaskNo.{TaskNo}
use Rattle.osb_recipe.specs.declared.outcomes.Outcome.{Outcome}
use Rattle.osb_recipe.specs.declared.outcomes.Outcome.TheVariants.{NoMemory}
use Rattle.osb_sources.specs.Rounds.{AreItems}
use Rattle.osb_manifest.specs.Manifests.{IsWellFormed}
use Rattle.osb_manifest.specs.Wanted.{wanted}
use Rattle.osb_manifest.specs.Needed.{needed_places}
use Rattle.osb_manifest.specs.Solo.{Built, Blobs, pipeline_outcome, with_pipeline, outcomes_after, solo}
use Rattle.osb_manifest.specs.declared.manifests.Manifest.{Manifest}
use Rattle.osb_manifest.specs.declared.manifests.Pipeline.{Pipeline}
use Rattle.osb_manifest.proofs.NeededLaws.{are_places}
use Rattle.osb_plan.specs.Bridge.{IsItem, IsReady}
use Rattle.osb_plan.specs.declared.builds.Build.{Build}
use Rattle.osb_ready.specs.Pairing.{outcome_of, at_place, built_from}
use Rattle.osb_ready.specs.Trees.{is_lost}

-- ---- the places of what is built alone

keys_of-pushed : (built : Built) (place : ℕ) (outcome : Outcome) → keys_of (built ++ (place, outcome) ∷ []) ≡ keys_of built ++ place ∷ []
keys_of-pushed [] place outcome = refl
keys_of-pushed (entry ∷ built) place outcome = ap (λ places. entry.0 ∷ places) (keys_of-pushed built place outcome)

append_one : (xs : List ℕ) (x : ℕ) (ys : List ℕ) → (xs ++ x ∷ []) ++ ys ≡ xs ++ x ∷ ys
append_one [] x ys = refl
append_one (y ∷ xs) x ys = ap (λ zs. y ∷ zs) (append_one xs x ys)

append-nil : (xs : List ℕ) → xs ++ [] ≡ xs
append-nil [] = refl
append-nil (x ∷ xs) = ap (λ ys. x ∷ ys) (append-nil xs)

there : (pipelines : List Pipeline) (place : ℕ) → place < length pipelines → (pipeline : Pipeline) × (slice_get pipelines place ≡ Some pipeline)
there [] place within = absurd (omega arith)
there (pipeline ∷ pipelines) place within = (slice_index_or (pipeline ∷ pipelines) place pipeline, slice_get-get_or (pipeline ∷ pipelines) place pipeline within)

keys_of-built : (pipelines : List Pipeline) (blobs : Blobs) (built : Built) (places : List ℕ) → All (λ place. place < length pipelines) places → keys_of (outcomes_after pipelines blobs built places) ≡ keys_of built ++ places
keys_of-built pipelines blobs built [] within = sym (append-nil (keys_of built))
keys_of-built pipelines blobs built (place ∷ places) within =
    let Within : ℕ → Type 0 = λ p. p < length pipelines in
    let found = there pipelines place (All-head Within place places within) in
    let made : Built = built ++ (place, pipeline_outcome built blobs found.0) ∷ [] in
    ap (λ o. keys_of (outcomes_after pipelines blobs (with_pipeline blobs place o built) places)) found.1
    ∙ keys_of-built pipelines blobs made places (All-tail Within place places within)
    ∙ ap (λ keys. keys ++ places) (keys_of-pushed built place (pipeline_outcome built blobs found.0))
    ∙ append_one (keys_of built) place places

pub keys_of-solo : (build : Build) → IsReady build → keys_of (solo build.manifest build.needed build.blobs) ≡ build.needed
keys_of-solo build ready =
    let Within : List ℕ → Type 0 = λ places. All (λ place. place < length build.manifest.pipelines) places in
    let within = subst Within (sym ready.needed) (are_places build.manifest ready.exports) in
    let Below : ℕ → Type 0 = λ n. All (λ place. place < n) build.needed in
    keys_of-built (values_of build.manifest.pipelines) build.blobs [] build.needed (subst Below (sym (length-values_of build.manifest.pipelines)) within)

-- ---- outcomes beside places

slice_get-left : {X : Type 0} (xs : List X) (i : ℕ) (x : X) (rest : List X) → drop i xs ≡ x ∷ rest → (slice_get xs i ≡ Some x) × (drop (i + 1) xs ≡ rest)
slice_get-left [] zero x rest e = absurd (cc)
slice_get-left [] (suc i) x rest e = absurd (cc)
slice_get-left (y ∷ xs) zero x rest e =
    let head : y ≡ x = cc in
    let tail : xs ≡ rest = cc in
    (ap Some head, tail)
slice_get-left (y ∷ xs) (suc i) x rest e =
    let later = slice_get-left xs i x rest e in
    let Left : ℕ → Type 0 = λ n. drop n (y ∷ xs) ≡ rest in
    let next : suc (i + 1) ≡ suc i + 1 = omega arith in
    (later.0, subst Left next later.1)

-- an outcome that is not lost is the meaning, where each is that or lost
unlost : (looked : Option Outcome) (meaning : Outcome) → ((outcome : Outcome) → looked ≡ Some outcome → (outcome ≡ meaning) ⊎ (outcome ≡ NoMemory)) → is_lost (unwrap_or looked NoMemory) ≡ false → unwrap_or looked NoMemory ≡ meaning
unlost None meaning ends kept = absurd (cc)
unlost (Some outcome) meaning ends kept = elim (ends outcome refl) [
  | inl same ↦ same
  | inr lost ↦ absurd (true≢false (sym (ap is_lost lost) ∙ kept))
]

abbrev pub some_lost : Built → Bool
some_lost built = list_any (λ entry. is_lost entry.1) built

pub same_pairs : (outcomes : List Outcome) (needed : List ℕ) (meaning : TaskNo → Option Outcome) → ((number : TaskNo) (due outcome : Outcome) → meaning number ≡ Some due → slice_get outcomes number.0 ≡ Some outcome → (outcome ≡ due) ⊎ (outcome ≡ NoMemory))
    → (first : ℕ) (numbers : List TaskNo) (built : Built) → drop first needed ≡ keys_of built → map meaning numbers ≡ map (λ b. Some b.1) built → some_lost (built_from outcomes needed first numbers) ≡ false → built_from outcomes needed first numbers ≡ built
same_pairs outcomes needed meaning ends first [] [] places meant kept = refl
same_pairs outcomes needed meaning ends first (number ∷ numbers) (entry ∷ built) places meant kept =
    let left = slice_get-left needed first entry.0 (keys_of built) places in
    let here : meaning number ≡ Some entry.1 = cc in
    let later : map meaning numbers ≡ map (λ b. Some b.1) built = cc in
    let others = built_from outcomes needed (first + 1) numbers in
    let placed = ap (λ p. at_place p (outcome_of outcomes number) ++ others) left.0 in
    let none_lost = or_parts (is_lost (outcome_of outcomes number)) (some_lost others) (sym (ap some_lost placed) ∙ kept) in
    placed
    ∙ ap (λ (outcome : Outcome). (entry.0, outcome) ∷ others) (unlost (slice_get outcomes number.0) entry.1 (λ outcome is. ends number entry.1 outcome here is) none_lost.0)
    ∙ ap (λ rest. entry ∷ rest) (same_pairs outcomes needed meaning ends (first + 1) numbers built left.1 later none_lost.1)
same_pairs outcomes needed meaning ends first [] (entry ∷ built) places meant kept = absurd (cc)
same_pairs outcomes needed meaning ends first (number ∷ numbers) [] places meant kept = absurd (cc)

-- ---- a build that is ready

pub keys_of-items : (digests items : List (List ℕ)) → AreItems digests items → keys_of (zip digests items) ≡ digests
keys_of-items [] [] are = refl
keys_of-items (digest ∷ digests) (bytes ∷ items) are = ap (λ ds. digest ∷ ds) (keys_of-items digests items are.1)
keys_of-items [] (bytes ∷ items) are = absurd are
keys_of-items (digest ∷ digests) [] are = absurd are

items_by_recursion : (digests items : List (List ℕ)) → AreItems digests items → AllByRecursion IsItem (zip digests items)
items_by_recursion [] [] are = tt
items_by_recursion (digest ∷ digests) (bytes ∷ items) are = (record { digest = are.0.named; small = are.0.short }, items_by_recursion digests items are.1)
items_by_recursion [] (bytes ∷ items) are = absurd are
items_by_recursion (digest ∷ digests) [] are = absurd are

pub are_items : (digests items : List (List ℕ)) → AreItems digests items → All IsItem (zip digests items)
are_items digests items are = All-from_recursion IsItem (zip digests items) (items_by_recursion digests items are)

pub build_ready : (manifest : Manifest) (places : List ℕ) (marks : List (List Bool)) (digests items names : List (List ℕ)) (blobs : Blobs) → IsWellFormed manifest → places ≡ needed_places manifest names → digests ≡ wanted manifest places → AreItems digests items → blobs ≡ zip digests items
    → IsReady (record { manifest = manifest; needed = places; marks = marks; blobs = blobs })
build_ready manifest places marks digests items names blobs formed needs wants are is =
    let Have : Blobs → Type 0 = λ bs. All IsItem bs in
    record {
      formed = formed;
      exports = names;
      needed = needs;
      wanted = ap (λ bs. keys_of bs) is ∙ keys_of-items digests items are ∙ wants;
      items = subst Have (sym is) (are_items digests items are);
    }

-- ---- pairs

-- where nothing is left of one list, nothing is paired
pub zip_none : {X Y : Type 0} (xs : List X) (ys : List Y) → ys ≡ [] → zip xs ys ≡ []
zip_none [] ys e = refl
zip_none (x ∷ xs) [] e = refl
zip_none (x ∷ xs) (y ∷ ys) e = absurd (cc)

pub all_paired : {X Y : Type 0} (made whole : List (X × Y)) (xs : List X) (ys : List Y) → ys ≡ [] → made ++ zip xs ys ≡ whole → made ≡ whole
all_paired made whole xs ys none e = sym (appended made) ∙ sym (ap (λ rest. made ++ rest) (zip_none xs ys none)) ∙ e
  where
    appended : {Z : Type 0} (zs : List Z) → zs ++ [] ≡ zs
    appended [] = refl
    appended (z ∷ zs) = ap (λ rest. z ∷ rest) (appended zs)
