-- What the tests of a recipe say, and the laws of reading one behind others.
use Rattle.std.proofs.Common.{◌≡◌, ℕ, ◌^◌, ◌<◌, Bool, true, false, true≢false, List, [], ◌∷◌, ◌++◌, map, length, get_or, Option, Some, None, refl, sym, ap, ◌∙◌, subst, arith, length-append, ◌+◌}
use Rattle.std.specs.Prelude.{◌&&◌, ◌||◌, not, nat_lt, slice_get, unwrap_or}
use Rattle.std.specs.List.{All, AllByRecursion, cons_option, list_all, list_any}
use Rattle.std.specs.List.Sorted.{IsStrictlySortedBy}
use Rattle.std.specs.Map.{keys_of}
use Rattle.std.specs.Cmp.{both_ways}
use Rattle.std.specs.Cmp.Derive.{both_true}
use Rattle.std.proofs.lemmas.Bool.{and_parts, false_from_ne_true, ltb-true, lt-ltb}
use Rattle.std.proofs.lemmas.List.{append-nil}
use Rattle.std.proofs.lemmas.List.Elements.{All-from_recursion, recursion_from_All, All-head, All-tail, All-weaker}
use Rattle.std.proofs.lemmas.List.Folds.{list_any_none}
use Rattle.std.proofs.lemmas.List.Sums.{AllPass-from_list_all, list_all-from_AllPass}
use Rattle.std.proofs.lemmas.Option.{none-some, same_Some, slice_get-get_or}
use Rattle.sha2.specs.Sha256.{sha256}
use Rattle.osb_recipe.specs.FilesTrees.{blobs_at}
use Rattle.osb_recipe.specs.Recipes.{Origin, IsRefBelow, IsBuildBelow, IsInputBelow, same_recipe}
use Rattle.osb_recipe.specs.Tables.{IsReadRecipe}
use Rattle.osb_recipe.specs.declared.references.TreeRef.{TreeRef}
use Rattle.osb_recipe.specs.declared.references.TreeRef.TheVariants.{Empty, Of}
use Rattle.osb_recipe.specs.declared.references.InputRecipe.{InputRecipe}
use Rattle.osb_recipe.specs.declared.references.InputRecipe.TheVariants.{Tree, Files}
use Rattle.osb_recipe.proofs.Exact.{exact_bytes, same_bytes-self, exact_recipe, same_recipe-self}
use Rattle.osb_store.specs.Bytes.{IsBytes}
use Rattle.osb_store.specs.Places.{same_text}
use Rattle.osb_store.specs.Texts.{recipe_text}
use Rattle.osb_store.specs.Rules.{EachMay, IsNew, HasRisingDigests, MayBeInput, MayBeRecipe}
use Rattle.osb_store.specs.Recipes.{recipe_at, is_ref_below, is_build_below, rises, are_below, blob_at, digests_at, is_well_content, is_well_recipe, is_recipe}
use Rattle.osb_store.proofs.InputTexts.{RefFits, BuildFits, AreSmall, ContentFits, InputFits}
use Rattle.osb_store.proofs.RecipeTexts.{RecipeFits, recipe_spells}
use Rattle.osb_store.proofs.RecipeRises.{text_cmp, rises_sorted, sorted_rises}

-- ---- keys

ref_may : (keys : ℕ) (ref : TreeRef) → is_ref_below keys ref ≡ true → IsRefBelow keys ref
ref_may keys Empty e = tt
ref_may keys (Of key) e = ltb-true key.0 keys e

ref_well : (keys : ℕ) (ref : TreeRef) → IsRefBelow keys ref → is_ref_below keys ref ≡ true
ref_well keys Empty h = refl
ref_well keys (Of key) h = lt-ltb key.0 keys h

ref_fits : (keys : ℕ) → keys < 2 ^ 64 → (ref : TreeRef) → IsRefBelow keys ref → RefFits ref
ref_fits keys few Empty h = tt
ref_fits keys few (Of key) h = omega arith

build_may : (keys : ℕ) (build : Option TreeRef) → is_build_below keys build ≡ true → IsBuildBelow keys build
build_may keys None e = tt
build_may keys (Some ref) e = ref_may keys ref e

build_well : (keys : ℕ) (build : Option TreeRef) → IsBuildBelow keys build → is_build_below keys build ≡ true
build_well keys None h = refl
build_well keys (Some ref) h = ref_well keys ref h

build_fits : (keys : ℕ) → keys < 2 ^ 64 → (build : Option TreeRef) → IsBuildBelow keys build → BuildFits build
build_fits keys few None h = tt
build_fits keys few (Some ref) h = ref_fits keys few ref h

-- ---- blobs

module _ (count : ℕ) (numbers : List ℕ) where
  numbers_may : are_below count numbers ≡ true → All (λ number. number < count) numbers
  numbers_may e = All-weaker (λ n. nat_lt n count ≡ true) (λ n. n < count) (λ n h. ltb-true n count h) numbers (AllPass-from_list_all (λ n. nat_lt n count) numbers e)

  numbers_well : All (λ number. number < count) numbers → are_below count numbers ≡ true
  numbers_well all = list_all-from_AllPass (λ n. nat_lt n count) numbers (All-weaker (λ n. n < count) (λ n. nat_lt n count ≡ true) (λ n h. lt-ltb n count h) numbers all)

  numbers_fit : count < 2 ^ 64 → All (λ number. number < count) numbers → AreSmall numbers
  numbers_fit few all = recursion_from_All (λ n. n < 2 ^ 64) numbers (All-weaker (λ n. n < count) (λ n. n < 2 ^ 64) (λ n h. omega arith) numbers all)

digest_step : (found : Option (List ℕ)) (blob : List ℕ) (others : List (List ℕ)) → found ≡ Some blob → map sha256 (cons_option found others) ≡ sha256 (unwrap_or found []) ∷ map sha256 others
digest_step None blob others e = absurd (none-some blob e)
digest_step (Some bytes) blob others e = refl

digests_are : (blobs : List (List ℕ)) (numbers : List ℕ) → All (λ number. number < length blobs) numbers → map sha256 (blobs_at blobs numbers) ≡ digests_at blobs numbers
digests_are blobs [] all = refl
digests_are blobs (number ∷ numbers) all =
    digest_step (slice_get blobs number) (get_or blobs number []) (blobs_at blobs numbers) (slice_get-get_or blobs number [] (All-head (λ n. n < length blobs) number numbers all))
    ∙ ap (λ (digests : List (List ℕ)). sha256 (blob_at blobs number) ∷ digests) (digests_are blobs numbers (All-tail (λ n. n < length blobs) number numbers all))

-- ---- inputs

module _ (blobs : List (List ℕ)) (keys : ℕ) where
  abbrev InputBelow : List ℕ × InputRecipe → Type 0
  InputBelow input = IsInputBelow keys (length blobs) input.1

  abbrev is_well_input : List ℕ × InputRecipe → Bool
  is_well_input input = is_well_content blobs keys input.1

  content_may : (content : InputRecipe) → is_well_content blobs keys content ≡ true → HasRisingDigests blobs content × IsInputBelow keys (length blobs) content
  content_may (Tree ref) e = (tt, ref_may keys ref e)
  content_may (Files numbers) e =
      let both = and_parts (are_below (length blobs) numbers) (rises (digests_at blobs numbers)) e in
      let all = numbers_may (length blobs) numbers both.0 in
      (subst (IsStrictlySortedBy text_cmp) (sym (digests_are blobs numbers all)) (rises_sorted (digests_at blobs numbers) both.1), all)

  content_well : (content : InputRecipe) → HasRisingDigests blobs content → IsInputBelow keys (length blobs) content → is_well_content blobs keys content ≡ true
  content_well (Tree ref) rising h = ref_well keys ref h
  content_well (Files numbers) rising all =
      both_true (numbers_well (length blobs) numbers all)
      (sorted_rises (digests_at blobs numbers) (subst (IsStrictlySortedBy text_cmp) (digests_are blobs numbers all) rising))

  content_fits : keys < 2 ^ 64 → length blobs < 2 ^ 64 → (content : InputRecipe) → IsInputBelow keys (length blobs) content → ContentFits content
  content_fits few few_blobs (Tree ref) h = ref_fits keys few ref h
  content_fits few few_blobs (Files numbers) all = numbers_fit (length blobs) numbers few_blobs all

  inputs_may : (inputs : List (List ℕ × InputRecipe)) → AllByRecursion InputFits inputs → list_all is_well_input inputs ≡ true → AllByRecursion (MayBeInput blobs) inputs × AllByRecursion InputBelow inputs
  inputs_may [] fits e = (tt, tt)
  inputs_may (input ∷ inputs) fits e =
      let both = and_parts (is_well_input input) (list_all is_well_input inputs) e in
      let one = content_may input.1 both.0 in
      let more = inputs_may inputs fits.1 both.1 in
      ((record { named = fits.0.0; rising = one.0 }, more.0), (one.1, more.1))

  inputs_well : (inputs : List (List ℕ × InputRecipe)) → AllByRecursion (MayBeInput blobs) inputs → AllByRecursion InputBelow inputs → list_all is_well_input inputs ≡ true
  inputs_well [] may below = refl
  inputs_well (input ∷ inputs) may below = both_true (content_well input.1 may.0.rising below.0) (inputs_well inputs may.1 below.1)

  inputs_fit : keys < 2 ^ 64 → length blobs < 2 ^ 64 → (inputs : List (List ℕ × InputRecipe)) → AllByRecursion (MayBeInput blobs) inputs → AllByRecursion InputBelow inputs → AllByRecursion InputFits inputs
  inputs_fit few few_blobs [] may below = tt
  inputs_fit few few_blobs (input ∷ inputs) may below = ((may.0.named, content_fits few few_blobs input.1 below.0), inputs_fit few few_blobs inputs may.1 below.1)

-- ---- recipes that differ

neither : (a b : Bool) → not (a || b) ≡ true → (a ≡ false) × (not b ≡ true)
neither true b e = absurd (true≢false (sym e))
neither false b e = (refl, e)

new_may : (recipe : Origin) (before : List Origin) → not (list_any (same_recipe recipe) before) ≡ true → AllByRecursion (λ held. held ≡ recipe → ⊥) before
new_may recipe [] e = tt
new_may recipe (held ∷ before) e =
    let parts = neither (same_recipe recipe held) (list_any (same_recipe recipe) before) e in
    let Same : Origin → Type 0 = λ other. same_recipe recipe other ≡ true in
    ((λ equal. true≢false (sym (subst Same (sym equal) (same_recipe-self recipe)) ∙ parts.0)), new_may recipe before parts.1)

new_well : (recipe : Origin) (before : List Origin) → IsReadRecipe recipe → All IsReadRecipe before → IsNew before recipe → not (list_any (same_recipe recipe) before) ≡ true
new_well recipe before read reads new =
    ap not (list_any_none (same_recipe recipe) before (λ k d h.
    false_from_ne_true (same_recipe recipe (get_or before k d)) (λ same. new k d h (sym (exact_recipe recipe (get_or before k d) read (reads k d h) same)))))

reads_each : (blobs : List (List ℕ)) (before items : List Origin) → EachMay (MayBeRecipe blobs) before items → AllByRecursion IsReadRecipe items
reads_each blobs before [] each = tt
reads_each blobs before (item ∷ items) each = (each.0.read, reads_each blobs (before ++ item ∷ []) items each.1)

-- ---- the laws

module _ (blobs : List (List ℕ)) where
  well_parts : (keys : ℕ) (x : Origin) → is_well_recipe blobs keys x ≡ true
      → (is_build_below keys x.build ≡ true) × (is_ref_below keys x.base ≡ true) × (rises (keys_of x.inputs) ≡ true) × (list_all (is_well_input blobs keys) x.inputs ≡ true)
  well_parts keys x e =
      let build = is_build_below keys x.build in
      let base = is_ref_below keys x.base in
      let names = rises (keys_of x.inputs) in
      let three = and_parts (build && base && names) (list_all (is_well_input blobs keys) x.inputs) e in
      let two = and_parts (build && base) names three.0 in
      let one = and_parts build base two.0 in
      (one.0, one.1, two.1, three.1)

  pub recipe_takes : (bytes : List ℕ) (before : List Origin) (x : Origin) (rest : List ℕ) → IsBytes bytes → recipe_at bytes ≡ Some (x, rest) → is_recipe blobs before x ≡ true → (bytes ≡ recipe_text x ++ rest) × MayBeRecipe blobs before x
  recipe_takes bytes before x rest b read e =
      let taken = recipe_spells.takes bytes x rest b read in
      let tests = and_parts (is_well_recipe blobs (length before) x) (not (list_any (same_recipe x) before)) e in
      let well = well_parts (length before) x tests.0 in
      let may = inputs_may blobs (length before) x.inputs taken.fits.within well.3 in (
        taken.parts,
        record {
          below = record {
            build = build_may (length before) x.build well.0;
            base = ref_may (length before) x.base well.1;
            inputs = All-from_recursion (InputBelow blobs (length before)) x.inputs may.1;
          };
          read = taken.fits.read;
          ordered = rises_sorted (keys_of x.inputs) well.2;
          inputs = All-from_recursion (MayBeInput blobs) x.inputs may.0;
          new = All-from_recursion (λ held. held ≡ x → ⊥) before (new_may x before tests.1);
        },
      )

  module _ (few_blobs : length blobs < 2 ^ 64) where
    recipe_fits : (before : List Origin) (x : Origin) → length before < 2 ^ 64 → MayBeRecipe blobs before x → RecipeFits x
    recipe_fits before x few may = record {
      read = may.read;
      within_build = build_fits (length before) few x.build may.below.build;
      within_base = ref_fits (length before) few x.base may.below.base;
      within = inputs_fit blobs (length before) few few_blobs x.inputs (recursion_from_All (MayBeInput blobs) x.inputs may.inputs) (recursion_from_All (InputBelow blobs (length before)) x.inputs may.below.inputs);
    }

    is_well : (before : List Origin) (x : Origin) → MayBeRecipe blobs before x → is_well_recipe blobs (length before) x ≡ true
    is_well before x may =
        let keys = length before in
        both_true
        (both_true (both_true (build_well keys x.build may.below.build) (ref_well keys x.base may.below.base)) (sorted_rises (keys_of x.inputs) may.ordered))
        (inputs_well blobs keys x.inputs (recursion_from_All (MayBeInput blobs) x.inputs may.inputs) (recursion_from_All (InputBelow blobs keys) x.inputs may.below.inputs))

    pub recipe_again : (before : List Origin) (x : Origin) (rest : List ℕ) → EachMay (MayBeRecipe blobs) [] before → length before < 2 ^ 64 → length (recipe_text x ++ rest) < 2 ^ 64 → MayBeRecipe blobs before x
        → (recipe_at (recipe_text x ++ rest) ≡ Some (x, rest)) × (is_recipe blobs before x ≡ true)
    recipe_again before x rest each few short may =
        let reads = All-from_recursion IsReadRecipe before (reads_each blobs [] before each) in
        (recipe_spells.again x rest short (recipe_fits before x few may), both_true (is_well before x may) (new_well x before may.read reads may.new))

-- ---- recipes by their texts

told : (a b : Origin) → RecipeFits a → RecipeFits b → length (recipe_text a) < 2 ^ 64 → recipe_text a ≡ recipe_text b → a ≡ b
told a b first second short same =
    let Short : List ℕ → Type 0 = λ text. length text < 2 ^ 64 in
    let whole : recipe_text a ++ [] ≡ recipe_text b ++ [] = ap (λ (text : List ℕ). text ++ []) same in
    let long = subst Short (sym (append-nil (recipe_text a))) short in
    let read = sym (recipe_spells.again a [] long first) ∙ ap recipe_at whole ∙ recipe_spells.again b [] (subst Short whole long) second in
    ap (λ (x : Origin × List ℕ). x.0) (same_Some (a, []) (b, []) read)

text_tells : (a b : Origin) → RecipeFits a → RecipeFits b → length (recipe_text a) < 2 ^ 64 → same_text (recipe_text a) (recipe_text b) ≡ same_recipe a b
text_tells a b first second short =
    let Same : List ℕ → Type 0 = λ text. same_text (recipe_text a) text ≡ true in
    let Equal : Origin → Type 0 = λ recipe. same_recipe a recipe ≡ true in
    both_ways (same_text (recipe_text a) (recipe_text b)) (same_recipe a b)
    (λ e. subst Equal (told a b first second short (exact_bytes (recipe_text a) (recipe_text b) e)) (same_recipe-self a))
    (λ e. subst Same (ap recipe_text (exact_recipe a b first.read second.read e)) (same_bytes-self (recipe_text a)))

texts_tell : (x : Origin) (before : List Origin) → RecipeFits x → AllByRecursion RecipeFits before → length (recipe_text x) < 2 ^ 64
    → list_any (λ recipe. same_text (recipe_text x) (recipe_text recipe)) before ≡ list_any (same_recipe x) before
texts_tell x [] fits all short = refl
texts_tell x (held ∷ before) fits all short = λ i. text_tells x held fits all.0 short i || texts_tell x before fits all.1 short i

module _ (blobs : List (List ℕ)) (few_blobs : length blobs < 2 ^ 64) where
  all_fit : (before items : List Origin) → length before + length items < 2 ^ 64 → EachMay (MayBeRecipe blobs) before items → AllByRecursion RecipeFits items
  all_fit before [] few each = tt
  all_fit before (item ∷ items) few each =
      (recipe_fits blobs few_blobs before item (omega arith) each.0, all_fit (before ++ item ∷ []) items (omega (arith, length-append before (item ∷ []))) each.1)

  -- the texts of those before tell whether one of them is the same
  pub recipe_by_text : (bytes : List ℕ) (before : List Origin) (x : Origin) (rest : List ℕ) → IsBytes bytes → length bytes < 2 ^ 64 → length before < 2 ^ 64 → EachMay (MayBeRecipe blobs) [] before → recipe_at bytes ≡ Some (x, rest)
      → (bytes ≡ recipe_text x ++ rest) × (list_any (λ recipe. same_text (recipe_text x) (recipe_text recipe)) before ≡ list_any (same_recipe x) before)
  recipe_by_text bytes before x rest b short few each read =
      let taken = recipe_spells.takes bytes x rest b read in
      (taken.parts, texts_tell x before taken.fits (all_fit [] before (omega arith) each) (omega (arith, ap length taken.parts, length-append (recipe_text x) rest)))
