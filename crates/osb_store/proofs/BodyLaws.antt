-- A body is read as the lists of a store, or to the place where it stops.
use Rattle.std.proofs.Common.{◌≡◌, ℕ, suc, ◌+◌, ◌^◌, ◌<◌, ◌≤◌, ◌==◌, Bool, true, false, List, [], ◌∷◌, ◌++◌, length, Result, Ok, Err, cond, refl, sym, ap, ◌∙◌, subst, arith, append_assoc, append-nil, length-append}
use Rattle.std.specs.List.{flat_map}
use Rattle.std.proofs.lemmas.Bool.Decides.{nat_tests}
use Rattle.osb_tree.specs.Trees.{Listing}
use Rattle.osb_recipe.specs.Recipes.{Origin}
use Rattle.osb_cache.specs.declared.answers.Stored.{Stored}
use Rattle.osb_store.specs.declared.stores.Store.{Store}
use Rattle.osb_store.specs.Bytes.{IsBytes}
use Rattle.osb_store.specs.Fields.{number, field}
use Rattle.osb_store.specs.Reading.{field_at}
use Rattle.osb_store.specs.Texts.{recipe_text, entry_text, list_text, body_text}
use Rattle.osb_store.specs.Rules.{EachMay, MayBeBlob, MayBeRecipe, MayBeEntry, IsStore}
use Rattle.osb_store.specs.Refusals.{IsList}
use Rattle.osb_store.specs.Recipes.{recipe_at, is_recipe}
use Rattle.osb_store.specs.Entries.{entry_at, is_entry}
use Rattle.osb_store.specs.Lists.{is_blob, blobs_from, recipes_from, entries_from, then_ok, store_of, whole_of, body_at}
use Rattle.osb_store.proofs.Spelling.{length-texts, bytes_behind}
use Rattle.osb_store.proofs.Counted.{list_take}
use Rattle.osb_store.proofs.Fits.{blobs_fit, recipes_fit, entries_fit}

-- ---- lists

module _ {X : Type 0} (text : X → List ℕ) (May : List X → X → Type 0) where
  list_parts : (bytes : List ℕ) (items : List X) (rest : List ℕ) → IsList text May bytes items rest → bytes ≡ list_text text items ++ rest
  list_parts bytes items rest is =
      is.counted.parts ∙ ap (λ (xs : List ℕ). number (length items) ++ xs) is.front.parts ∙ sym (append_assoc (number (length items)) (flat_map text items) rest)

  pub list_is : ((x : X) → 8 ≤ length (text x)) → (items : List X) (rest : List ℕ) → EachMay May [] items → IsList text May (list_text text items ++ rest) items rest
  list_is long items rest each = record {
    behind = flat_map text items ++ rest;
    counted = record {
      parts = append_assoc (number (length items)) (flat_map text items) rest;
      room = (let many = length-texts text 8 long items in omega (arith, length-append (flat_map text items) rest));
    };
    front = record { parts = refl; each = each };
  }

  -- what stands behind a list
  pub record After (bytes : List ℕ) (items : List X) (rest : List ℕ) : Type 0 where
    pub few : length items < 2 ^ 64
    pub short_behind : length rest < 2 ^ 64

  pub list_bytes : (bytes : List ℕ) (items : List X) (rest : List ℕ) → IsBytes bytes → IsList text May bytes items rest → IsBytes rest
  list_bytes bytes items rest b is = bytes_behind (list_text text items) rest bytes (list_parts bytes items rest is) b

  pub after : (bytes : List ℕ) (items : List X) (rest : List ℕ) → length bytes < 2 ^ 64 → IsList text May bytes items rest → After bytes items rest
  after bytes items rest short is =
      let whole = is.front in
      let sizes : length bytes ≡ length (number (length items)) + length is.behind = ap length is.counted.parts ∙ length-append (number (length items)) is.behind in
      let inner : length is.behind ≡ length (flat_map text items) + length rest = ap length whole.parts ∙ length-append (flat_map text items) rest in
      let room = is.counted.room in
      record {
        few = omega arith;
        short_behind = omega arith;
      }

-- ---- a body that is read

module _ (bytes : List ℕ) (b : IsBytes bytes) (short : length bytes < 2 ^ 64) where
  end_takes : (blobs : List (List ℕ)) (rest1 : List ℕ) (recipes : List Origin) (rest2 : List ℕ) (entries : List (Stored Listing)) (rest3 : List ℕ) (store : Store)
      → IsList field MayBeBlob bytes blobs rest1 → IsList recipe_text (MayBeRecipe blobs) rest1 recipes rest2 → IsList entry_text (MayBeEntry (length recipes)) rest2 entries rest3
      → whole_of blobs recipes (entries, rest3) ≡ Ok store → (bytes ≡ body_text store) × IsStore store
  unfolding body_text
  end_takes blobs rest1 recipes rest2 entries [] store first second third e =
      let same : store_of blobs recipes entries ≡ store = cc in
      let whole : bytes ≡ body_text (store_of blobs recipes entries) =
      list_parts field MayBeBlob bytes blobs rest1 first
      ∙ ap (λ (xs : List ℕ). list_text field blobs ++ xs) (list_parts recipe_text (MayBeRecipe blobs) rest1 recipes rest2 second
      ∙ ap (λ (xs : List ℕ). list_text recipe_text recipes ++ xs) (list_parts entry_text (MayBeEntry (length recipes)) rest2 entries [] third ∙ append-nil (list_text entry_text entries))) in
      let is : IsStore (store_of blobs recipes entries) = record { blobs = first.front.each; recipes = second.front.each; entries = third.front.each } in
      (whole ∙ ap body_text same, subst IsStore same is)
  end_takes blobs rest1 recipes rest2 entries (byte ∷ rest3) store first second third e = absurd (ended (length (byte ∷ rest3) == 0) (no_zero (length rest3)) e)
    where
      no_zero : (n : ℕ) → (suc n == 0) ≡ false
      no_zero n = grind (arith, nat_tests)

      ended : (t : Bool) → t ≡ false → cond t (Ok (store_of blobs recipes entries)) (Err (3 + length blobs + length recipes + length entries)) ≡ Ok store → ⊥
      ended true is e' = cc
      ended false is e' = cc

  entries_take : (blobs : List (List ℕ)) (rest1 : List ℕ) (recipes : List Origin) (rest2 : List ℕ) (store : Store) → IsList field MayBeBlob bytes blobs rest1 → IsList recipe_text (MayBeRecipe blobs) rest1 recipes rest2 → length recipes < 2 ^ 64 → IsBytes rest2
      → (read : Result (List (Stored Listing) × List ℕ) ℕ) → entries_from (length blobs) (length recipes) rest2 ≡ read → then_ok read (whole_of blobs recipes) ≡ Ok store → (bytes ≡ body_text store) × IsStore store
  unfolding entries_from
  entries_take blobs rest1 recipes rest2 store first second few b2 (Err place) is e = absurd (cc)
  entries_take blobs rest1 recipes rest2 store first second few b2 (Ok entries) is e =
      end_takes blobs rest1 recipes rest2 entries.0 entries.1 store first second (list_take entry_text (MayBeEntry (length recipes)) entry_at (is_entry (length recipes)) (entries_fit (length recipes) few) (2 + length blobs + length recipes) rest2 entries b2 is) e

  recipes_take : (blobs : List (List ℕ)) (rest1 : List ℕ) (store : Store) → IsList field MayBeBlob bytes blobs rest1 → length blobs < 2 ^ 64 → IsBytes rest1 → length rest1 < 2 ^ 64
      → (read : Result (List Origin × List ℕ) ℕ) → recipes_from blobs rest1 ≡ read → then_ok read (λ recipes. then_ok (entries_from (length blobs) (length recipes.0) recipes.1) (whole_of blobs recipes.0)) ≡ Ok store → (bytes ≡ body_text store) × IsStore store
  unfolding recipes_from
  recipes_take blobs rest1 store first few b1 short1 (Err place) is e = absurd (cc)
  recipes_take blobs rest1 store first few b1 short1 (Ok recipes) is e =
      let second = list_take recipe_text (MayBeRecipe blobs) recipe_at (is_recipe blobs) (recipes_fit blobs few) (1 + length blobs) rest1 recipes b1 is in
      let next = after recipe_text (MayBeRecipe blobs) rest1 recipes.0 recipes.1 short1 second in
      let b2 = list_bytes recipe_text (MayBeRecipe blobs) rest1 recipes.0 recipes.1 b1 second in
      entries_take blobs rest1 recipes.0 recipes.1 store first second next.few b2 (entries_from (length blobs) (length recipes.0) recipes.1) refl e

  blobs_take : (store : Store) (read : Result (List (List ℕ) × List ℕ) ℕ) → blobs_from bytes ≡ read
      → then_ok read (λ blobs. then_ok (recipes_from blobs.0 blobs.1) (λ recipes. then_ok (entries_from (length blobs.0) (length recipes.0) recipes.1) (whole_of blobs.0 recipes.0))) ≡ Ok store → (bytes ≡ body_text store) × IsStore store
  unfolding blobs_from
  blobs_take store (Err place) is e = absurd (cc)
  blobs_take store (Ok blobs) is e =
      let first = list_take field MayBeBlob field_at is_blob blobs_fit 0 bytes blobs b is in
      let next = after field MayBeBlob bytes blobs.0 blobs.1 short first in
      let b1 = list_bytes field MayBeBlob bytes blobs.0 blobs.1 b first in
      recipes_take blobs.0 blobs.1 store first next.few b1 next.short_behind (recipes_from blobs.0 blobs.1) refl e

  pub body_take : (store : Store) → body_at bytes ≡ Ok store → (bytes ≡ body_text store) × IsStore store
  unfolding body_at
  body_take store e = blobs_take store (blobs_from bytes) refl e
