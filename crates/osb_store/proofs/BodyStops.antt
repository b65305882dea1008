-- A body that is the text of a store is read whole, and any other to the one place where it stops.
use Rattle.std.proofs.Common.{◌≡◌, ℕ, ◌+◌, ◌^◌, ◌<◌, ◌==◌, Bool, false, List, [], ◌∷◌, ◌++◌, length, Result, Ok, Err, cond, inl, inr, refl, sym, ap, ◌∙◌, subst, arith, append-nil}
use Rattle.std.proofs.lemmas.Bool.Decides.{nat_tests}
use Rattle.osb_tree.specs.Trees.{Listing}
use Rattle.osb_recipe.specs.Recipes.{Origin}
use Rattle.osb_cache.specs.declared.answers.Stored.{Stored}
use Rattle.osb_store.specs.declared.stores.Store.{Store}
use Rattle.osb_store.specs.Bytes.{IsBytes}
use Rattle.osb_store.specs.Fields.{field}
use Rattle.osb_store.specs.Reading.{field_at}
use Rattle.osb_store.specs.Texts.{recipe_text, entry_text, list_text, body_text}
use Rattle.osb_store.specs.Rules.{MayBeBlob, MayBeRecipe, MayBeEntry, IsStore}
use Rattle.osb_store.specs.Refusals.{IsList, StopsAt, StopsInRecipes, StopsInEntries, LeavesBytes, BodyStopsAt}
use Rattle.osb_store.specs.Recipes.{recipe_at, is_recipe}
use Rattle.osb_store.specs.Entries.{entry_at, is_entry}
use Rattle.osb_store.specs.Lists.{is_blob, blobs_from, recipes_from, entries_from, then_ok, store_of, whole_of, body_at}
use Rattle.osb_store.proofs.Counted.{list_take, list_again, list_stop, list_stop_again}
use Rattle.osb_store.proofs.Fits.{blobs_fit, recipes_fit, entries_fit}
use Rattle.osb_store.proofs.BodyLaws.{list_is, after, list_bytes}

-- ---- behind lists that are there

module _ (bytes : List ℕ) (short : length bytes < 2 ^ 64) where
  behind_blobs : (blobs : List (List ℕ)) (rest : List ℕ) → IsList field MayBeBlob bytes blobs rest
      → body_at bytes ≡ then_ok (recipes_from blobs rest) (λ recipes. then_ok (entries_from (length blobs) (length recipes.0) recipes.1) (whole_of blobs recipes.0))
  unfolding body_at blobs_from
  behind_blobs blobs rest first =
      ap (λ (read : Result (List (List ℕ) × List ℕ) ℕ). then_ok read (λ held. then_ok (recipes_from held.0 held.1) (λ recipes. then_ok (entries_from (length held.0) (length recipes.0) recipes.1) (whole_of held.0 recipes.0))))
      (list_again field MayBeBlob field_at is_blob blobs_fit 0 bytes blobs rest short first)

  behind_recipes : (blobs : List (List ℕ)) (rest1 : List ℕ) (recipes : List Origin) (rest2 : List ℕ) → IsList field MayBeBlob bytes blobs rest1 → IsList recipe_text (MayBeRecipe blobs) rest1 recipes rest2
      → body_at bytes ≡ then_ok (entries_from (length blobs) (length recipes) rest2) (whole_of blobs recipes)
  unfolding recipes_from
  behind_recipes blobs rest1 recipes rest2 first second =
      let next = after field MayBeBlob bytes blobs rest1 short first in
      behind_blobs blobs rest1 first
      ∙ ap (λ (read : Result (List Origin × List ℕ) ℕ). then_ok read (λ held. then_ok (entries_from (length blobs) (length held.0) held.1) (whole_of blobs held.0)))
      (list_again recipe_text (MayBeRecipe blobs) recipe_at (is_recipe blobs) (recipes_fit blobs next.few) (1 + length blobs) rest1 recipes rest2 next.short_behind second)

  behind_entries : (blobs : List (List ℕ)) (rest1 : List ℕ) (recipes : List Origin) (rest2 : List ℕ) (entries : List (Stored Listing)) (rest3 : List ℕ)
      → IsList field MayBeBlob bytes blobs rest1 → IsList recipe_text (MayBeRecipe blobs) rest1 recipes rest2 → IsList entry_text (MayBeEntry (length recipes)) rest2 entries rest3
      → body_at bytes ≡ whole_of blobs recipes (entries, rest3)
  unfolding entries_from
  behind_entries blobs rest1 recipes rest2 entries rest3 first second third =
      let next1 = after field MayBeBlob bytes blobs rest1 short first in
      let next2 = after recipe_text (MayBeRecipe blobs) rest1 recipes rest2 next1.short_behind second in
      behind_recipes blobs rest1 recipes rest2 first second
      ∙ ap (λ (read : Result (List (Stored Listing) × List ℕ) ℕ). then_ok read (whole_of blobs recipes))
      (list_again entry_text (MayBeEntry (length recipes)) entry_at (is_entry (length recipes)) (entries_fit (length recipes) next2.few) (2 + length blobs + length recipes) rest2 entries rest3 next2.short_behind third)

-- ---- the text of a store

pub body_again : (store : Store) → IsStore store → length (body_text store) < 2 ^ 64 → body_at (body_text store) ≡ Ok store
unfolding body_text
body_again store is short =
    let blobs = store.table.blobs in
    let recipes = store.table.recipes in
    let rest2 = list_text entry_text store.entries in
    let rest1 = list_text recipe_text recipes ++ rest2 in
    let few = after field MayBeBlob (list_text field blobs ++ rest1) blobs rest1 short (list_is field MayBeBlob blobs_fit.long blobs rest1 is.blobs) in
    let first = list_is field MayBeBlob blobs_fit.long blobs rest1 is.blobs in
    let second = list_is recipe_text (MayBeRecipe blobs) (recipes_fit blobs few.few).long recipes rest2 is.recipes in
    let next = after recipe_text (MayBeRecipe blobs) rest1 recipes rest2 few.short_behind second in
    let third = list_is entry_text (MayBeEntry (length recipes)) (entries_fit (length recipes) next.few).long store.entries [] is.entries in
    let third' : IsList entry_text (MayBeEntry (length recipes)) rest2 store.entries [] = subst (λ (xs : List ℕ). IsList entry_text (MayBeEntry (length recipes)) xs store.entries []) (append-nil rest2) third in
    behind_entries (list_text field blobs ++ rest1) short blobs rest1 recipes rest2 store.entries [] first second third'

-- ---- where a body stops

module _ (bytes : List ℕ) (b : IsBytes bytes) (short : length bytes < 2 ^ 64) where
  module _ (blobs : List (List ℕ)) (rest1 : List ℕ) (first : IsList field MayBeBlob bytes blobs rest1) where
    end_stops : (place : ℕ) (recipes : List Origin) (rest2 : List ℕ) → IsList recipe_text (MayBeRecipe blobs) rest1 recipes rest2 → (entries : List (Stored Listing)) (rest3 : List ℕ) → IsList entry_text (MayBeEntry (length recipes)) rest2 entries rest3
        → whole_of blobs recipes (entries, rest3) ≡ Err place → BodyStopsAt bytes place
    end_stops place recipes rest2 second entries [] third e = absurd (cc)
    end_stops place recipes rest2 second entries (byte ∷ rest3) third e =
        let some : (length (byte ∷ rest3) == 0) ≡ false = grind (arith, nat_tests) in
        let told : ◌≡◌ {A = Result Store ℕ} (Err (3 + length blobs + length recipes + length entries)) (Err place) = ap (λ (t : Bool). cond {A = Result Store ℕ} t (Ok (store_of blobs recipes entries)) (Err (3 + length blobs + length recipes + length entries))) (sym some) ∙ e in
        let same : 3 + length blobs + length recipes + length entries ≡ place = cc in
        inr (inr (inr (record {
          blobs = blobs;
          recipes = recipes;
          entries = entries;
          behind = rest2;
          lists = record { behind = rest1; first = first; second = second };
          rest = byte ∷ rest3;
          third = third;
          left = omega arith;
          place_is = sym same;
        })))

    entries_stop : (place : ℕ) (recipes : List Origin) (rest2 : List ℕ) → IsList recipe_text (MayBeRecipe blobs) rest1 recipes rest2 → (read : Result (List (Stored Listing) × List ℕ) ℕ) → entries_from (length blobs) (length recipes) rest2 ≡ read
        → then_ok read (whole_of blobs recipes) ≡ Err place → BodyStopsAt bytes place
    unfolding entries_from
    entries_stop place recipes rest2 second (Ok entries) is e =
        let next1 = after field MayBeBlob bytes blobs rest1 short first in
        let next2 = after recipe_text (MayBeRecipe blobs) rest1 recipes rest2 next1.short_behind second in
        let b2 = list_bytes recipe_text (MayBeRecipe blobs) rest1 recipes rest2 (list_bytes field MayBeBlob bytes blobs rest1 b first) second in
        end_stops place recipes rest2 second entries.0 entries.1 (list_take entry_text (MayBeEntry (length recipes)) entry_at (is_entry (length recipes)) (entries_fit (length recipes) next2.few) (2 + length blobs + length recipes) rest2 entries b2 is) e
    entries_stop place recipes rest2 second (Err at) is e =
        let next1 = after field MayBeBlob bytes blobs rest1 short first in
        let next2 = after recipe_text (MayBeRecipe blobs) rest1 recipes rest2 next1.short_behind second in
        let b2 = list_bytes recipe_text (MayBeRecipe blobs) rest1 recipes rest2 (list_bytes field MayBeBlob bytes blobs rest1 b first) second in
        let stops = list_stop entry_text (MayBeEntry (length recipes)) entry_at (is_entry (length recipes)) (entries_fit (length recipes) next2.few) (2 + length blobs + length recipes) at rest2 b2 next2.short_behind is in
        let same : at ≡ place = cc in
        inr (inr (inl (record {
          blobs = blobs;
          recipes = recipes;
          rest = rest2;
          lists = record { behind = rest1; first = first; second = second };
          more = stops.0;
          stops = stops.1.1;
          place_is = sym same ∙ stops.1.0;
        })))

    recipes_stop : (place : ℕ) (read : Result (List Origin × List ℕ) ℕ) → recipes_from blobs rest1 ≡ read
        → then_ok read (λ recipes. then_ok (entries_from (length blobs) (length recipes.0) recipes.1) (whole_of blobs recipes.0)) ≡ Err place → BodyStopsAt bytes place
    unfolding recipes_from
    recipes_stop place (Ok recipes) is e =
        let next = after field MayBeBlob bytes blobs rest1 short first in
        let b1 = list_bytes field MayBeBlob bytes blobs rest1 b first in
        entries_stop place recipes.0 recipes.1 (list_take recipe_text (MayBeRecipe blobs) recipe_at (is_recipe blobs) (recipes_fit blobs next.few) (1 + length blobs) rest1 recipes b1 is) (entries_from (length blobs) (length recipes.0) recipes.1) refl e
    recipes_stop place (Err at) is e =
        let next = after field MayBeBlob bytes blobs rest1 short first in
        let b1 = list_bytes field MayBeBlob bytes blobs rest1 b first in
        let stops = list_stop recipe_text (MayBeRecipe blobs) recipe_at (is_recipe blobs) (recipes_fit blobs next.few) (1 + length blobs) at rest1 b1 next.short_behind is in
        let same : at ≡ place = cc in
        inr (inl (record { blobs = blobs; rest = rest1; first = first; more = stops.0; stops = stops.1.1; place_is = sym same ∙ stops.1.0 }))

  blobs_stop : (place : ℕ) (read : Result (List (List ℕ) × List ℕ) ℕ) → blobs_from bytes ≡ read
      → then_ok read (λ blobs. then_ok (recipes_from blobs.0 blobs.1) (λ recipes. then_ok (entries_from (length blobs.0) (length recipes.0) recipes.1) (whole_of blobs.0 recipes.0))) ≡ Err place → BodyStopsAt bytes place
  unfolding blobs_from
  blobs_stop place (Ok blobs) is e = recipes_stop blobs.0 blobs.1 (list_take field MayBeBlob field_at is_blob blobs_fit 0 bytes blobs b is) place (recipes_from blobs.0 blobs.1) refl e
  blobs_stop place (Err at) is e =
      let stops = list_stop field MayBeBlob field_at is_blob blobs_fit 0 at bytes b short is in
      let same : at ≡ place = cc in
      let here : stops.0 ≡ place = omega (arith, stops.1.0) in
      inl (subst (λ (n : ℕ). StopsAt field MayBeBlob bytes n) here stops.1.1)

  pub body_stop : (place : ℕ) → body_at bytes ≡ Err place → BodyStopsAt bytes place
  unfolding body_at
  body_stop place e = blobs_stop place (blobs_from bytes) refl e

  blobs_stop_again : (place : ℕ) → StopsAt field MayBeBlob bytes place → body_at bytes ≡ Err place
  unfolding body_at blobs_from
  blobs_stop_again place stops =
      let at : 0 + place ≡ place = omega arith in
      ap (λ (read : Result (List (List ℕ) × List ℕ) ℕ). then_ok read (λ held. then_ok (recipes_from held.0 held.1) (λ recipes. then_ok (entries_from (length held.0) (length recipes.0) recipes.1) (whole_of held.0 recipes.0))))
      (list_stop_again field MayBeBlob field_at is_blob blobs_fit 0 place bytes b short stops)
      ∙ ap Err at

  recipes_stop_again : (place : ℕ) → StopsInRecipes bytes place → body_at bytes ≡ Err place
  unfolding recipes_from
  recipes_stop_again place is =
      let next = after field MayBeBlob bytes is.blobs is.rest short is.first in
      let b1 = list_bytes field MayBeBlob bytes is.blobs is.rest b is.first in
      behind_blobs bytes short is.blobs is.rest is.first
      ∙ ap (λ (read : Result (List Origin × List ℕ) ℕ). then_ok read (λ held. then_ok (entries_from (length is.blobs) (length held.0) held.1) (whole_of is.blobs held.0)))
      (list_stop_again recipe_text (MayBeRecipe is.blobs) recipe_at (is_recipe is.blobs) (recipes_fit is.blobs next.few) (1 + length is.blobs) is.more is.rest b1 next.short_behind is.stops)
      ∙ ap Err (sym is.place_is)

  entries_stop_again : (place : ℕ) → StopsInEntries bytes place → body_at bytes ≡ Err place
  unfolding entries_from
  entries_stop_again place is =
      let lists = is.lists in
      let next1 = after field MayBeBlob bytes is.blobs lists.behind short lists.first in
      let next2 = after recipe_text (MayBeRecipe is.blobs) lists.behind is.recipes is.rest next1.short_behind lists.second in
      let b2 = list_bytes recipe_text (MayBeRecipe is.blobs) lists.behind is.recipes is.rest (list_bytes field MayBeBlob bytes is.blobs lists.behind b lists.first) lists.second in
      behind_recipes bytes short is.blobs lists.behind is.recipes is.rest lists.first lists.second
      ∙ ap (λ (read : Result (List (Stored Listing) × List ℕ) ℕ). then_ok read (whole_of is.blobs is.recipes))
      (list_stop_again entry_text (MayBeEntry (length is.recipes)) entry_at (is_entry (length is.recipes)) (entries_fit (length is.recipes) next2.few) (2 + length is.blobs + length is.recipes) is.more is.rest b2 next2.short_behind is.stops)
      ∙ ap Err (sym is.place_is)

  left_again : (place : ℕ) → LeavesBytes bytes place → body_at bytes ≡ Err place
  left_again place is =
      let lists = is.lists in
      let left = is.left in
      let some : (length is.rest == 0) ≡ false = grind (arith, nat_tests) in
      behind_entries bytes short is.blobs lists.behind is.recipes is.behind is.entries is.rest lists.first lists.second is.third
      ∙ ap (λ (t : Bool). cond {A = Result Store ℕ} t (Ok (store_of is.blobs is.recipes is.entries)) (Err (3 + length is.blobs + length is.recipes + length is.entries))) some
      ∙ ap Err (sym is.place_is)

  pub body_stop_again : (place : ℕ) → BodyStopsAt bytes place → body_at bytes ≡ Err place
  body_stop_again place (inl stops) = blobs_stop_again place stops
  body_stop_again place (inr (inl is)) = recipes_stop_again place is
  body_stop_again place (inr (inr (inl is))) = entries_stop_again place is
  body_stop_again place (inr (inr (inr is))) = left_again place is
