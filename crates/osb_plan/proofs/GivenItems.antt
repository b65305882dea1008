-- The items of a files input, as the recipe of a stage has them: by rising digest, each where the table has it.
use Rattle.std.proofs.Common.{◌≡◌, ℕ, ◌≤◌, ◌==◌, Bool, true, false, cond, List, [], ◌∷◌, map, length, Option, Some, None, Less, Ordering, refl, sym, ap, ◌∙◌, subst}
use Rattle.std.specs.Prelude.{slice_get}
use Rattle.std.specs.List.{AllByRecursion, cons_option, filter_map}
use Rattle.std.specs.List.Sorted.{IsStrictlySortedBy}
use Rattle.std.specs.Map.{keys_of, values_of, lookup}
use Rattle.std.specs.Option.{IfSome}
use Rattle.std.specs.Cmp.Lexicographic.{pointwise, slice_cmp}
use Rattle.std.specs.Ordering.{nat_cmp}
use Rattle.std.proofs.lemmas.List.Elements.{All-from_recursion}
use Rattle.sha2.specs.Sha256.{sha256}
use Rattle.osb_recipe.specs.Interning.{place_in}
use Rattle.osb_recipe.specs.Tables.{same_bytes}
use Rattle.osb_recipe.proofs.Exact.{exact_bytes}
use Rattle.osb_manifest.specs.Solo.{Blobs, items_given}
use Rattle.osb_plan.specs.Bridge.{IsItem}
use Rattle.osb_plan.proofs.Links.{AreAt, HasFiles}

-- ---- what a look-up finds

module _ {K X : Type 0} (P : X → Type 0) (test : K → Bool) where
  found_step : (b : Bool) (value : X) (rest : Option X) → (b ≡ true → P value) → IfSome rest P → IfSome (cond b (Some value) rest) P
  found_step true value rest first later = first refl
  found_step false value rest first later = later

  -- it has what each entry that passes has
  pub lookup-has : (entries : List (K × X)) → AllByRecursion (λ entry. test entry.0 ≡ true → P entry.1) entries → IfSome (lookup test entries) P
  lookup-has [] all = tt
  lookup-has (entry ∷ entries) all = found_step (test entry.0) entry.1 (lookup test entries) all.0 (lookup-has entries all.1)

-- ---- what a list's items give

module _ {X Y : Type 0} (P : Y → Type 0) (give : X → Option Y) (has : (x : X) → IfSome (give x) P) where
  given_step : (made : Option Y) (rest : List Y) → IfSome made P → AllByRecursion P rest → AllByRecursion P (cons_option made rest)
  given_step None rest first later = later
  given_step (Some y) rest first later = (first, later)

  pub filter_map-has : (xs : List X) → AllByRecursion P (filter_map give xs)
  filter_map-has [] = tt
  filter_map-has (x ∷ xs) = given_step (give x) (filter_map give xs) (has x) (filter_map-has xs)

-- where each gives what has it as its key, the keys rise as the list does
module _ {K V : Type 0} (cmp : K → K → Ordering) (key : V → K) (give : K → Option V) (gives : (k : K) → IfSome (give k) (λ v. key v ≡ k)) where
  above_step : (first k : K) (made : Option V) (rest : List V) → IfSome made (λ v. key v ≡ k) → cmp first k ≡ Less → AllByRecursion (λ other. cmp first other ≡ Less) (map key rest) → AllByRecursion (λ other. cmp first other ≡ Less) (map key (cons_option made rest))
  above_step first k None rest g less later = later
  above_step first k (Some v) rest g less later = (ap (cmp first) g ∙ less, later)

  above : (first : K) (ks : List K) → AllByRecursion (λ other. cmp first other ≡ Less) ks → AllByRecursion (λ other. cmp first other ≡ Less) (map key (filter_map give ks))
  above first [] less = tt
  above first (k ∷ ks) less = above_step first k (give k) (filter_map give ks) (gives k) less.0 (above first ks less.1)

  rising_step : (k : K) (made : Option V) (rest : List V) → IfSome made (λ v. key v ≡ k) → AllByRecursion (λ other. cmp k other ≡ Less) (map key rest) → IsStrictlySortedBy cmp (map key rest) → IsStrictlySortedBy cmp (map key (cons_option made rest))
  unfolding IsStrictlySortedBy
  rising_step k None rest g less later = later
  rising_step k (Some v) rest g less later = (subst (λ (one : K). AllByRecursion (λ other. cmp one other ≡ Less) (map key rest)) (sym g) less, later)

  pub filter_map-rises : (ks : List K) → IsStrictlySortedBy cmp ks → IsStrictlySortedBy cmp (map key (filter_map give ks))
  unfolding IsStrictlySortedBy
  filter_map-rises [] rising = tt
  filter_map-rises (k ∷ ks) rising = rising_step k (give k) (filter_map give ks) (gives k) (above k ks rising.0) (filter_map-rises ks rising.1)

-- ---- what was gathered

-- the blobs of a table have a value
abbrev pub HasBlob : List (List ℕ) → List ℕ → Type 0
HasBlob blobs value = slice_get blobs (place_in same_bytes blobs value) ≡ Some value

module _ (gathered : Blobs) (blobs : List (List ℕ)) where
  abbrev given : List ℕ → Option (List ℕ)
  given digest = lookup (pointwise ◌==◌ digest) gathered

  digest_step : (digest : List ℕ) (entries : Blobs) → AllByRecursion IsItem entries → AllByRecursion (λ (entry : List ℕ × List ℕ). pointwise ◌==◌ digest entry.0 ≡ true → sha256 entry.1 ≡ digest) entries
  digest_step digest [] items = tt
  digest_step digest (entry ∷ entries) items = (λ e. items.0.digest ∙ sym (exact_bytes digest entry.0 e), digest_step digest entries items.1)

  small_step : (digest : List ℕ) (entries : Blobs) → AllByRecursion IsItem entries → AllByRecursion (λ (entry : List ℕ × List ℕ). pointwise ◌==◌ digest entry.0 ≡ true → length entry.1 ≤ 16777216) entries
  small_step digest [] items = tt
  small_step digest (entry ∷ entries) items = (λ e. items.0.small, small_step digest entries items.1)

  there_step : (digest : List ℕ) (entries : Blobs) → AllByRecursion (HasBlob blobs) (values_of entries) → AllByRecursion (λ (entry : List ℕ × List ℕ). pointwise ◌==◌ digest entry.0 ≡ true → HasBlob blobs entry.1) entries
  there_step digest [] there = tt
  there_step digest (entry ∷ entries) there = (λ e. there.0, there_step digest entries there.1)

  are_at : (items : List (List ℕ)) → AllByRecursion (HasBlob blobs) items → AreAt blobs (map (place_in same_bytes blobs) items) items
  are_at [] there = tt
  are_at (item ∷ items) there = (there.0, are_at items there.1)

  pub HasFiles-given : (files : List (List ℕ × List ℕ)) → AllByRecursion IsItem gathered → AllByRecursion (HasBlob blobs) (values_of gathered) → IsStrictlySortedBy (slice_cmp nat_cmp) (keys_of files)
      → HasFiles blobs (map (place_in same_bytes blobs) (items_given gathered files))
  HasFiles-given files items there rising = record {
    items = items_given gathered files;
    there = are_at (items_given gathered files) (filter_map-has (HasBlob blobs) given (λ digest. lookup-has (HasBlob blobs) (pointwise ◌==◌ digest) gathered (there_step digest gathered there)) (keys_of files));
    sound = record {
      rising = filter_map-rises (slice_cmp nat_cmp) sha256 given (λ digest. lookup-has (λ (value : List ℕ). sha256 value ≡ digest) (pointwise ◌==◌ digest) gathered (digest_step digest gathered items)) (keys_of files) rising;
      small = All-from_recursion (λ (bytes : List ℕ). length bytes ≤ 16777216) (items_given gathered files)
          (filter_map-has (λ (bytes : List ℕ). length bytes ≤ 16777216) given (λ digest. lookup-has (λ (bytes : List ℕ). length bytes ≤ 16777216) (pointwise ◌==◌ digest) gathered (small_step digest gathered items)) (keys_of files));
    };
  }
