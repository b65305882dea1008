-- Texts that rise.
use Rattle.std.proofs.Common.{◌≡◌, ℕ, ◌+◌, ◌<◌, Bool, true, false, List, [], ◌∷◌, map, length, get_or, drop, Ordering, Less, refl, sym, ap, ◌∙◌, add-one}
use Rattle.std.specs.Prelude.{◌&&◌}
use Rattle.std.specs.List.{AllByRecursion}
use Rattle.std.specs.List.Sorted.{IsStrictlySortedBy}
use Rattle.std.specs.Ordering.{nat_cmp, is_lt}
use Rattle.std.specs.Cmp.Derive.{both_true}
use Rattle.std.specs.Cmp.Lexicographic.{slice_cmp, nat_list_cmp_total}
use Rattle.std.proofs.lemmas.Bool.{and_parts}
use Rattle.std.proofs.Math.Seq.{drop-cons}
use Rattle.osb_pyread.proofs.Keys.{is_below}
use Rattle.osb_store.specs.Recipes.{is_above, rises_from, rises}

-- ---- one after another

module _ {X : Type 0} (text : X → List ℕ) (last : List ℕ) (xs : List X) (i : ℕ) (x d : X) (within : i < length xs) (here : x ≡ get_or xs i d) where
  front : drop i xs ≡ x ∷ drop (i + 1) xs
  front = drop-cons xs i d within ∙ (λ j. sym here j ∷ drop (sym (add-one i) j) xs)

  pub rise_on : is_above last (text x) ≡ true → rises_from (text x) (map text (drop (i + 1) xs)) ≡ rises_from last (map text (drop i xs))
  rise_on above = sym (ap (λ (ys : List X). rises_from last (map text ys)) front ∙ ap (λ (b : Bool). b && rises_from (text x) (map text (drop (i + 1) xs))) above)

  pub rise_no_more : is_above last (text x) ≡ false → rises_from last (map text (drop i xs)) ≡ false
  rise_no_more level = ap (λ (ys : List X). rises_from last (map text ys)) front ∙ ap (λ (b : Bool). b && rises_from (text x) (map text (drop (i + 1) xs))) level

-- ---- in order

abbrev pub text_cmp : List ℕ → List ℕ → Ordering
text_cmp = slice_cmp nat_cmp

all_above : (last text : List ℕ) (texts : List (List ℕ)) → text_cmp last text ≡ Less → AllByRecursion (λ y. text_cmp text y ≡ Less) texts → AllByRecursion (λ y. text_cmp last y ≡ Less) texts
all_above last text [] less above = tt
all_above last text (next ∷ texts) less above = (nat_list_cmp_total.trans last text next less above.0, all_above last text texts less above.1)

sorted_from : (last : List ℕ) (texts : List (List ℕ)) → rises_from last texts ≡ true → IsStrictlySortedBy text_cmp (last ∷ texts)
unfolding IsStrictlySortedBy
sorted_from last [] e = (tt, tt)
sorted_from last (text ∷ texts) e =
    let both = and_parts (is_above last text) (rises_from text texts) e in
    let later = sorted_from text texts both.1 in
    let less = is_below (text_cmp last text) both.0 in
    ((less, all_above last text texts less later.0), later)

pub rises_sorted : (texts : List (List ℕ)) → rises texts ≡ true → IsStrictlySortedBy text_cmp texts
unfolding IsStrictlySortedBy
rises_sorted [] e = tt
rises_sorted (text ∷ texts) e = sorted_from text texts e

rises_on_from : (last : List ℕ) (texts : List (List ℕ)) → IsStrictlySortedBy text_cmp (last ∷ texts) → rises_from last texts ≡ true
unfolding IsStrictlySortedBy
rises_on_from last [] sorted = refl
rises_on_from last (text ∷ texts) sorted = both_true (ap is_lt sorted.0.0) (rises_on_from text texts sorted.1)

pub sorted_rises : (texts : List (List ℕ)) → IsStrictlySortedBy text_cmp texts → rises texts ≡ true
sorted_rises [] sorted = refl
sorted_rises (text ∷ texts) sorted = rises_on_from text texts sorted
