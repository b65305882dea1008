-- Steps of a search among named items.
use Rattle.std.proofs.Common.{◌≡◌, ℕ, ◌+◌, ◌<◌, Bool, true, false, Some, List, ◌∷◌, length, get_or, drop, cond, sym, ◌∙◌, ap, refl, add-one, drop-cons}
use Rattle.std.specs.Map.{lookup}

module _ {K X : Type 0} where
  -- the items from a place on are the one there and the others
  from_place : (items : List (K × X)) (i : ℕ) (item : K × X) → i < length items → item ≡ get_or items i item → drop i items ≡ item ∷ drop (i + 1) items
  from_place items i item h e = rw (drop-cons items i item, ← e, ← add-one) refl

  pub item_here : (test : K → Bool) (items : List (K × X)) (i : ℕ) (item : K × X) → i < length items → item ≡ get_or items i item → test item.0 ≡ true → lookup test (drop i items) ≡ lookup test items → Some item.1 ≡ lookup test items
  item_here test items i item h e same before =
      sym (ap (λ b. cond b (Some item.1) (lookup test (drop (i + 1) items))) same) ∙ sym (ap (lookup test) (from_place items i item h e)) ∙ before

  pub item_later : (test : K → Bool) (items : List (K × X)) (i : ℕ) (item : K × X) → i < length items → item ≡ get_or items i item → test item.0 ≡ false → lookup test (drop i items) ≡ lookup test items → lookup test (drop (i + 1) items) ≡ lookup test items
  item_later test items i item h e other before =
      sym (ap (λ b. cond b (Some item.1) (lookup test (drop (i + 1) items))) other) ∙ sym (ap (lookup test) (from_place items i item h e)) ∙ before
