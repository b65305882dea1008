-- A value in which no number is bad has no fraction.
use Rattle.std.proofs.Common.{◌≡◌, ℕ, ◌+◌, false, ◌||◌, [], ◌∷◌, map, refl, ap₂}
use Rattle.serde_json.specs.Data.{unsigned, negative, float, Data, null, boolean, number, string, array, object, Items, no_items, item, Members, no_members, member}
use Rattle.serde_json.specs.Written.{has_float, items_have_float, members_have_float}
use Rattle.osb_shape.specs.Places.{named, index}
use Rattle.osb_shape.specs.Numbers.{bad_numbers, bad_items, bad_members}
use Rattle.osb_manifest.proofs.Nothing.{nothing_left, nothing_right, none-from_map}

mutual
  pub has_float-right : (d : Data) → bad_numbers d ≡ [] → has_float d ≡ false
  has_float-right null e = refl
  has_float-right (boolean b) e = refl
  has_float-right (number (unsigned n)) e = refl
  has_float-right (number (negative z)) e = refl
  has_float-right (number (float x)) e = cc
  has_float-right (string s) e = refl
  has_float-right (array items) e = items_right 0 items e
  has_float-right (object fields) e = members_right fields e

  items_right : (i : ℕ) (items : Items) → bad_items i items ≡ [] → items_have_float items ≡ false
  items_right i no_items e = refl
  items_right i (item d items) e =
      ap₂ (λ a b. a || b) (has_float-right d (none-from_map (λ place. index i ∷ place) (bad_numbers d) (nothing_left (map (λ place. index i ∷ place) (bad_numbers d)) (bad_items (i + 1) items) e)))
      (items_right (i + 1) items (nothing_right (map (λ place. index i ∷ place) (bad_numbers d)) (bad_items (i + 1) items) e))

  members_right : (fields : Members) → bad_members fields ≡ [] → members_have_float fields ≡ false
  members_right no_members e = refl
  members_right (member name d fields) e =
      ap₂ (λ a b. a || b) (has_float-right d (none-from_map (λ place. named name ∷ place) (bad_numbers d) (nothing_left (map (λ place. named name ∷ place) (bad_numbers d)) (bad_members fields) e)))
      (members_right fields (nothing_right (map (λ place. named name ∷ place) (bad_numbers d)) (bad_members fields) e))
