-- Numbers that Python's text has no spelling for: fractions, and what is past 64 bits.
use Rattle.std.specs.Prelude.{ℕ, ◌+◌, List, [], ◌∷◌, ◌++◌, map}
use Rattle.serde_json.specs.Data.{unsigned, negative, float, Data, null, boolean, number, string, array, object, Items, no_items, item, Members, no_members, member}
use Rattle.osb_shape.specs.Places.{named, index, Place}

-- the places of such numbers, from the value on
abbrev mutual
  pub bad_numbers : Data → List Place
  bad_numbers null = []
  bad_numbers (boolean b) = []
  bad_numbers (number (unsigned n)) = []
  bad_numbers (number (negative z)) = []
  bad_numbers (number (float x)) = [] ∷ []
  bad_numbers (string s) = []
  bad_numbers (array list) = bad_items 0 list
  bad_numbers (object fields) = bad_members fields

  pub bad_items : ℕ → Items → List Place
  bad_items i no_items = []
  bad_items i (item value rest) = map (λ place. index i ∷ place) (bad_numbers value) ++ bad_items (i + 1) rest

  pub bad_members : Members → List Place
  bad_members no_members = []
  bad_members (member name value rest) = map (λ place. named name ∷ place) (bad_numbers value) ++ bad_members rest
