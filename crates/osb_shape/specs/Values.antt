-- Looks into a JSON value.
use Rattle.std.specs.Prelude.{ℕ, ◌==◌, Bool, true, false, ◌&&◌, List, [], ◌∷◌, Option, Some, None, is_some, option_and_then, unwrap_or}
use Rattle.std.specs.Cmp.Lexicographic.{pointwise}
use Rattle.serde_json.specs.Data.{Data, Items, no_items, item, Members, no_members, member}
use Rattle.serde_json.specs.Find.{get, as_str, as_array, as_object}

abbrev pub is_object : Data → Bool
is_object value = is_some (as_object value)

abbrev pub is_empty_items : Items → Bool
is_empty_items no_items = true
is_empty_items (item value rest) = false

abbrev pub is_empty_members : Members → Bool
is_empty_members no_members = true
is_empty_members (member name value rest) = false

-- a test of a value that may not be there
abbrev pub there_is : {A : Type 0} → (A → Bool) → Option A → Bool
there_is test None = false
there_is test (Some value) = test value

abbrev pub list_of : Items → List Data
list_of no_items = []
list_of (item value rest) = value ∷ list_of rest

-- the items of a list that is there; none where there is no list
abbrev pub list_in : Option Data → List Data
list_in found = items_in (option_and_then as_array found)
  where
    items_in : Option Items → List Data
    items_in None = []
    items_in (Some list) = list_of list

-- the items of a list that an object has as a member
abbrev pub list_at : List ℕ → Data → List Data
list_at name value = list_in (get name value)

abbrev pub text_at : List ℕ → Data → Option (List ℕ)
text_at name value = option_and_then as_str (get name value)

abbrev pub is_text : List ℕ → Option (List ℕ) → Bool
is_text text found = there_is (pointwise ◌==◌ text) found

-- the members of an object that is there; none where there is no object
abbrev pub members_in : Option Data → Members
members_in found = unwrap_or (option_and_then as_object found) no_members

-- the members of an object that an object has as a member
abbrev pub members_at : List ℕ → Data → Members
members_at name value = members_in (get name value)

-- the value of a member, if there is one, passes a test
abbrev pub is_absent_or : (Data → Bool) → Option Data → Bool
is_absent_or test None = true
is_absent_or test (Some value) = test value

-- each member of an object passes a test
abbrev pub all_members : (Data → Bool) → Members → Bool
all_members test no_members = true
all_members test (member name value rest) = test value && all_members test rest

abbrev pub all_items : (Data → Bool) → Items → Bool
all_items test no_items = true
all_items test (item value rest) = test value && all_items test rest

-- an object has one member alone
abbrev pub is_single : Members → Bool
is_single no_members = false
is_single (member name value no_members) = true
is_single (member name value (member other more rest)) = false

abbrev pub first_name : Members → Option (List ℕ)
first_name no_members = None
first_name (member name value rest) = Some name
