-- What an input refers to: references, each with an object of options.
use Rattle.std.specs.Prelude.{ℕ, ◌==◌, Bool, true, ◌&&◌, ◌||◌, List, codes, drop, Option, Some, None, is_some, option_and_then, if◌then◌else◌}
use Rattle.std.specs.List.{starts_with}
use Rattle.std.specs.Cmp.Lexicographic.{pointwise}
use Rattle.serde_json.specs.Data.{Data, string, array, object, Items, no_items, item, Members, no_members, member, put}
use Rattle.serde_json.specs.Find.{get, as_str, as_array, as_object}
use Rattle.osb_shape.specs.Values.{is_object, there_is, text_at, members_at, is_text, is_absent_or, all_items, all_members, is_single, first_name}

-- ---- the three forms: a list of texts, a list of objects that have them as `id`, and an object from them to options

abbrev pub is_string : Data → Bool
is_string value = is_some (as_str value)

abbrev pub is_id_or_options : List ℕ → Bool
is_id_or_options name = pointwise ◌==◌ name (codes "id") || pointwise ◌==◌ name (codes "options")

abbrev pub has_id_alone : Members → Bool
has_id_alone no_members = true
has_id_alone (member name value rest) = is_id_or_options name && has_id_alone rest

-- an object with a text `id`, which may have an object `options`, and has nothing else
abbrev pub is_reference : Data → Bool
is_reference value =
    is_some (text_at (codes "id") value) && (is_absent_or is_object (get (codes "options") value) && there_is has_id_alone (as_object value))

abbrev pub is_reference_list : Items → Bool
is_reference_list items = all_items is_string items || all_items is_reference items

abbrev pub is_references : Data → Bool
is_references value = there_is is_reference_list (as_array value) || there_is (all_members is_object) (as_object value)

-- ---- the options by reference, for which all three stand: of equal references the last one counts, and options that are
-- absent are empty

abbrev pub with_id : Members → Option (List ℕ) → Data → Members
with_id references None options = references
with_id references (Some id) options = put id options references

abbrev pub with_reference : Members → Data → Members
with_reference references (string id) = put id (object no_members) references
with_reference references (object fields) = with_id references (text_at (codes "id") (object fields)) (object (members_at (codes "options") (object fields)))
with_reference references other = references

abbrev pub with_references : Members → Items → Members
with_references references no_items = references
with_references references (item value rest) = with_references (with_reference references value) rest

abbrev pub references_in : Option Data → Members
references_in (Some (array items)) = with_references no_members items
references_in (Some (object fields)) = fields
references_in other = no_members

abbrev pub references_at : Data → Members
references_at input = references_in (get (codes "references") input)

-- references, and one alone
abbrev pub is_one_reference : Data → Bool
is_one_reference value = is_references value && is_single (references_in (Some value))

-- ---- inputs and sources by their types

abbrev pub is_of : List ℕ → List ℕ → Data → Bool
is_of type origin input = is_text type (text_at (codes "type") input) && is_text origin (text_at (codes "origin") input)

-- the tree of a pipeline
abbrev pub is_tree_input : Data → Bool
is_tree_input input = is_of (codes "org.osbuild.tree") (codes "org.osbuild.pipeline") input

-- items of sources
abbrev pub is_files_input : Data → Bool
is_files_input input = is_of (codes "org.osbuild.files") (codes "org.osbuild.source") input

-- items that the manifest holds itself
abbrev pub is_inline : List ℕ → Bool
is_inline source = pointwise ◌==◌ (codes "org.osbuild.inline") source

-- items that are to be had elsewhere
abbrev pub is_curl : List ℕ → Bool
is_curl source = pointwise ◌==◌ (codes "org.osbuild.curl") source

-- what stands behind `name:`, where that begins a reference
abbrev pub referred : List ℕ → Option (List ℕ)
referred reference = if starts_with ◌==◌ reference (codes "name:") then Some (drop 5 reference) else None

-- the pipeline that the first of some references names
abbrev pub referred_first : Members → Option (List ℕ)
referred_first references = option_and_then referred (first_name references)
