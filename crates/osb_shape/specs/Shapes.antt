-- The shape of a manifest's objects: which members each may have.
use Rattle.std.specs.Prelude.{ℕ, ◌==◌, Bool, true, false, not, ◌||◌, List, [], ◌∷◌, ◌++◌, codes, map, Option, Some, None, is_some, if◌then◌else◌}
use Rattle.std.specs.List.{filter, list_any}
use Rattle.std.specs.Cmp.Lexicographic.{pointwise}
use Rattle.serde_json.specs.Data.{Data, Members, no_members, member}
use Rattle.serde_json.specs.Find.{get, as_str, as_array, as_object}
use Rattle.osb_shape.specs.Forms.{is_pipeline_name}
use Rattle.osb_shape.specs.Values.{is_object, is_empty_items, is_empty_members, there_is, all_items, all_members}
use Rattle.osb_shape.specs.References.{is_references, is_one_reference, is_inline, is_curl}
use Rattle.osb_shape.specs.declared.shapes.Form.{Form}
use Rattle.osb_shape.specs.declared.shapes.Form.TheVariants as forms

-- a member that an object has, or may have
pub record Row : Type 0 where
  pub name : List ℕ
  pub form : Form
  pub is_required : Bool

-- the members of a kind of object, in their order; an open one may have others too
pub record Shape : Type 0 where
  pub rows : List Row
  pub is_open : Bool

abbrev pub may_have : List ℕ → Form → Row
may_have name form = record { name = name; form = form; is_required = false }

abbrev pub must_have : List ℕ → Form → Row
must_have name form = record { name = name; form = form; is_required = true }

abbrev pub shape : List Row → Bool → Shape
shape rows is_open = record { rows = rows; is_open = is_open }

-- the whole manifest; its version is asked for apart
abbrev pub top_shape : Shape
top_shape = record {
  rows = may_have (codes "pipelines") forms.ListOfObjects
      ∷ may_have (codes "sources") forms.ObjectOfObjects
      ∷ [];
  is_open = true;
}

abbrev pub pipeline_shape : Shape
pipeline_shape = record {
  rows = must_have (codes "name") forms.PipelineName
      ∷ may_have (codes "build") forms.Text
      ∷ may_have (codes "runner") forms.Text
      ∷ may_have (codes "stages") forms.ListOfObjects
      ∷ [];
  is_open = false;
}

abbrev pub stage_shape : Shape
stage_shape = record {
  rows = must_have (codes "type") forms.Text
      ∷ may_have (codes "options") forms.Object
      ∷ may_have (codes "inputs") forms.ObjectOfObjects
      ∷ may_have (codes "devices") forms.Nothing
      ∷ may_have (codes "mounts") forms.Nothing
      ∷ [];
  is_open = false;
}

-- an input; that of a tree has one reference
abbrev pub input_shape : Bool → Shape
input_shape is_tree = record {
  rows = must_have (codes "type") forms.Text
      ∷ must_have (codes "origin") forms.Text
      ∷ must_have (codes "references") (if is_tree then forms.OneReference else forms.References)
      ∷ [];
  is_open = false;
}

-- the items of a source: where they are held in it objects, where they are to be had elsewhere texts or objects
abbrev pub items_form : List ℕ → Form
items_form source =
    if is_inline source then forms.ObjectOfObjects
    else if is_curl source then forms.ObjectOfTextsOrObjects
    else forms.Object

abbrev pub source_shape : List ℕ → Shape
source_shape source = record { rows = may_have (codes "items") (items_form source) ∷ []; is_open = true }

abbrev pub inline_item_rows : List Row
inline_item_rows = must_have (codes "encoding") forms.Text ∷ must_have (codes "data") forms.Text ∷ []

-- an item that a source holds itself; nothing is asked of others
abbrev pub item_shape : List ℕ → Shape
item_shape source = record { rows = if is_inline source then inline_item_rows else []; is_open = true }

-- ---- what is wrong with an object

abbrev pub is_text_or_object : Data → Bool
is_text_or_object value = is_some (as_str value) || is_object value

abbrev pub is_named_so : Data → Bool
is_named_so value = there_is is_pipeline_name (as_str value)

abbrev pub is_list_of_objects : Data → Bool
is_list_of_objects value = there_is (all_items is_object) (as_array value)

abbrev pub is_object_of : (Data → Bool) → Data → Bool
is_object_of test value = there_is (all_members test) (as_object value)

-- an empty list, or an object with no members
abbrev pub is_nothing : Data → Bool
is_nothing value = there_is is_empty_items (as_array value) || there_is is_empty_members (as_object value)

abbrev pub has_form : Form → Data → Bool
has_form forms.Text value = is_some (as_str value)
has_form forms.PipelineName value = is_named_so value
has_form forms.Object value = is_object value
has_form forms.ListOfObjects value = is_list_of_objects value
has_form forms.ObjectOfObjects value = is_object_of is_object value
has_form forms.ObjectOfTextsOrObjects value = is_object_of is_text_or_object value
has_form forms.References value = is_references value
has_form forms.OneReference value = is_one_reference value
has_form forms.Nothing value = is_nothing value

-- a required member is absent, or a member has another form
abbrev pub is_broken_at : Row → Option Data → Bool
is_broken_at row None = row.is_required
is_broken_at row (Some found) = not (has_form row.form found)

abbrev pub is_broken : Data → Row → Bool
is_broken value row = is_broken_at row (get row.name value)

-- the members of a table that are broken, in its order
abbrev pub broken_names : Data → List Row → List (List ℕ)
broken_names value rows = map (λ row. row.name) (filter (is_broken value) rows)

abbrev pub is_known : List Row → List ℕ → Bool
is_known rows name = list_any (λ row. pointwise ◌==◌ row.name name) rows

-- by name, as an object has its members
abbrev pub unknown_names : List Row → Members → List (List ℕ)
unknown_names rows no_members = []
unknown_names rows (member name value rest) = if is_known rows name then unknown_names rows rest else name ∷ unknown_names rows rest

-- the members at which an object has not its shape: in the shape's order, and then those that it doesn't know, by name
abbrev pub offending : Shape → Data → List (List ℕ)
offending shape value = of_members (as_object value)
  where
    of_members : Option Members → List (List ℕ)
    of_members None = []
    of_members (Some fields) = broken_names value shape.rows ++ (if shape.is_open then [] else unknown_names shape.rows fields)
