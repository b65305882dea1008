-- A manifest's objects, in the order in which they are walked, and the places at which each condition applies.
use Rattle.std.specs.Prelude.{ℕ, ◌+◌, ◌==◌, Bool, true, false, not, ◌&&◌, ◌||◌, List, [], ◌∷◌, ◌++◌, codes, length, map, take, nat_lt, Option, Some, is_some, option_map, option_and_then, Result, Err, if◌then◌else◌}
use Rattle.std.specs.List.{flat_map, filter_map, list_any}
use Rattle.std.specs.Cmp.Lexicographic.{pointwise}
use Rattle.serde_json.specs.Data.{Data, object, Members, no_members, member}
use Rattle.serde_json.specs.Find.{get}
use Rattle.osb_base.specs.Digests.{digest_of}
use Rattle.osb_tree.specs.declared.faults.OptionFault.{OptionFault}
use Rattle.osb_recipe.specs.Kinds.{kind_of}
use Rattle.osb_recipe.specs.declared.kinds.StageKind.{StageKind}
use Rattle.osb_recipe.specs.declared.kinds.KindFault.{KindFault}
use Rattle.osb_recipe.specs.declared.kinds.KindFault.TheVariants as kinds
use Rattle.osb_shape.specs.Firsts.{first}
use Rattle.osb_shape.specs.Values.{is_object, there_is, list_at, text_at, is_text, members_in, members_at}
use Rattle.osb_shape.specs.Places.{known, Place, place_text, pipeline_place, stage_place, input_place, source_place, item_place, member_place}
use Rattle.osb_shape.specs.References.{references_at, is_tree_input, is_files_input, is_inline, is_curl, referred, referred_first}
use Rattle.osb_shape.specs.Shapes.{Shape, top_shape, pipeline_shape, stage_shape, input_shape, source_shape, item_shape, offending}
use Rattle.osb_shape.specs.Numbers.{bad_numbers, bad_members}
use Rattle.osb_manifest.specs.declared.conditions.Condition.{Condition}
use Rattle.osb_manifest.specs.declared.conditions.Condition.TheVariants as conditions
use Rattle.osb_manifest.specs.declared.manifests.Refusal.{Refusal}
use Rattle.osb_manifest.specs.declared.manifests.Refusal.TheVariants as refusals

-- ---- what a pipeline and a stage have

abbrev pub name_of : Data → Option (List ℕ)
name_of pipeline = text_at (codes "name") pipeline

-- the name of the pipeline that a pipeline's `build` refers to
abbrev pub build_name : Data → Option (List ℕ)
build_name pipeline = option_and_then referred (text_at (codes "build") pipeline)

-- the options of a stage, which are empty where it has no object of them
abbrev pub options_of : Data → Data
options_of stage = object (members_at (codes "options") stage)

-- the kind of a stage, where it has a type
abbrev pub stage_kind : Data → Option (Result StageKind KindFault)
stage_kind stage = option_map (λ text. kind_of text (options_of stage)) (text_at (codes "type") stage)

-- the items that a source of a name lists
abbrev pub items_of : List ℕ → Data → Members
items_of source whole = members_in (option_and_then (get (codes "items")) (get source (object (members_at (codes "sources") whole))))

-- ---- the walk

-- an object of a manifest: a pipeline by its place, a stage by its pipeline's and its own, an input by these and its
-- name, a source by its name, and an item by its source's name and its own
pub data Object : Type 0 where
  at_top : Data → Object
  at_pipeline : ℕ → Data → Object
  at_stage : ℕ → ℕ → Data → Object
  at_input : ℕ → ℕ → List ℕ → Data → Object
  at_source : List ℕ → Data → Object
  at_item : List ℕ → List ℕ → Data → Object

-- the objects of each value of a list, whose places count from a first one
abbrev pub in_order : (ℕ → Data → List Object) → ℕ → List Data → List Object
in_order each i [] = []
in_order each i (value ∷ values) = each i value ++ in_order each (i + 1) values

-- the objects of each member, by name, as an object has its members
abbrev pub by_name : (List ℕ → Data → List Object) → Members → List Object
by_name each no_members = []
by_name each (member name value rest) = each name value ++ by_name each rest

abbrev pub input_objects : ℕ → ℕ → List ℕ → Data → List Object
input_objects i j name value = at_input i j name value ∷ []

abbrev pub stage_objects : ℕ → ℕ → Data → List Object
stage_objects i j value = at_stage i j value ∷ by_name (input_objects i j) (members_at (codes "inputs") value)

abbrev pub pipeline_objects : ℕ → Data → List Object
pipeline_objects i value = at_pipeline i value ∷ in_order (stage_objects i) 0 (list_at (codes "stages") value)

abbrev pub item_objects : List ℕ → List ℕ → Data → List Object
item_objects source name value = at_item source name value ∷ []

abbrev pub source_objects : List ℕ → Data → List Object
source_objects name value = at_source name value ∷ by_name (item_objects name) (members_at (codes "items") value)

-- the top, and then each pipeline with its stages, and each stage with its inputs; then each source with its items
abbrev pub objects : Data → List Object
objects value =
    at_top value
    ∷ (in_order pipeline_objects 0 (list_at (codes "pipelines") value) ++ by_name source_objects (members_at (codes "sources") value))

-- ---- conditions, each by the objects at which it applies

abbrev pub when : Bool → Refusal → List Refusal
when holds refusal = if holds then refusal ∷ [] else []

-- 3
abbrev pub not_object : Object → List Refusal
not_object (at_top value) = when (not (is_object value)) (refusals.NotObject (place_text []))
not_object here = []

-- 4: the version is the text `2`
abbrev pub other_version : Object → List Refusal
other_version (at_top value) = when (not (is_text (codes "2") (text_at (codes "version") value))) (refusals.Version (place_text []))
other_version here = []

-- 5: at most 256 pipelines, each of at most 1,024 stages
abbrev pub too_many : Object → List Refusal
too_many (at_top value) = when (nat_lt 256 (length (list_at (codes "pipelines") value))) (refusals.TooMany (place_text (known (codes "pipelines") ∷ [])))
too_many (at_pipeline i value) = when (nat_lt 1024 (length (list_at (codes "stages") value))) (refusals.TooMany (place_text (member_place (pipeline_place i) (codes "stages"))))
too_many here = []

abbrev pub value_of : Object → Data
value_of (at_top value) = value
value_of (at_pipeline i value) = value
value_of (at_stage i j value) = value
value_of (at_input i j name value) = value
value_of (at_source name value) = value
value_of (at_item source name value) = value

abbrev pub place_of : Object → Place
place_of (at_top value) = []
place_of (at_pipeline i value) = pipeline_place i
place_of (at_stage i j value) = stage_place i j
place_of (at_input i j name value) = input_place i j name
place_of (at_source name value) = source_place name
place_of (at_item source name value) = item_place source name

abbrev pub shape_of : Object → Shape
shape_of (at_top value) = top_shape
shape_of (at_pipeline i value) = pipeline_shape
shape_of (at_stage i j value) = stage_shape
shape_of (at_input i j name value) = input_shape (is_tree_input value)
shape_of (at_source name value) = source_shape name
shape_of (at_item source name value) = item_shape source

-- 6
abbrev pub wrong_members : Object → List Refusal
wrong_members here = map (refusals.Member (place_text (place_of here))) (offending (shape_of here) (value_of here))

abbrev pub options_place : ℕ → ℕ → List ℕ
options_place i j = place_text (member_place (stage_place i j) (codes "options"))

-- 7: a number in a stage's options, at its place from the top, or in a reference's, at the input
abbrev pub wrong_numbers : Object → List Refusal
wrong_numbers (at_stage i j value) = map (λ place. refusals.BadNumber (options_place i j ++ place_text place)) (bad_numbers (options_of value))
wrong_numbers (at_input i j name value) = when (is_some (first (bad_members (references_at value)))) (refusals.BadNumber (place_text (input_place i j name)))
wrong_numbers here = []

-- a pipeline of the list before a place has the name
abbrev pub is_taken : List Data → ℕ → List ℕ → Bool
is_taken pipelines i name = list_any (pointwise ◌==◌ name) (filter_map name_of (take i pipelines))

-- 8
abbrev pub duplicate : Data → Object → List Refusal
duplicate whole (at_pipeline i value) = when (there_is (is_taken (list_at (codes "pipelines") whole) i) (name_of value)) (refusals.DuplicatePipeline (place_text (pipeline_place i)))
duplicate whole here = []

-- 9: the reference of a tree is `name:` and the name of a pipeline before its own, and so is a `build`
abbrev pub is_lost : Data → ℕ → Data → Bool
is_lost whole i input = is_tree_input input && not (there_is (is_taken (list_at (codes "pipelines") whole) i) (referred_first (references_at input)))

abbrev pub is_build_lost : Data → ℕ → Data → Bool
is_build_lost whole i pipeline = is_some (text_at (codes "build") pipeline) && not (there_is (is_taken (list_at (codes "pipelines") whole) i) (build_name pipeline))

abbrev pub unknown_reference : Data → Object → List Refusal
unknown_reference whole (at_pipeline i value) = when (is_build_lost whole i value) (refusals.UnknownReference (place_text (member_place (pipeline_place i) (codes "build"))))
unknown_reference whole (at_input i j name value) = when (is_lost whole i value) (refusals.UnknownReference (place_text (input_place i j name)))
unknown_reference whole here = []

abbrev pub is_unknown : Option (Result StageKind KindFault) → Bool
is_unknown (Some (Err kinds.UnknownStage)) = true
is_unknown other = false

-- 10
abbrev pub unknown_stage : Object → List Refusal
unknown_stage (at_stage i j value) = when (is_unknown (stage_kind value)) (refusals.UnknownStage (place_text (stage_place i j)))
unknown_stage here = []

-- 11: an input is a tree, or files
abbrev pub unknown_input : Object → List Refusal
unknown_input (at_input i j name value) = when (not (is_tree_input value || is_files_input value)) (refusals.UnknownInput (place_text (input_place i j name)))
unknown_input here = []

-- 12
abbrev pub unknown_source : Object → List Refusal
unknown_source (at_source name value) = when (not (is_inline name || is_curl name)) (refusals.UnknownSource (place_text (source_place name)))
unknown_source here = []

-- the names of members are digests
abbrev pub are_digests : Members → Bool
are_digests no_members = true
are_digests (member name value rest) = is_some (digest_of name) && are_digests rest

-- 13: items are referred to and listed by their digests
abbrev pub bad_checksum : Object → List Refusal
bad_checksum (at_input i j name value) = when (is_files_input value && not (are_digests (references_at value))) (refusals.BadChecksum (place_text (input_place i j name)))
bad_checksum (at_source name value) = when (not (are_digests (members_at (codes "items") value))) (refusals.BadChecksum (place_text (source_place name)))
bad_checksum here = []

-- 14: an item that a source holds itself is written in base64
abbrev pub other_encoding : Object → List Refusal
other_encoding (at_item source name value) = when (is_inline source && not (is_text (codes "base64") (text_at (codes "encoding") value))) (refusals.Encoding (place_text (item_place source name)))
other_encoding here = []

abbrev pub faults_of : Option (Result StageKind KindFault) → List OptionFault
faults_of (Some (Err (kinds.Options fault))) = fault ∷ []
faults_of other = []

-- 15
abbrev pub wrong_options : Object → List Refusal
wrong_options (at_stage i j value) = map (refusals.Options (options_place i j)) (faults_of (stage_kind value))
wrong_options here = []

-- ---- the refusals of a manifest

-- the conditions, the least number first
abbrev pub all_conditions : List Condition
all_conditions =
    conditions.NoObject ∷ conditions.OtherVersion ∷ conditions.TooMany ∷ conditions.WrongMember ∷ conditions.BadNumber
    ∷ conditions.Duplicate ∷ conditions.UnknownReference ∷ conditions.UnknownStage ∷ conditions.UnknownInput
    ∷ conditions.UnknownSource ∷ conditions.BadChecksum ∷ conditions.OtherEncoding ∷ conditions.WrongOptions ∷ []

abbrev pub applies : Data → Condition → Object → List Refusal
applies whole conditions.NoObject here = not_object here
applies whole conditions.OtherVersion here = other_version here
applies whole conditions.TooMany here = too_many here
applies whole conditions.WrongMember here = wrong_members here
applies whole conditions.BadNumber here = wrong_numbers here
applies whole conditions.Duplicate here = duplicate whole here
applies whole conditions.UnknownReference here = unknown_reference whole here
applies whole conditions.UnknownStage here = unknown_stage here
applies whole conditions.UnknownInput here = unknown_input here
applies whole conditions.UnknownSource here = unknown_source here
applies whole conditions.BadChecksum here = bad_checksum here
applies whole conditions.OtherEncoding here = other_encoding here
applies whole conditions.WrongOptions here = wrong_options here

unfoldable pub everywhere : Data → Condition → List Refusal
everywhere whole condition = flat_map (applies whole condition) (objects whole)

-- all that is wrong with a value: by number, and for one number in the order of the walk
abbrev pub refusals_of : Data → List Refusal
refusals_of whole = flat_map (everywhere whole) all_conditions
