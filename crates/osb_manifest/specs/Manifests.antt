-- What a manifest is, from its bytes.
use Rattle.std.specs.Prelude.{◌≡◌, ℕ, ◌<◌, ◌≤◌, ◌+◌, ◌==◌, Bool, List, [], ◌∷◌, codes, length, nat_lt, Option, Some, None, option_map, option_and_then, Result, Ok, Err, IfSome, if◌then◌else◌}
use Rattle.std.specs.Result.{result_ok}
use Rattle.std.specs.List.{filter_map, cons_option, position_from, IsDistinct, AllByRecursion}
use Rattle.std.specs.Map.{keys_of, values_of}
use Rattle.std.specs.declared.cmp.Ordering.{Ordering}
use Rattle.std.specs.Cmp.Lexicographic.{pointwise, slice_cmp}
use Rattle.std.specs.Ordering.{nat_cmp}
use Rattle.std.specs.List.Sorted.{IsStrictlySortedBy}
use Rattle.std.specs.Str.{is_utf8}
use Rattle.serde_json.specs.Data.{Data, Members, no_members, member, depth}
use Rattle.serde_json.specs.Read.{read}
use Rattle.osb_pyjson.specs.PyText.{py_data}
use Rattle.osb_stages.specs.Readers.{IsObject}
use Rattle.osb_recipe.specs.Kinds.{kind_of}
use Rattle.osb_recipe.specs.declared.kinds.StageKind.{StageKind}
use Rattle.osb_base.specs.Digests.{digest_of}
use Rattle.osb_shape.specs.Values.{text_at, is_text, list_at, members_at}
use Rattle.osb_shape.specs.References.{references_at, is_tree_input, referred}
use Rattle.osb_shape.specs.Places.{place_text}
use Rattle.osb_manifest.specs.Pairs.{both}
use Rattle.osb_manifest.specs.Walks.{name_of, build_name, options_of, items_of, refusals_of}
use Rattle.osb_manifest.specs.declared.manifests.Manifest.{Manifest}
use Rattle.osb_manifest.specs.declared.manifests.Pipeline.{Pipeline}
use Rattle.osb_manifest.specs.declared.manifests.Stage.{Stage}
use Rattle.osb_manifest.specs.declared.manifests.Input.{Input}
use Rattle.osb_manifest.specs.declared.manifests.Input.TheVariants.{Tree, Files}
use Rattle.osb_manifest.specs.declared.manifests.Refusal.{Refusal}
use Rattle.osb_manifest.specs.declared.manifests.Refusal.TheVariants.{TooLong, NotJson}

-- what is made of the members of an object, by name, of each that it can be made of
abbrev pub collected : {A : Type 0} → (List ℕ → Data → Option A) → Members → List A
collected make no_members = []
collected make (member name value rest) = cons_option (make name value) (collected make rest)

-- ---- inputs

-- the place of the pipeline of a name in a list
abbrev pub place_named : List Data → List ℕ → Option ℕ
place_named pipelines name = position_from (λ pipeline. is_text name (name_of pipeline)) 0 pipelines

-- the tree of the pipeline that a reference names, with Python's text of its options
abbrev pub made_tree : List Data → Members → Option Input
made_tree pipelines no_members = None
made_tree pipelines (member reference options rest) = both Tree (option_and_then (place_named pipelines) (referred reference)) (py_data options)

-- an item by its digest, with Python's text of its options
abbrev pub made_file : List ℕ → Data → Option (List ℕ × List ℕ)
made_file reference options = both (λ digest text. (digest, text)) (digest_of reference) (py_data options)

abbrev pub made_files : Members → List (List ℕ × List ℕ)
made_files references = collected made_file references

abbrev pub made_input : List Data → Data → Option Input
made_input pipelines input = if is_tree_input input then made_tree pipelines (references_at input) else Some (Files (made_files (references_at input)))

abbrev pub named_input : List Data → List ℕ → Data → Option (List ℕ × Input)
named_input pipelines name input = option_map (λ made. (name, made)) (made_input pipelines input)

abbrev pub made_inputs : List Data → Members → List (List ℕ × Input)
made_inputs pipelines inputs = collected (named_input pipelines) inputs

-- ---- items

-- an item that the manifest holds, by its digest, with its text
abbrev pub made_held : List ℕ → Data → Option (List ℕ × List ℕ)
made_held key item = both (λ digest text. (digest, text)) (digest_of key) (text_at (codes "data") item)

abbrev pub made_inline : Members → List (List ℕ × List ℕ)
made_inline items = collected made_held items

-- those that are to be had elsewhere, by their digests
abbrev pub made_curl : Members → List (List ℕ)
made_curl items = collected (λ key item. digest_of key) items

-- ---- the manifest that a value stands for

abbrev pub stage_with : List ℕ → List (List ℕ × Input) → StageKind → List ℕ → Stage
stage_with text inputs kind options = record { kind = kind; type_text = text; options_text = options; inputs = inputs }

-- a stage of a list of pipelines: its kind, the name of its type, Python's text of its options, and its inputs
abbrev pub made_stage : List Data → Data → Option Stage
made_stage pipelines value =
    option_and_then (λ text. both (stage_with text (made_inputs pipelines (members_at (codes "inputs") value))) (result_ok (kind_of text (options_of value))) (py_data (options_of value))) (text_at (codes "type") value)

-- the place of the pipeline that a pipeline's `build` names
abbrev pub made_build : List Data → Data → Option ℕ
made_build pipelines value = option_and_then (place_named pipelines) (build_name value)

abbrev pub pipeline_with : Option ℕ → List Stage → Pipeline
pipeline_with build stages = record { build = build; stages = stages }

-- a pipeline of a list, by its name
abbrev pub made_pipeline : List Data → Data → Option (List ℕ × Pipeline)
made_pipeline pipelines value =
    option_map (λ name. (name, pipeline_with (made_build pipelines value) (filter_map (made_stage pipelines) (list_at (codes "stages") value)))) (name_of value)

abbrev pub made_manifest : Data → Manifest
made_manifest value = record {
  pipelines = filter_map (made_pipeline (list_at (codes "pipelines") value)) (list_at (codes "pipelines") value);
  items = record {
    inline = made_inline (items_of (codes "org.osbuild.inline") value);
    curl = made_curl (items_of (codes "org.osbuild.curl") value);
  };
}

-- ---- reading

-- the value that bytes spell as JSON, which is a text in UTF-8
abbrev pub json_of : List ℕ → Option Data
json_of bytes = if is_utf8 bytes then read bytes else None

abbrev pub is_too_long : List ℕ → Bool
is_too_long bytes = nat_lt 16777216 (length bytes)

-- the first refusal, or else the manifest
abbrev pub unless_refused : List Refusal → Manifest → Result Manifest Refusal
unless_refused [] manifest = Ok manifest
unless_refused (refusal ∷ refusals) manifest = Err refusal

abbrev pub value_read : Option Data → Result Manifest Refusal
value_read None = Err (NotJson (place_text []))
value_read (Some value) = unless_refused (refusals_of value) (made_manifest value)

-- the manifest that bytes are, or why they are none: the least number that applies anywhere, at its first place
abbrev pub manifest_of : List ℕ → Result Manifest Refusal
manifest_of bytes = if is_too_long bytes then Err (TooLong (place_text [])) else value_read (json_of bytes)

-- ---- well-formed manifests

abbrev pub name_cmp : List ℕ → List ℕ → Ordering
name_cmp = slice_cmp nat_cmp

-- what a stage of the pipeline at a place may have as an input: the tree of a pipeline before it, or files by rising
-- digest
abbrev pub IsInput : ℕ → Input → Type 0
IsInput i (Tree place options) = place < i
IsInput i (Files files) = IsStrictlySortedBy name_cmp (keys_of files)

-- a stage of the pipeline at a place: its options text is that of options from which its kind is read, and its inputs
-- stand by rising name
pub record IsStage (i : ℕ) (stage : Stage) : Type 0 where
  pub options : Data
  pub object : IsObject options
  pub shallow : depth options ≤ 127
  pub text : py_data options ≡ Some stage.options_text
  pub kind : kind_of stage.type_text options ≡ Ok stage.kind
  pub named : IsStrictlySortedBy name_cmp (keys_of stage.inputs)
  pub inputs : AllByRecursion (IsInput i) (values_of stage.inputs)

pub record IsPipeline (i : ℕ) (pipeline : Pipeline) : Type 0 where
  pub build : IfSome pipeline.build (λ place. place < i)
  pub stages : AllByRecursion (IsStage i) pipeline.stages

abbrev pub ArePipelines : ℕ → List Pipeline → Type 0
ArePipelines i [] = Unit {0}
ArePipelines i (pipeline ∷ pipelines) = IsPipeline i pipeline × ArePipelines (i + 1) pipelines

pub record IsWellFormed (manifest : Manifest) : Type 0 where
  pub named : IsDistinct (pointwise ◌==◌) (keys_of manifest.pipelines)
  pub pipelines : ArePipelines 0 (values_of manifest.pipelines)
  pub items : IsDistinct (pointwise ◌==◌) (keys_of manifest.items.inline)
