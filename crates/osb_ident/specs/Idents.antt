-- Identifiers of stages: each is the SHA-256 (FIPS 180-4) of one text, in which stands all that the stage's tree comes
-- from.
use Rattle.std.specs.Prelude.{ℕ, List, [], ◌∷◌, ◌++◌, codes, map, Option, Some, None, option_and_then}
use Rattle.std.specs.List.{slice_get, last_or}
use Rattle.std.specs.Map.{values_of}
use Rattle.sha2.specs.Sha256.{sha256}
use Rattle.hex.specs.Hex.{encode_lower}
use Rattle.osb_base.specs.Digests.{digest_text}
use Rattle.osb_pyjson.specs.PyText.{py_quoted}
use Rattle.osb_manifest.specs.declared.manifests.Manifest.{Manifest}
use Rattle.osb_manifest.specs.declared.manifests.Pipeline.{Pipeline}
use Rattle.osb_manifest.specs.declared.manifests.Stage.{Stage}
use Rattle.osb_manifest.specs.declared.manifests.Input.{Input}
use Rattle.osb_manifest.specs.declared.manifests.Input.TheVariants.{Tree, Files}

-- a digest, by its bytes
abbrev pub Id : Type 0
Id = List ℕ

-- ---- texts, as Python's `json.dumps` with sorted keys gives them

-- an identifier is a text of 64 hex digits; where there is none stands `null`
unfoldable pub id_text : Option Id → List ℕ
id_text None = codes "null"
id_text (Some id) = py_quoted (encode_lower id)

-- a member of an object, with the text of its value
unfoldable pub member_text : List ℕ × List ℕ → List ℕ
member_text entry = py_quoted entry.0 ++ (codes ": " ++ entry.1)

-- members by keys that rise
unfoldable pub members_text : List (List ℕ × List ℕ) → List ℕ
members_text [] = []
members_text (entry ∷ []) = member_text entry
members_text (entry ∷ next ∷ entries) = member_text entry ++ (codes ", " ++ members_text (next ∷ entries))

unfoldable pub object_text : List (List ℕ × List ℕ) → List ℕ
object_text entries = codes "{" ++ (members_text entries ++ codes "}")

-- ---- inputs

-- a pipeline's identifier is that of its last stage; a pipeline without stages has none
abbrev pub pipeline_id : List (List Id) → ℕ → Option Id
pipeline_id ids place = option_and_then (last_or None) (slice_get ids place)

-- how a pipeline is referred to: by its identifier, or by the text `null`
abbrev pub reference : Option Id → List ℕ
reference None = codes "null"
reference (Some id) = encode_lower id

-- items, each by the text of its digest
abbrev pub file_entries : List (Id × List ℕ) → List (List ℕ × List ℕ)
file_entries files = map (λ file. (digest_text file.0, file.1)) files

-- the hashed text of an input: its type, its origin, what it refers to with the options of each, and an empty object
unfoldable pub input_parts : List ℕ → List ℕ → List (List ℕ × List ℕ) → List ℕ
input_parts type origin references = py_quoted type ++ (py_quoted origin ++ (object_text references ++ codes "{}"))

unfoldable pub input_text : List (List Id) → Input → List ℕ
input_text ids (Tree place options) =
    input_parts (codes "org.osbuild.tree") (codes "org.osbuild.pipeline") ((reference (pipeline_id ids place), options) ∷ [])
input_text ids (Files files) = input_parts (codes "org.osbuild.files") (codes "org.osbuild.source") (file_entries files)

-- inputs, each by its name, with its identifier's text
abbrev pub input_entries : List (List Id) → List (List ℕ × Input) → List (List ℕ × List ℕ)
input_entries ids inputs = map (λ input. (input.0, id_text (Some (sha256 (input_text ids input.1))))) inputs

-- what stands of a stage's inputs in its text: nothing where it has none
unfoldable pub inputs_text : List (List Id) → List (List ℕ × Input) → List ℕ
inputs_text ids [] = []
inputs_text ids (input ∷ inputs) = object_text (input_entries ids (input ∷ inputs))

-- ---- stages

-- the hashed text of a stage: its type, the build pipeline, the stage before, its options, and its inputs
unfoldable pub stage_text : List (List Id) → Option Id → Option Id → Stage → List ℕ
stage_text ids build before stage =
    py_quoted stage.type_text ++ (id_text build ++ (id_text before ++ (stage.options_text ++ inputs_text ids stage.inputs)))

-- the identifiers of a pipeline's stages, one after another
unfoldable pub ids_from : List (List Id) → Option Id → Option Id → List Stage → List Id
ids_from ids build before [] = []
ids_from ids build before (stage ∷ stages) =
    sha256 (stage_text ids build before stage) ∷ ids_from ids build (Some (sha256 (stage_text ids build before stage))) stages

-- the identifiers of a pipeline, over those of the pipelines before it
abbrev pub pipeline_ids : List (List Id) → Pipeline → List Id
pipeline_ids ids pipeline = ids_from ids (option_and_then (pipeline_id ids) pipeline.build) None pipeline.stages

unfoldable pub ids_after : List (List Id) → List Pipeline → List (List Id)
ids_after ids [] = ids
ids_after ids (pipeline ∷ pipelines) = ids_after (ids ++ pipeline_ids ids pipeline ∷ []) pipelines

-- the identifiers of a manifest's stages, by pipeline and by stage
unfoldable pub manifest_ids : Manifest → List (List Id)
manifest_ids manifest = ids_after [] (values_of manifest.pipelines)
