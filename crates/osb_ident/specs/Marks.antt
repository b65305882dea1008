-- Which stages' trees are kept, and the text of `inspect`.
use Rattle.std.specs.Prelude.{ℕ, ◌+◌, ◌==◌, Bool, true, false, ◌&&◌, ◌||◌, List, [], ◌∷◌, ◌++◌, codes, map, flat_map, zip, decimal}
use Rattle.std.specs.List.{list_any}
use Rattle.std.specs.Cmp.Lexicographic.{pointwise}
use Rattle.std.specs.Map.{keys_of}
use Rattle.hex.specs.Hex.{encode_lower}
use Rattle.osb_manifest.specs.declared.manifests.Manifest.{Manifest}
use Rattle.osb_ident.specs.Idents.{Id}
use Rattle.osb_ident.specs.declared.checkpoints.Checkpoint.{Checkpoint}
use Rattle.osb_ident.specs.declared.checkpoints.Checkpoint.TheVariants.{All, Word}

-- a checkpoint names every pipeline, or one by its name
abbrev pub names_pipeline : List ℕ → Checkpoint → Bool
names_pipeline name All = true
names_pipeline name (Word word) = pointwise ◌==◌ word name

-- or a stage by its identifier
abbrev pub names_stage : Id → Checkpoint → Bool
names_stage id All = false
names_stage id (Word word) = pointwise ◌==◌ word (encode_lower id)

-- a stage is marked by its identifier, and the last one of a pipeline by the pipeline's name too
unfoldable pub is_marked : List Checkpoint → List ℕ → Bool → Id → Bool
is_marked checkpoints name is_last id = list_any (names_stage id) checkpoints || (is_last && list_any (names_pipeline name) checkpoints)

unfoldable pub marks_of : List Checkpoint → List ℕ → List Id → List Bool
marks_of checkpoints name [] = []
marks_of checkpoints name (id ∷ []) = is_marked checkpoints name true id ∷ []
marks_of checkpoints name (id ∷ next ∷ ids) = is_marked checkpoints name false id ∷ marks_of checkpoints name (next ∷ ids)

-- the marks of all stages, by pipeline and by stage
unfoldable pub manifest_marks : Manifest → List (List Id) → List Checkpoint → List (List Bool)
manifest_marks manifest ids checkpoints = map (λ p. marks_of checkpoints p.0 p.1) (zip (keys_of manifest.pipelines) ids)

-- ---- inspect

-- the line of a stage: its pipeline's name, its place from 0, and its identifier
unfoldable pub stage_line : List ℕ → ℕ → Id → List ℕ
stage_line name place id = name ++ (codes " " ++ (decimal place ++ (codes " " ++ (encode_lower id ++ codes "\n"))))

-- the lines of stages, whose places count from a first one
unfoldable pub stage_lines : List ℕ → ℕ → List Id → List ℕ
stage_lines name place [] = []
stage_lines name place (id ∷ ids) = stage_line name place id ++ stage_lines name (place + 1) ids

-- a pipeline without stages has one line
unfoldable pub pipeline_lines : List ℕ → List Id → List ℕ
pipeline_lines name [] = name ++ codes " - null\n"
pipeline_lines name (id ∷ ids) = stage_lines name 0 (id ∷ ids)

unfoldable pub inspect_text : Manifest → List (List Id) → List ℕ
inspect_text manifest ids = flat_map (λ p. pipeline_lines p.0 p.1) (zip (keys_of manifest.pipelines) ids)
