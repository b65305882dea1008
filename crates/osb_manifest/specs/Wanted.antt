-- Which items some pipelines of a manifest use.
use Rattle.std.specs.Prelude.{ℕ, ◌==◌, Bool, List, [], ◌∷◌, ◌++◌, slice_get, Option, Some, None, if◌then◌else◌}
use Rattle.std.specs.List.{flat_map, list_any}
use Rattle.std.specs.Map.{keys_of, values_of}
use Rattle.std.specs.Cmp.Lexicographic.{pointwise}
use Rattle.osb_manifest.specs.declared.manifests.Manifest.{Manifest}
use Rattle.osb_manifest.specs.declared.manifests.Pipeline.{Pipeline}
use Rattle.osb_manifest.specs.declared.manifests.Stage.{Stage}
use Rattle.osb_manifest.specs.declared.manifests.Input.{Input}
use Rattle.osb_manifest.specs.declared.manifests.Input.TheVariants.{Tree, Files}

abbrev pub input_uses : Input → List (List ℕ)
input_uses (Tree place options) = []
input_uses (Files files) = keys_of files

abbrev pub stage_uses : Stage → List (List ℕ)
stage_uses stage = flat_map input_uses (values_of stage.inputs)

abbrev pub pipeline_uses : Option Pipeline → List (List ℕ)
pipeline_uses None = []
pipeline_uses (Some pipeline) = flat_map stage_uses pipeline.stages

-- the digests of the items that the pipelines at some places use, in the order of use: by pipeline, stage, input and
-- digest
abbrev pub uses : Manifest → List ℕ → List (List ℕ)
uses manifest places = flat_map (λ place. pipeline_uses (slice_get (values_of manifest.pipelines) place)) places

abbrev pub has_digest : List (List ℕ) → List ℕ → Bool
has_digest digests digest = list_any (pointwise ◌==◌ digest) digests

-- digests, with some more that are not among them yet
abbrev pub each_once : List (List ℕ) → List (List ℕ) → List (List ℕ)
each_once digests [] = digests
each_once digests (digest ∷ others) = each_once (if has_digest digests digest then digests else digests ++ digest ∷ []) others

-- the same digests, each at its first use
abbrev pub wanted : Manifest → List ℕ → List (List ℕ)
wanted manifest places = each_once [] (uses manifest places)
