-- Which pipelines a list of exports needs.
use Rattle.std.specs.Prelude.{◌≡◌, ℕ, ◌+◌, ◌==◌, Bool, IsTrue, not, ◌||◌, List, [], ◌∷◌, ◌++◌, map, find, slice_get, Option, Some, None, Result, Ok, Err, if◌then◌else◌}
use Rattle.std.specs.List.{flat_map, list_any}
use Rattle.std.specs.Map.{keys_of}
use Rattle.std.specs.Cmp.Lexicographic.{pointwise}
use Rattle.osb_manifest.specs.declared.manifests.Manifest.{Manifest}
use Rattle.osb_manifest.specs.declared.manifests.Pipeline.{Pipeline}
use Rattle.osb_manifest.specs.declared.manifests.Input.{Input}
use Rattle.osb_manifest.specs.declared.manifests.Input.TheVariants.{Tree, Files}
use Rattle.osb_manifest.specs.declared.exports.NoSuchExport.{NoSuchExport}
use Rattle.osb_manifest.specs.declared.exports.NoSuchExport.TheVariants.{Lacking}

abbrev pub input_needs : Input → List ℕ
input_needs (Tree place options) = place ∷ []
input_needs (Files files) = []

abbrev pub inputs_need : List (List ℕ × Input) → List ℕ
inputs_need inputs = flat_map (λ input. input_needs input.1) inputs

abbrev pub build_needs : Option ℕ → List ℕ
build_needs None = []
build_needs (Some place) = place ∷ []

-- the places of the pipelines that a pipeline is built with: its build pipeline, and those of its stages' inputs
abbrev pub needs_of : Pipeline → List ℕ
needs_of pipeline = build_needs pipeline.build ++ flat_map (λ stage. inputs_need stage.inputs) pipeline.stages

abbrev pub is_among : List (List ℕ) → List ℕ → Bool
is_among names name = list_any (pointwise ◌==◌ name) names

abbrev pub has_place : List ℕ → ℕ → Bool
has_place places place = list_any (λ held. held == place) places

-- one of some pipelines is built with what stands at a place
abbrev pub is_needed_by : List (ℕ × Pipeline) → ℕ → Bool
is_needed_by pipelines place = list_any (λ p. has_place (needs_of p.1) place) pipelines

-- the needed ones of a pipeline at a place and later ones: it is needed where it is an export, or a needed later one is
-- built with it
abbrev pub needed_with : List (List ℕ) → ℕ → List ℕ × Pipeline → List (ℕ × Pipeline) → List (ℕ × Pipeline)
needed_with exports i pipeline later = if is_among exports pipeline.0 || is_needed_by later i then (i, pipeline.1) ∷ later else later

-- the needed ones of a list of pipelines, whose places count from a first one
abbrev pub needed_from : List (List ℕ) → ℕ → List (List ℕ × Pipeline) → List (ℕ × Pipeline)
needed_from exports i [] = []
needed_from exports i (pipeline ∷ pipelines) = needed_with exports i pipeline (needed_from exports (i + 1) pipelines)

abbrev pub places_of : List (ℕ × Pipeline) → List ℕ
places_of pipelines = map (λ p. p.0) pipelines

-- the places of what some exports need, rising
abbrev pub needed_places : Manifest → List (List ℕ) → List ℕ
needed_places manifest exports = places_of (needed_from exports 0 manifest.pipelines)

abbrev pub unless_lacking : Option (List ℕ) → List ℕ → Result (List ℕ) NoSuchExport
unless_lacking None places = Ok places
unless_lacking (Some name) places = Err (Lacking name)

-- the same, or the first export that the manifest lacks
abbrev pub needed : Manifest → List (List ℕ) → Result (List ℕ) NoSuchExport
needed manifest exports = unless_lacking (find (λ name. not (is_among (keys_of manifest.pipelines) name)) exports) (needed_places manifest exports)

-- ---- sets of places, as tests

-- the place of each export passes
abbrev pub PassesExports : Manifest → List (List ℕ) → (ℕ → Bool) → Type 0
PassesExports manifest exports test = (name : List ℕ) (place : ℕ) (pipeline : Pipeline) → slice_get manifest.pipelines place ≡ Some (name, pipeline) → IsTrue (is_among exports name) → IsTrue (test place)

-- where a pipeline's place passes, so do those that it is built with
abbrev pub IsClosed : Manifest → (ℕ → Bool) → Type 0
IsClosed manifest test = (name : List ℕ) (place need : ℕ) (pipeline : Pipeline) → slice_get manifest.pipelines place ≡ Some (name, pipeline) → IsTrue (test place) → IsTrue (has_place (needs_of pipeline) need) → IsTrue (test need)
