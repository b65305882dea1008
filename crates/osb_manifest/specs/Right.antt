-- What holds of the pipelines and the stages of a value in which nothing is wrong.
use Rattle.std.specs.Prelude.{◌≡◌, ℕ, ◌+◌, Bool, false, not, ◌&&◌, ◌||◌, IsTrue, IsSome, List, [], ◌∷◌, codes, Some, is_some, length, map}
use Rattle.std.specs.List.{AllByRecursion}
use Rattle.std.specs.Map.{keys_of}
use Rattle.serde_json.specs.Data.{Data, Members, no_members, member}
use Rattle.osb_base.specs.Digests.{digest_of}
use Rattle.osb_shape.specs.Forms.{is_pipeline_name}
use Rattle.osb_shape.specs.Values.{there_is, text_at, list_at, members_at, is_single}
use Rattle.osb_shape.specs.Numbers.{bad_numbers, bad_members}
use Rattle.osb_shape.specs.References.{references_at, is_tree_input, is_files_input}
use Rattle.osb_manifest.specs.Walks.{name_of, options_of, items_of, stage_kind, is_unknown, faults_of, is_lost, is_build_lost, are_digests}
use Rattle.osb_manifest.specs.declared.manifests.Manifest.{Manifest}

-- a stage has a type that is known, and takes its options
pub record IsRightStage (stage : Data) : Type 0 where
  pub typed : IsSome (text_at (codes "type") stage)
  pub whole : bad_numbers (options_of stage) ≡ []
  pub known : is_unknown (stage_kind stage) ≡ false
  pub taken : faults_of (stage_kind stage) ≡ []

-- a pipeline has a name, and stages that are right
pub record IsRightPipeline (pipeline : Data) : Type 0 where
  pub named : IsTrue (there_is is_pipeline_name (name_of pipeline))
  pub stages : AllByRecursion IsRightStage (list_at (codes "stages") pipeline)

-- each member of an object is right
abbrev pub AllMembers : (Data → Type 0) → Members → Type 0
AllMembers IsRight no_members = Unit {0}
AllMembers IsRight (member name value rest) = IsRight value × AllMembers IsRight rest

-- an input of the pipeline at a place is a tree of a pipeline before it, or files that are referred to by their digests,
-- with options whose numbers can be kept
pub record IsRightInput (whole : Data) (i : ℕ) (input : Data) : Type 0 where
  pub known : IsTrue (is_tree_input input || is_files_input input)
  pub single : IsTrue (is_tree_input input) → IsTrue (is_single (references_at input))
  pub found : is_lost whole i input ≡ false
  pub digests : (is_files_input input && not (are_digests (references_at input))) ≡ false
  pub kept : bad_members (references_at input) ≡ []

abbrev pub HasRightInputs : Data → ℕ → Data → Type 0
HasRightInputs whole i stage = AllMembers (IsRightInput whole i) (members_at (codes "inputs") stage)

-- the pipeline at a place is built with none but pipelines before it: its `build`, and the inputs of its stages
pub record IsBuiltBefore (whole : Data) (i : ℕ) (pipeline : Data) : Type 0 where
  pub build : is_build_lost whole i pipeline ≡ false
  pub inputs : AllByRecursion (HasRightInputs whole i) (list_at (codes "stages") pipeline)

-- each of the pipelines whose places count from a first one
abbrev pub AreBuiltBefore : Data → ℕ → List Data → Type 0
AreBuiltBefore whole i [] = Unit {0}
AreBuiltBefore whole i (pipeline ∷ pipelines) = IsBuiltBefore whole i pipeline × AreBuiltBefore whole (i + 1) pipelines

-- how many stages each pipeline of a value has
abbrev pub stage_counts : List Data → List ℕ
stage_counts pipelines = map (λ p. length (list_at (codes "stages") p)) pipelines

-- which of a value's pipelines have a `build`
abbrev pub have_builds : List Data → List Bool
have_builds pipelines = map (λ p. is_some (text_at (codes "build") p)) pipelines

abbrev pub names_of : Members → List (List ℕ)
names_of no_members = []
names_of (member name value rest) = name ∷ names_of rest

-- a manifest has each pipeline of a value, with each of its stages, and with a build pipeline where it has a `build`; and
-- it has each item of the sources, by its digest
pub record IsKept (whole : Data) (manifest : Manifest) : Type 0 where
  pub stages : map (λ p. length p.1.stages) manifest.pipelines ≡ stage_counts (list_at (codes "pipelines") whole)
  pub builds : map (λ p. is_some p.1.build) manifest.pipelines ≡ have_builds (list_at (codes "pipelines") whole)
  pub inline : map Some (keys_of manifest.items.inline) ≡ map digest_of (names_of (items_of (codes "org.osbuild.inline") whole))
  pub curl : map Some manifest.items.curl ≡ map digest_of (names_of (items_of (codes "org.osbuild.curl") whole))
