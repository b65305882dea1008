-- The kind of a well-formed stage has the stage's type.
use Rattle.std.specs.Prelude.{◌≡◌, ℕ}
use Rattle.osb_recipe.specs.Kinds.{type_text}
use Rattle.osb_recipe.proofs.KindTypes.{kind_type}
use Rattle.osb_manifest.specs.Manifests.{IsStage}
use Rattle.osb_manifest.specs.declared.manifests.Stage.{Stage}

pub type_of_stage : (i : ℕ) (stage : Stage) → IsStage i stage → type_text stage.kind ≡ stage.type_text
type_of_stage i stage is = kind_type stage.type_text is.options stage.kind is.kind
