use Rattle.std.proofs.Common.{[], ◌∷◌, Ok, ap, ap₂, ◌∙◌}
use Rattle.osb_tree.specs.Paths.{joined}
use Rattle.osb_base.specs.Digests.{digest_text}
use Rattle.osb_recipe.proofs.FilesTrees.{digest_path}
use Rattle.osb_recipe.proofs.files_trees.item_path.Goals as goal

pub returns : goal.returns
returns c = record {
  path = λ n.
      c.join-2.ensures.path n
      ∙ ap₂ joined c.root.ensures.root (ap (λ name. name ∷ []) c.in_ok-name.ensures.name)
      ∙ digest_path c.of-digest.result c.as_slice.ensures.length
      ∙ ap (λ digest. Ok (digest_text digest ∷ [])) (c.of-digest.ensures.bytes ∙ c.digest.ensures);
}
