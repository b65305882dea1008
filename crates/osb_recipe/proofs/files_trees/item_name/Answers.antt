use Rattle.std.proofs.Common.{◌≡◌, ℕ, List, sym, ◌∙◌, subst}
use Rattle.std.specs.Prelude.{IsTrue}
use Rattle.osb_tree.specs.Paths.{is_name}
use Rattle.osb_base.specs.Digests.{digest_text}
use Rattle.osb_recipe.proofs.FilesTrees.{digest_name}
use Rattle.osb_recipe.proofs.files_trees.item_name.Goals as goal

pub new-requires : goal.new-requires
new-requires c =
    let Named : List ℕ → Type 0 = λ text. IsTrue (is_name text) in
    let Said : List ℕ → Type 0 = λ digest. c.in_ok-text.text ≡ digest_text digest in
    subst Named (sym (c.as_str.ensures.content ∙ subst Said (sym c.requires) c.in_ok-text.ensures.text)) (digest_name c.args.bytes.now c.type_inv.bytes)
