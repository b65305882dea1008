use Rattle.std.proofs.Common.{◌≡◌, ℕ, List, false, refl, sym}
use Rattle.std.specs.Prelude.{codes}
use Rattle.std.specs.Cmp.Lexicographic.{same_text}
use Rattle.std.proofs.lemmas.Bool.{false_from_ne_true}
use Rattle.osb_recipe.specs.Kinds.{is_type}
use Rattle.osb_recipe.proofs.kinds.StageKind.read.Goals as goal

other_type : (name stage : List ℕ) → (stage ≡ name → ⊥) → is_type name stage ≡ false
other_type name stage apart = false_from_ne_true (is_type name stage) (λ same. apart (same_text stage name (sym same)))

pub returns-in_default : goal.returns-in_default
returns-in_default c =
    let n1 = other_type (codes "org.osbuild.noop") c.args.stage.now c.in_default.not-text in
    let n2 = other_type (codes "org.osbuild.error") c.args.stage.now c.in_default.not-text-2 in
    let n3 = other_type (codes "org.osbuild.mkdir") c.args.stage.now c.in_default.not-text-3 in
    let n4 = other_type (codes "org.osbuild.copy") c.args.stage.now c.in_default.not-text-4 in
    let n5 = other_type (codes "org.osbuild.symlink") c.args.stage.now c.in_default.not-text-5 in
    let n6 = other_type (codes "org.osbuild.chmod") c.args.stage.now c.in_default.not-text-6 in
    let n7 = other_type (codes "org.osbuild.chown") c.args.stage.now c.in_default.not-text-7 in
    let n8 = other_type (codes "org.osbuild.groups") c.args.stage.now c.in_default.not-text-8 in
    let n9 = other_type (codes "org.osbuild.users") c.args.stage.now c.in_default.not-text-9 in
    let n10 = other_type (codes "org.osbuild.hostname") c.args.stage.now c.in_default.not-text-10 in
    let n11 = other_type (codes "org.osbuild.locale") c.args.stage.now c.in_default.not-text-11 in
    let n12 = other_type (codes "org.osbuild.timezone") c.args.stage.now c.in_default.not-text-12 in
    let n13 = other_type (codes "org.osbuild.keymap") c.args.stage.now c.in_default.not-text-13 in
    let n14 = other_type (codes "org.osbuild.machine-id") c.args.stage.now c.in_default.not-text-14 in
    record { kind = λ h. rw (n1, n2, n3, n4, n5, n6, n7, n8, n9, n10, n11, n12, n13, n14) refl }
