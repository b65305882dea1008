use Rattle.std.proofs.Common.{◌≡◌, ℕ, true, false, get_or, refl, sym, ap, ◌∙◌}
use Rattle.sha2.specs.Sha256.{sha256}
use Rattle.osb_store.specs.Recipes.{is_above, blob_at}
use Rattle.osb_store.proofs.RecipeRises.{rise_on, rise_no_more}
use Rattle.osb_store.proofs.recipes.digests_rise_from.Goals as goal

pub returns-then-not-is_above : goal.returns-then-not-is_above
returns-then-not-is_above c =
    let digest = λ (number : ℕ). sha256 (blob_at c.args.blobs.now number) in
    let number = get_or c.args.numbers.now c.loop-number.number-index 0 in
    let level : is_above c.loop-number.last (digest number) ≡ false = ap (is_above c.loop-number.last) (sym c.digest_at-digest.ensures) ∙ sym c.is_above.ensures ∙ c.if-not-is_above.true in
    sym (rise_no_more digest c.loop-number.last c.args.numbers.now c.loop-number.number-index number 0 c.loop-number-test.true refl level) ∙ c.loop-number.invariant

pub loop-number-preserved : goal.loop-number-preserved
loop-number-preserved c =
    let digest = λ (number : ℕ). sha256 (blob_at c.args.blobs.now number) in
    let number = get_or c.args.numbers.now c.loop-number.number-index 0 in
    let above : is_above c.loop-number.last (digest number) ≡ true = ap (is_above c.loop-number.last) (sym c.digest_at-digest.ensures) ∙ sym c.is_above.ensures ∙ c.if-not-is_above.false in
    rw c.digest_at-digest.ensures (rise_on digest c.loop-number.last c.args.numbers.now c.loop-number.number-index number 0 c.loop-number-test.true refl above ∙ c.loop-number.invariant)
