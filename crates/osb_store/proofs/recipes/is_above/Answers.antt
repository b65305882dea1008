use Rattle.std.proofs.Common.{◌≡◌, ℕ, Some, refl, ap, ◌∙◌}
use Rattle.std.specs.Ordering.{nat_cmp, is_lt, is_some_and}
use Rattle.std.specs.Cmp.Lexicographic.{slice_cmp, slice_partial_cmp, lists_agrees}
use Rattle.osb_store.proofs.recipes.is_above.Goals as goal

pub returns : goal.returns
returns c =
    let ordered : slice_partial_cmp (λ (x y : ℕ). Some (nat_cmp x y)) c.args.last.now c.args.text.now ≡ Some (slice_cmp nat_cmp c.args.last.now c.args.text.now) = lists_agrees (λ x y. refl) c.args.last.now c.args.text.now in
    c.lt.ensures ∙ ap (is_some_and is_lt) ordered
