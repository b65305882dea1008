use Rattle.std.proofs.Common.{◌∙◌}
use Rattle.std.specs.List.{each_same}
use Rattle.osb_tree.proofs.PathLaws.{joined-short}
use Rattle.osb_tree.proofs.paths.Path.join.Goals as goal

pub invariant_of-result : goal.invariant_of-result
invariant_of-result c =
    rw (← c.deref.ensures.value) (record { named = c.is_short.ensures.named c.if-not-is_short.false; short = c.is_short.ensures.short.0 c.if-not-is_short.false })

pub returns : goal.returns
returns c =
    let own = each_same _ _ c.in_ok-names.ensures.cases.0 ∙ c.self.view_is in
    let more = each_same _ _ c.in_ok-extend_from_slice.ensures.items.2 in
    let all = c.in_ok-extend_from_slice.ensures.items.1 in
    let short = c.is_short.ensures.short.0 c.if-not-is_short.false in
    record { path = λ _. joined-short c.args.self.now c.args.rest.now _ (rw (own, more) at all) (rw c.deref.ensures.value at short) }
