use Rattle.std.proofs.Common.{sym, ap, ◌∙◌}
use Rattle.osb_tree.proofs.NextPaths.{next_after-from_range, first_path}
use Rattle.osb_tree.proofs.trees.Tree.following.Goals as goal

pub returns-clause-next : goal.returns-clause-next
returns-clause-next c =
    sym (next_after-from_range _ _ _ _ c.self.view_is (c.range.ensures.between tt) ∙ ap first_path c.in_ok-next.ensures.steps)

pub returns-in_err-next-clause-next : goal.returns-in_err-next-clause-next
returns-in_err-next-clause-next c =
    rw c.from_residual.ensures (sym (next_after-from_range _ _ _ _ c.self.view_is (c.range.ensures.between tt) ∙ ap first_path c.in_err-next.ensures.steps.0))
