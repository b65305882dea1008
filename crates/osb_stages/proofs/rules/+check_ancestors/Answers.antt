use Rattle.std.proofs.Common.{sym, refl, ◌∙◌}
use Rattle.std.proofs.lemmas.Result.{err_from_is_err_and}
use Rattle.osb_stages.proofs.Ancestors.{parent_rule-above, parent_rule-parent, parent_rule-in_tree}
use Rattle.osb_stages.proofs.rules.+check_ancestors.Goals as goal

pub returns-in_err-check_ancestors-in-None-clause-fault :
    goal.returns-in_err-check_ancestors-in-None-clause-fault
returns-in_err-check_ancestors-in-None-clause-fault t c =
    let p = err_from_is_err_and c.from_residual-in_err-check_ancestors-in-None.result c.from_residual-in_err-check_ancestors-in-None.ensures.1 in
    rw (p.1, p.2) (λ h. parent_rule-above _ _ _ _ (sym c.in-Some.is ∙ c.in_ok-parent.ensures.parent) (c.in_err-check_ancestors-in-None.ensures.fault h))

pub returns-in_ok-check_ancestors-in-None-clause-fault :
    goal.returns-in_ok-check_ancestors-in-None-clause-fault
returns-in_ok-check_ancestors-in-None-clause-fault t c =
    λ h. parent_rule-parent _ _ _ _ (sym c.in-Some.is ∙ c.in_ok-parent.ensures.parent) c.in_ok-check_ancestors-in-None.ensures.ok c.in-None.ensures.node

pub returns-in-Some-get-clause-ok : goal.returns-in-Some-get-clause-ok
returns-in-Some-get-clause-ok t c =
    parent_rule-in_tree _ _ _ _ c.in-Some-get.ensures.tree (sym c.in-Some.is ∙ c.in_ok-parent.ensures.parent) c.in-Some-get.ensures.node ∙ rw (← c.if-is_directory.ensures.directory) refl

pub returns-in-Some-2-clause-fault : goal.returns-in-Some-2-clause-fault
returns-in-Some-2-clause-fault t c =
    λ h. parent_rule-in_tree _ _ _ _ c.in-Some-get.ensures.tree (sym c.in-Some.is ∙ c.in_ok-parent.ensures.parent) c.in-Some-get.ensures.node ∙ rw (← c.if-is_directory.ensures.directory) refl
