use Rattle.std.proofs.Common.{sym, refl, ◌∙◌}
use Rattle.std.proofs.lemmas.Result.{err_from_is_err_and, on_ok_weaker, IfErr-weaker}
use Rattle.osb_stages.proofs.Ancestors.{parent_rule-in_tree, parent_rule-with_ancestors, with_ancestors-in_tree, with_ancestors-made, with_ancestors-above}
use Rattle.osb_stages.proofs.rules.+make_ancestors.Goals as goal

pub returns-in_err-make_ancestors-in-None-clause-fault :
    goal.returns-in_err-make_ancestors-in-None-clause-fault
returns-in_err-make_ancestors-in-None-clause-fault t c =
    let p = err_from_is_err_and c.from_residual-in_err-make_ancestors-in-None.result c.from_residual-in_err-make_ancestors-in-None.ensures.1 in
    rw (p.1, p.2) (λ h. with_ancestors-above _ _ _ _ (sym c.in-Some.is ∙ c.in_ok-parent.ensures.parent) (c.in_err-make_ancestors-in-None.ensures.fault h))

pub returns-in-Some-get-clause-ok : goal.returns-in-Some-get-clause-ok
returns-in-Some-get-clause-ok t c =
    with_ancestors-in_tree _ _ _ _ c.in-Some-get.ensures.tree (sym c.in-Some.is ∙ c.in_ok-parent.ensures.parent) c.in-Some-get.ensures.node ∙ rw (← c.if-is_directory.ensures.directory) refl

pub returns-in-Some-get-clause-above : goal.returns-in-Some-get-clause-above
returns-in-Some-get-clause-above t c =
    parent_rule-in_tree _ _ _ _ c.in-Some-get.ensures.tree (sym c.in-Some.is ∙ c.in_ok-parent.ensures.parent) c.in-Some-get.ensures.node ∙ rw (← c.if-is_directory.ensures.directory) refl

pub returns-in-Some-2-clause-fault : goal.returns-in-Some-2-clause-fault
returns-in-Some-2-clause-fault t c =
    λ h. with_ancestors-in_tree _ _ _ _ c.in-Some-get.ensures.tree (sym c.in-Some.is ∙ c.in_ok-parent.ensures.parent) c.in-Some-get.ensures.node ∙ rw (← c.if-is_directory.ensures.directory) refl

pub returns-in_ok-make_ancestors-in-None-clause-ok :
    goal.returns-in_ok-make_ancestors-in-None-clause-ok
returns-in_ok-make_ancestors-in-None-clause-ok t c =
    let placed = rw (c.directory.ensures.directory, c.new.ensures.bits) at c.place.ensures.ok in
    on_ok_weaker c.place.result (λ e. with_ancestors-made _ _ _ _ _ (sym c.in-Some.is ∙ c.in_ok-parent.ensures.parent) c.in-None.ensures.node c.in_ok-make_ancestors-in-None.ensures.ok e) placed

pub returns-in_ok-make_ancestors-in-None-clause-above :
    goal.returns-in_ok-make_ancestors-in-None-clause-above
returns-in_ok-make_ancestors-in-None-clause-above t c =
    let placed = rw (c.directory.ensures.directory, c.new.ensures.bits) at c.place.ensures.ok in
    on_ok_weaker c.place.result (λ e. parent_rule-with_ancestors _ _ _ (with_ancestors-made _ _ _ _ _ (sym c.in-Some.is ∙ c.in_ok-parent.ensures.parent) c.in-None.ensures.node c.in_ok-make_ancestors-in-None.ensures.ok e)) placed

pub returns-in_ok-make_ancestors-in-None-clause-fault :
    goal.returns-in_ok-make_ancestors-in-None-clause-fault
returns-in_ok-make_ancestors-in-None-clause-fault t c =
    let placed = rw (c.directory.ensures.directory, c.new.ensures.bits) at c.place.ensures.fault in
    IfErr-weaker c.place.result _ _ (λ fault h other. with_ancestors-made _ _ _ _ _ (sym c.in-Some.is ∙ c.in_ok-parent.ensures.parent) c.in-None.ensures.node c.in_ok-make_ancestors-in-None.ensures.ok (h other)) placed
