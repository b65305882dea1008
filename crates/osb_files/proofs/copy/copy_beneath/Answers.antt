use Rattle.std.proofs.Common.{Ok, Err, sym, ◌∙◌}
use Rattle.std.proofs.lemmas.Result.{err_from_is_err_and}
use Rattle.osb_files.proofs.Walks.{is_le-itself, is_le-from_is_beneath, length-from_is_beneath, copied_left-source, copied_left-step}
use Rattle.osb_files.proofs.copy.copy_beneath.Goals as goal

pub loop-at-init : goal.loop-at-init
loop-at-init c = rw c.in_ok-at.ensures.cases (record {
  rest = copied_left-source c.args.source.now c.args.destination.now c.args.from.now c.args.tree.now;
  behind = is_le-itself c.args.source.now;
})

pub names_after-requires : goal.names_after-requires
names_after-requires c =
    let step = rw c.in-Some.is at c.in_ok-next.ensures in
    length-from_is_beneath c.args.source.now c.in-Some.next step.beneath

pub returns-in_err-copy_to-clause-fault : goal.returns-in_err-copy_to-clause-fault
returns-in_err-copy_to-clause-fault c =
    let step = rw c.in-Some.is at c.in_ok-next.ensures in
    let fault = rw c.names_after.ensures at c.in_err-copy_to.ensures.fault in
    let p = err_from_is_err_and c.from_residual-in_err-copy_to.result c.from_residual-in_err-copy_to.ensures.1 in
    rw (p.1, p.2) (λ h. sym c.loop-at.invariant.rest ∙ copied_left-step c.args.source.now c.args.destination.now c.loop-at.at c.in-Some.next c.in-Some.node.now c.args.from.now c.loop-at.tree (Err _) step (fault h))

pub loop-at-preserved : goal.loop-at-preserved
loop-at-preserved c =
    let step = rw c.in-Some.is at c.in_ok-next.ensures in
    let put = rw c.names_after.ensures at c.in_ok-copy_to.ensures.ok in
    record {
      rest = sym (copied_left-step c.args.source.now c.args.destination.now c.loop-at.at c.in-Some.next c.in-Some.node.now c.args.from.now c.loop-at.tree (Ok c.copy_to.new.tree) step put) ∙ c.loop-at.invariant.rest;
      behind = is_le-from_is_beneath c.args.source.now c.in-Some.next step.beneath;
    }
