use Rattle.std.proofs.Common.{Err, sym, ap, ◌∙◌}
use Rattle.std.proofs.lemmas.Result.{err_from_is_err_and}
use Rattle.osb_files.specs.Chown.{with_owners}
use Rattle.osb_files.proofs.Accounts.{IsAlike-next, with_owners-alike, next-fault, next-ok}
use Rattle.osb_files.proofs.chown.apply.Goals as goal

pub returns-in_err-change_owners : goal.returns-in_err-change_owners
returns-in_err-change_owners c =
    let p = err_from_is_err_and c.from_residual.result c.from_residual.ensures.1 in
    record {
      effect = rw (p.1, p.2) (λ h.
          let same = with_owners-alike c.loop-item.tree c.args.tree c.item-item.result c.loop-item.tree c.loop-item.invariant.0 in
          let fault = sym same ∙ c.in_err-change_owners.ensures.fault (λ e. h (ap Err e)) in
          sym (next-fault (with_owners c.args.tree) c.as_slice-item-items.result.now c.loop-item.item-index c.item-item.result c.loop-item.tree _ c.loop-item-test.true c.item-item.is fault) ∙ c.loop-item.invariant.1);
    }

pub loop-item-preserved : goal.loop-item-preserved
loop-item-preserved c =
    let same = with_owners-alike c.loop-item.tree c.args.tree c.item-item.result c.loop-item.tree c.loop-item.invariant.0 in
    let made = sym same ∙ c.in_ok-change_owners.ensures.ok in (
      IsAlike-next c.args.tree c.args.tree c.item-item.result c.loop-item.tree c.change_owners.new.tree c.loop-item.invariant.0 made,
      next-ok (with_owners c.args.tree) c.as_slice-item-items.result.now c.loop-item.item-index c.item-item.result c.loop-item.tree _ c.loop-item-test.true c.item-item.is made ∙ c.loop-item.invariant.1,
    )
