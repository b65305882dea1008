use Rattle.std.proofs.Common.{Err, ap}
use Rattle.std.proofs.lemmas.Result.{err_from_is_err_and}
use Rattle.osb_accounts.proofs.FirstFaults.{fault_of_user, fault_of_writing, fault_of_home}
use Rattle.osb_accounts.proofs.WholeKept.{users_keep, users_made}
use Rattle.osb_accounts.proofs.users.apply.Goals as goal

pub returns-in_err-make_users-clause-effect : goal.returns-in_err-make_users-clause-effect
returns-in_err-make_users-clause-effect c =
    let p = err_from_is_err_and c.from_residual-in_err-make_users.result c.from_residual-in_err-make_users.ensures.1 in
    rw (p.1, p.2) (λ h.
    fault_of_user c.args.options.now c.args.tree _ _ (c.in_ok-files.ensures.accounts (λ e. cc)) (rw c.as_slice-users.ensures.items at (c.in_err-make_users.ensures.fault (λ e. h (ap Err e)))))

pub returns-in_err-write-clause-effect : goal.returns-in_err-write-clause-effect
returns-in_err-write-clause-effect c =
    let p = err_from_is_err_and c.from_residual-in_err-write.result c.from_residual-in_err-write.ensures.1 in
    rw (p.1, p.2) (λ h.
    fault_of_writing c.args.options.now c.args.tree _ _ _ (c.in_ok-files.ensures.accounts (λ e. cc)) (rw c.as_slice-users.ensures.items at c.in_ok-make_users.ensures.ok) (c.in_err-write.ensures.fault (λ e. h (ap Err e))))

pub returns-in_err-make_homes-clause-effect : goal.returns-in_err-make_homes-clause-effect
returns-in_err-make_homes-clause-effect c =
    let p = err_from_is_err_and c.from_residual-in_err-make_homes.result c.from_residual-in_err-make_homes.ensures.1 in
    rw (p.1, p.2) (λ h.
    fault_of_home c.args.options.now c.args.tree _ _ _ _ (c.in_ok-files.ensures.accounts (λ e. cc)) (rw c.as_slice-users.ensures.items at c.in_ok-make_users.ensures.ok) c.in_ok-write.ensures.ok
    (rw (c.as_slice-users.ensures.items, c.as_slice-kept.ensures.lines) at (c.in_err-make_homes.ensures.fault (λ e. h (ap Err e)))))

pub returns-clause-passwd_kept : goal.returns-clause-passwd_kept
returns-clause-passwd_kept c =
    users_keep.passwd c.args.options.now c.args.tree _
    (users_made c.args.options.now c.args.tree _ _ _ _ (c.in_ok-files.ensures.accounts (λ e. cc)) (rw c.as_slice-users.ensures.items at c.in_ok-make_users.ensures.ok) c.in_ok-write.ensures.ok
    (rw (c.as_slice-users.ensures.items, c.as_slice-kept.ensures.lines) at c.in_ok-make_homes.ensures.ok))

pub returns-clause-group_kept : goal.returns-clause-group_kept
returns-clause-group_kept c =
    users_keep.group c.args.options.now c.args.tree _
    (users_made c.args.options.now c.args.tree _ _ _ _ (c.in_ok-files.ensures.accounts (λ e. cc)) (rw c.as_slice-users.ensures.items at c.in_ok-make_users.ensures.ok) c.in_ok-write.ensures.ok
    (rw (c.as_slice-users.ensures.items, c.as_slice-kept.ensures.lines) at c.in_ok-make_homes.ensures.ok))

pub returns-clause-shadow_kept : goal.returns-clause-shadow_kept
returns-clause-shadow_kept c =
    users_keep.shadow c.args.options.now c.args.tree _
    (users_made c.args.options.now c.args.tree _ _ _ _ (c.in_ok-files.ensures.accounts (λ e. cc)) (rw c.as_slice-users.ensures.items at c.in_ok-make_users.ensures.ok) c.in_ok-write.ensures.ok
    (rw (c.as_slice-users.ensures.items, c.as_slice-kept.ensures.lines) at c.in_ok-make_homes.ensures.ok))
