use Rattle.std.proofs.Common.{◌≡◌, Err, is_ok, ap, true≢false, rules}
use Rattle.std.proofs.lemmas.Result.{IfErr-weaker}
use Rattle.osb_files.proofs.Copies.{copied-joined}
use Rattle.osb_files.proofs.copy.copy_to.Goals as goal

pub returns-in_ok-clone-in-Ok-clause-fault : goal.returns-in_ok-clone-in-Ok-clause-fault
returns-in_ok-clone-in-Ok-clause-fault c =
    let same : c.in_ok-clone-in-Ok.field-0 ≡ c.args.node.now = search rules in
    let path = c.in-Ok.ensures.path (λ e. true≢false (ap is_ok e)) in
    IfErr-weaker c.receive.result _ _ (λ fault h other. copied-joined c.args.to.now c.args.rest.now c.in-Ok.path c.args.node.now c.args.tree.now (Err fault) path (rw same at (h other))) c.receive.ensures.fault
