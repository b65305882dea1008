use Rattle.osb_stages.proofs.Placing.{placed-fault}
use Rattle.osb_stages.proofs.rules.place.Goals as goal

pub returns-in_default-fault : goal.returns-in_default-fault
returns-in_default-fault c =
    let fault = rw c.in_ok-clone.ensures.cases at (c.in-Err.ensures.fault c.in_default-fault.not-NoMemory) in
    record { ok = tt; fault = λ _. placed-fault c.args.tree.now c.args.path.now c.args.node _ c.requires.above c.requires.fits fault }
