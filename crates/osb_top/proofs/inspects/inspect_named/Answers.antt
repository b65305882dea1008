use Rattle.std.proofs.Common.{Err, ap}
use Rattle.osb_top.proofs.Givens.{given_unread}
use Rattle.osb_top.proofs.Inspecting.{inspection_read}
use Rattle.osb_top.proofs.inspects.inspect_named.Goals as goal

pub returns-in-Ok : goal.returns-in-Ok
returns-in-Ok g c = inspection_read _ c.args.name.now c.in-Ok.found c.inspect_due.result c.in-Ok.ensures.found c.inspect_due.ensures.due

pub returns-in-Err-Failed : goal.returns-in-Err-Failed
returns-in-Err-Failed g c = given_unread _ _ _ _ (λ _. c.in-Err-Failed.ensures.cause.failed (ap Err c.in-Err-Failed.field-0-is))

pub returns-in-Err-NoMemory : goal.returns-in-Err-NoMemory
returns-in-Err-NoMemory g c = given_unread _ _ _ _ (λ _. tt)
