use Rattle.std.proofs.Common.{sym, arith}
use Rattle.osb_store.specs.Bytes.{IsBytes}
use Rattle.osb_store.proofs.ReadLaws.{read_none, read_body}
use Rattle.osb_store.proofs.reading.read_store.Goals as goal

pub returns-in-Ok : goal.returns-in-Ok
returns-in-Ok c =
    let bytes : IsBytes c.args.bytes.now = λ i. omega (arith, c.type_inv.bytes i) in
    let is = read_body c.args.bytes.now bytes (omega arith) c.in-Ok.body.now (sym c.in-Ok.ensures) c.body_of.result c.body_of.ensures in
    record { text = is.text; store = is.store; accepts = is.accepts; refused = is.refused; refuses = is.refuses }

pub returns-in-Err : goal.returns-in-Err
returns-in-Err c =
    let bytes : IsBytes c.args.bytes.now = λ i. omega (arith, c.type_inv.bytes i) in
    let is = read_none c.args.bytes.now bytes (omega arith) c.in-Err.refusal (sym c.in-Err.ensures) in
    record { text = is.text; store = is.store; accepts = is.accepts; refused = is.refused; refuses = is.refuses }
