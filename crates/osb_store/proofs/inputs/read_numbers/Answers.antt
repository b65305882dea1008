use Rattle.std.proofs.Common.{ℕ, List, Vec, Global, Bor}
use Rattle.std.proofs.lemmas.Result.{err_from_is_err_and}
use Rattle.osb_store.specs.Reading.{times_at, number_at}
use Rattle.osb_store.proofs.Times.{times_go_on, times_stop}
use Rattle.osb_store.proofs.inputs.read_numbers.Goals as goal

pub returns-in_err-number : goal.returns-in_err-number
returns-in_err-number c =
    let p = err_from_is_err_and c.from_residual.result c.from_residual.ensures.1 in
    rw (p.1, p.2) (times_stop number_at c.args.count c.loop.counter c.loop.numbers.items c.loop.rest.now (times_at number_at c.args.count c.args.bytes.now) c.loop.invariant
    (λ (x : ℕ × Bor (List ℕ)). (x.0, x.1.now)) (λ (x : Vec ℕ Global × Bor (List ℕ)). (x.0.items, x.1.now)) c.in_err-number.field-0.0 c.loop-test.true c.in_err-number.ensures)

pub loop-preserved : goal.loop-preserved
loop-preserved c =
    rw c.in_ok-push.ensures.items (times_go_on number_at c.args.count c.loop.counter c.loop.numbers.items c.loop.rest.now (times_at number_at c.args.count c.args.bytes.now) c.loop.invariant c.in_ok-number.number c.in_ok-number.after.now c.loop-test.true c.in_ok-number.ensures)
