use Rattle.std.proofs.Common.{ℕ, List, Vec, Global, Bor}
use Rattle.std.proofs.lemmas.Result.{err_from_is_err_and}
use Rattle.osb_recipe.specs.declared.references.InputRecipe.{InputRecipe}
use Rattle.osb_store.specs.Reading.{times_at, input_at}
use Rattle.osb_store.proofs.Times.{times_go_on, times_stop}
use Rattle.osb_store.proofs.inputs.read_inputs.Goals as goal

pub returns-in_err-input : goal.returns-in_err-input
returns-in_err-input c =
    let p = err_from_is_err_and c.from_residual.result c.from_residual.ensures.1 in
    rw (p.1, p.2) (times_stop input_at c.args.count c.loop.counter c.loop.inputs.items c.loop.rest.now (times_at input_at c.args.count c.args.bytes.now) c.loop.invariant
    (λ (x : (List ℕ × InputRecipe) × Bor (List ℕ)). ((x.0.0, x.0.1), x.1.now)) (λ (x : Vec (List ℕ × InputRecipe) Global × Bor (List ℕ)). (x.0.items, x.1.now)) c.in_err-input.field-0.0 c.loop-test.true c.in_err-input.ensures)

pub loop-preserved : goal.loop-preserved
loop-preserved c =
    rw c.in_ok-push.ensures.items (times_go_on input_at c.args.count c.loop.counter c.loop.inputs.items c.loop.rest.now (times_at input_at c.args.count c.args.bytes.now) c.loop.invariant c.in_ok-input.input c.in_ok-input.after.now c.loop-test.true c.in_ok-input.ensures)
