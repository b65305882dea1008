use Rattle.std.proofs.Common.{◌<◌, Some, length, get_or, sym, ap, subst, ◌∙◌, arith}
use Rattle.std.proofs.lemmas.Option.{slice_get_within, slice_get-get_or, get_or_from_slice_get}
use Rattle.osb_tree.specs.declared.numbers.WorkerNo.{WorkerNo}
use Rattle.osb_state.specs.States.{Allows, gives, after}
use Rattle.osb_turn.specs.Seats.{IsSeatOf}
use Rattle.osb_work.specs.Works.{is_ready_for, Stool, HasEnded}
use Rattle.osb_work.proofs.crews.work_all.Goals as goal

pub for_each_mut-requires-clause-accepts : goal.for_each_mut-requires-clause-accepts
for_each_mut-requires-clause-accepts g c κs within = λ i p inside at.
    let seats = c.args.seats.now in
    let found = slice_get-get_or seats i p.now inside ∙ ap Some (sym at) in
    let fits = c.requires.seats.each i p.now found in
    let fresh = c.requires.fresh i p.now found in
    (c.requires.sound, c.requires.begins, fits.0, fits.1, fresh.0, fresh.1, omega (arith, c.requires.few))

pub returns-clause-seats : goal.returns-clause-seats
returns-clause-seats g c =
    let old = c.args.seats.now in
    let new = c.for_each_mut.new.s in
    record {
      count = c.for_each_mut.auto.s ∙ c.requires.seats.count;
      each = λ i seat at.
          let inside : i < length old = (let w = slice_get_within new i seat at in omega (arith, w, c.for_each_mut.auto.s)) in
          let change = (c.for_each_mut.ensures i seat inside).1 in
          let left = change.left ∙ get_or_from_slice_get new i seat seat at in
          let was = c.requires.seats.each i (get_or old i seat) (slice_get-get_or old i seat inside) in (
            subst (λ (s : Stool). IsSeatOf gives after is_ready_for Allows c.args.turnstile.now s) left change.call.0,
            ap (λ (s : Stool). s.worker.0) (sym left) ∙ (ap (λ (w : WorkerNo). w.0) change.call.1 ∙ (ap (λ (s : Stool). s.worker.0) change.argument_is ∙ was.1)),
          );
    }

pub returns-clause-ended : goal.returns-clause-ended
returns-clause-ended g c = λ i seat at.
    let old = c.args.seats.now in
    let new = c.for_each_mut.new.s in
    let inside : i < length old = (let w = slice_get_within new i seat at in omega (arith, w, c.for_each_mut.auto.s)) in
    let change = (c.for_each_mut.ensures i seat inside).1 in
    subst (HasEnded c.args.plan.now) (change.left ∙ get_or_from_slice_get new i seat seat at) change.call.2
