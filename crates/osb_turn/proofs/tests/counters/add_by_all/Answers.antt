use Rattle.std.proofs.Common.{rules, ◌≡◌, ℕ, zero, suc, ◌<◌, Bool, List, [], ◌∷◌, length, get_or, Some, refl, sym, ap, subst, ◌∙◌, arith}
use Rattle.std.specs.List.{slice_get}
use Rattle.std.proofs.lemmas.Option.{slice_get_within, get_or_from_slice_get}
use Rattle.osb_tree.specs.declared.numbers.WorkerNo.{WorkerNo}
use Rattle.osb_turn.specs.Seats.{TurnstileState, SeatState, IsSeatOf}
use Rattle.osb_turn.proofs.tests.counters.add_by_all.Goals as goal

got : {A : Type 0} (xs : List A) (i : ℕ) (d : A) → i < length xs → slice_get xs i ≡ Some (get_or xs i d)
got [] i d inside = absurd (omega arith)
got (y ∷ ys) zero d inside = refl
got (y ∷ ys) (suc i) d inside = got ys i d (omega arith)

moved : {S A R : Type 0} (gives : S → WorkerNo → A → R) (after : S → WorkerNo → A → S) (is_ready : S → WorkerNo → A → Bool) (allows : S → WorkerNo → A → Type 0) (turnstile : TurnstileState S) (x y : SeatState S A R) → x ≡ y
    → IsSeatOf gives after is_ready allows turnstile x → IsSeatOf gives after is_ready allows turnstile y
moved gives after is_ready allows turnstile x y e h = subst (IsSeatOf gives after is_ready allows turnstile) e h

pub for_each_mut-requires-clause-accepts : goal.for_each_mut-requires-clause-accepts
for_each_mut-requires-clause-accepts g c κs within = λ i p inside at. let seats = c.args.seats.now in let fits = c.requires.each i p.now (got seats i p.now inside ∙ ap Some (sym at)) in search (rules, fits.0)

pub returns : goal.returns
returns g c = let old = c.args.seats.now in let new = c.for_each_mut.new.s in record {
  count = search rules;
  each = λ i seat at. let inside : i < length old = (let w = slice_get_within new i seat at in omega arith) in let change = (c.for_each_mut.ensures i seat inside).1 in
      let left = change.left ∙ get_or_from_slice_get new i seat seat at in let was = c.requires.each i (get_or old i seat) (got old i seat inside) in
      (moved _ _ _ _ _ _ _ left change.call.0, ap (λ s. s.worker.0) (sym left) ∙ (ap (λ w. w.0) change.call.1 ∙ (ap (λ s. s.worker.0) change.argument_is ∙ was.1)));
}
