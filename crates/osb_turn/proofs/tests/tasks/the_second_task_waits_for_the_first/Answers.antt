use Rattle.std.proofs.Common.{◌≡◌, ℕ, zero, suc, ◌+◌, Bool, List, [], ◌∷◌, ◌++◌, length, length-append, Some, refl, sym, ap, subst, ◌∙◌, arith}
use Rattle.std.specs.List.{slice_get}
use Rattle.osb_tree.specs.declared.numbers.WorkerNo.{WorkerNo}
use Rattle.osb_turn.specs.Seats.{TurnstileState, SeatState, IsSeatOf, AreSeatsOf}
use Rattle.osb_turn.proofs.tests.tasks.the_second_task_waits_for_the_first.Goals as goal

at_end : {A : Type 0} (xs : List A) (x : A) (n : ℕ) → length xs ≡ n → slice_get (xs ++ x ∷ []) n ≡ Some x
at_end [] x zero e = refl
at_end [] x (suc n) e = absurd (omega arith)
at_end (y ∷ ys) x zero e = absurd (omega arith)
at_end (y ∷ ys) x (suc n) e = at_end ys x n (omega arith)

in_front : {A : Type 0} (xs ys : List A) (x : A) (n : ℕ) → slice_get xs n ≡ Some x → slice_get (xs ++ ys) n ≡ Some x
in_front [] ys x n e = absurd (cc)
in_front (z ∷ zs) ys x zero e = e
in_front (z ∷ zs) ys x (suc n) e = in_front zs ys x n e

empty : {A : Type 0} (xs : List A) → length xs ≡ 0 → xs ≡ []
empty [] e = refl
empty (x ∷ xs) e = absurd (omega arith)

module _ {S A R : Type 0} (gives : S → WorkerNo → A → R) (after : S → WorkerNo → A → S) (is_ready : S → WorkerNo → A → Bool) (allows : S → WorkerNo → A → Type 0) (turnstile : TurnstileState S) where
  abbrev Fits : ℕ → SeatState S A R → Type 0
  Fits i seat = IsSeatOf gives after is_ready allows turnstile seat × (seat.worker.0 ≡ i)

  -- two seats are taken off the end of a list of two
  record AreTwo (first second : SeatState S A R) (left : List (SeatState S A R)) : Type 0 where
    one : Fits 0 first
    two : Fits 1 second
    none : left ≡ []

  two_off : (all front left : List (SeatState S A R)) (first second : SeatState S A R) → turnstile.workers ≡ 2 → AreSeatsOf gives after is_ready allows turnstile all → all ≡ front ++ second ∷ [] → front ≡ left ++ first ∷ []
      → AreTwo first second left
  two_off all front left first second two h e f = let count = h.count in let long : length front + 1 ≡ 2 = (let k : length all ≡ length front + 1 = ap length e ∙ length-append front (second ∷ []) in omega arith) in
      let shorter : length left + 1 ≡ 1 = (let k : length front ≡ length left + 1 = ap length f ∙ length-append left (first ∷ []) in omega arith) in record {
        one = h.each 0 first (ap (λ (l : List (SeatState S A R)). slice_get l 0) e ∙ in_front front (second ∷ []) first 0 (ap (λ (l : List (SeatState S A R)). slice_get l 0) f ∙ at_end left first 0 (omega arith)));
        two = h.each 1 second (ap (λ (l : List (SeatState S A R)). slice_get l 1) e ∙ at_end front second 1 (omega arith));
        none = empty left (omega arith);
      }

  each_of_two : (first second : SeatState S A R) → Fits 0 first → Fits 1 second → (i : ℕ) (seat : SeatState S A R) → slice_get (first ∷ second ∷ []) i ≡ Some seat → Fits i seat
  each_of_two first second f s zero seat e = let same : first ≡ seat = cc in subst (Fits 0) same f
  each_of_two first second f s (suc zero) seat e = let same : second ≡ seat = cc in subst (Fits 1) same s
  each_of_two first second f s (suc (suc i)) seat e = absurd (cc)

  two_on : (left all : List (SeatState S A R)) (first second : SeatState S A R) → turnstile.workers ≡ 2 → left ≡ [] → all ≡ (left ++ first ∷ []) ++ second ∷ [] → Fits 0 first → Fits 1 second
      → AreSeatsOf gives after is_ready allows turnstile all
  two_on left all first second two none e f s = subst (AreSeatsOf gives after is_ready allows turnstile) (sym (e ∙ ap (λ (l : List (SeatState S A R)). (l ++ first ∷ []) ++ second ∷ []) none))
      record { count = sym two; each = each_of_two first second f s }

pub ask-requires-clause-own : goal.ask-requires-clause-own
ask-requires-clause-own g c = let two = c.in_ok-turnstile.ensures.workers in let off = two_off _ _ _ _ c.in_ok-turnstile.turnstile _ _ _ _ _ two c.in_ok-turnstile.ensures.seats c.in-Some.ensures.items c.in-Some-pop.ensures.items in off.one.0

pub ask-requires-2-clause-own : goal.ask-requires-2-clause-own
ask-requires-2-clause-own g c = let two = c.in_ok-turnstile.ensures.workers in let off = two_off _ _ _ _ c.in_ok-turnstile.turnstile _ _ _ _ _ two c.in_ok-turnstile.ensures.seats c.in-Some.ensures.items c.in-Some-pop.ensures.items in off.two.0

pub close-requires : goal.close-requires
close-requires g c = let two = c.in_ok-turnstile.ensures.workers in let off = two_off _ _ _ _ c.in_ok-turnstile.turnstile _ _ _ _ _ two c.in_ok-turnstile.ensures.seats c.in-Some.ensures.items c.in-Some-pop.ensures.items in
    record {
      all = two_on _ _ _ _ _ _ _ _ _ two off.none (c.in_ok-push-2.ensures.items ∙ ap (λ l. l ++ c.ask-3.new.seat ∷ []) c.in_ok-push.ensures.items)
          (c.in_ok-noted.ensures.own, ap (λ w. w.0) (c.in_ok-noted.ensures.worker ∙ c.in_ok-claimed.ensures.worker) ∙ off.one.1)
          (c.in_ok-claimed-3.ensures.own, ap (λ w. w.0) (c.in_ok-claimed-3.ensures.worker ∙ c.in_ok-claimed-2.ensures.worker) ∙ off.two.1);
    }
