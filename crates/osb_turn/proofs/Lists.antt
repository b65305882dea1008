-- Entries of a worker, prefixes, and the tickets of seats.
use Rattle.std.proofs.Common.{◌≡◌, ◌≢◌, ℕ, zero, suc, ◌+◌, ◌<◌, ◌≤◌, Bool, eqb, cond, List, [], ◌∷◌, ◌++◌, length, All, Some, ◌⊎◌, inl, inr, set, refl, sym, ap, subst, ◌∙◌, append_assoc, length-append, arith, eq-eqb, ne_eqb}
use Rattle.std.specs.List.{slice_get}
use Rattle.std.proofs.lemmas.List.{append_cancel_left}
use Rattle.std.proofs.lemmas.List.Elements.{filter-append, All-head, All-tail}
use mathlib.Core.Option.{some, some-injective, some-ne-none}
use mathlib.Core.List.{IsPrefix}
use lib.ListN.{get_elem?}
use Rattle.atomic_table.proofs.Lists.{at_last}
use Rattle.osb_turn.specs.declared.views.Entry.{Entry}
use Rattle.osb_turn.specs.declared.views.View.{View}
use Rattle.osb_turn.specs.declared.views.Stage.{Stage}
use Rattle.osb_turn.specs.declared.views.Stage.TheVariants.{Opening, Idle, Waiting, Holding, Spent}
use Rattle.osb_turn.specs.Histories.{own}
use Rattle.osb_turn.specs.Rule.{ticket_count, tickets}

module _ {A : Type 0} where
  pub append-nil : (xs : List A) → xs ++ [] ≡ xs
  append-nil [] = refl
  append-nil (x ∷ xs) = ap (λ (l : List A). x ∷ l) (append-nil xs)

  pub prefix_self : (xs : List A) → IsPrefix xs xs
  prefix_self [] = ([], refl)
  prefix_self (x ∷ xs) = let t = prefix_self xs in (t.0, ap (λ (l : List A). x ∷ l) t.1)

  pub prefix_more : (xs ys zs : List A) → IsPrefix xs ys → IsPrefix xs (ys ++ zs)
  prefix_more xs ys zs p = (p.0 ++ zs, sym (append_assoc xs p.0 zs) ∙ ap (λ (l : List A). l ++ zs) p.1)

  pub prefix_trans : (xs ys zs : List A) → IsPrefix xs ys → IsPrefix ys zs → IsPrefix xs zs
  prefix_trans xs ys zs p q = (p.0 ++ q.0, sym (append_assoc xs p.0 q.0) ∙ (ap (λ (l : List A). l ++ q.0) p.1 ∙ q.1))

  pub below : (xs : List A) (i : ℕ) (a : A) → get_elem? xs i ≡ some a → i < length xs
  below [] i a e = absurd (some-ne-none a (sym e))
  below (x ∷ xs) zero a e = omega arith
  below (x ∷ xs) (suc i) a e = let h = below xs i a e in omega arith

  pub at_end : (xs : List A) (a b : A) (j : ℕ) → get_elem? (xs ++ a ∷ []) j ≡ some b → (get_elem? xs j ≡ some b) ⊎ ((j ≡ length xs) × (a ≡ b))
  at_end [] a b zero e = inr (refl, some-injective a b e)
  at_end [] a b (suc j) e = absurd (some-ne-none b (sym e))
  at_end (x ∷ xs) a b zero e = inl e
  at_end (x ∷ xs) a b (suc j) e = elim (at_end xs a b j e) [ inl h ↦ inl h | inr h ↦ inr (ap suc h.0, h.1) ]

  pub all_at : (P : A → Type 0) (xs : List A) (x : A) (i : ℕ) → All P xs → slice_get xs i ≡ Some x → P x
  all_at P [] x i h e = absurd (cc)
  all_at P (y ∷ ys) x zero h e = let same : y ≡ x = cc in subst P same (All-head P y ys h)
  all_at P (y ∷ ys) x (suc i) h e = all_at P ys x i (All-tail P y ys h) e

  pub last_of : (xs : List A) → (xs ≡ []) ⊎ ((ys : List A) × (y : A) × (xs ≡ ys ++ y ∷ []))
  last_of [] = inl refl
  last_of (x ∷ xs) = elim (last_of xs) [
    | inl e ↦ inr ([], x, ap (λ (l : List A). x ∷ l) e)
    | inr h ↦ inr (x ∷ h.0, h.1, ap (λ (l : List A). x ∷ l) h.2)
  ]

  pub last_same : (xs ys : List A) (a b : A) → xs ++ a ∷ [] ≡ ys ++ b ∷ [] → a ≡ b
  last_same xs ys a b e = let k : length xs + 1 ≡ length ys + 1 = sym (length-append xs (a ∷ [])) ∙ (ap length e ∙ length-append ys (b ∷ [])) in
      some-injective a b (sym (at_last xs a (length xs) refl) ∙ (ap (λ (l : List A). get_elem? l (length xs)) e ∙ at_last ys b (length xs) (omega arith)))

module _ {A R : Type 0} where
  pub own-append : (n : ℕ) (xs ys : List (Entry A R)) → own n (xs ++ ys) ≡ own n xs ++ own n ys
  own-append n xs ys = filter-append (λ e. eqb e.worker.0 n) xs ys

  pub own_one : (n : ℕ) (e : Entry A R) → e.worker.0 ≡ n → own n (e ∷ []) ≡ e ∷ []
  own_one n e is = ap (λ (b : Bool). cond b (e ∷ []) []) (eq-eqb e.worker.0 n is)

  pub own_other : (n : ℕ) (e : Entry A R) → e.worker.0 ≢ n → own n (e ∷ []) ≡ []
  own_other n e not = ap (λ (b : Bool). cond b (e ∷ []) []) (ne_eqb e.worker.0 n not)

  pub own_more : (n : ℕ) (xs : List (Entry A R)) (e : Entry A R) → e.worker.0 ≡ n → own n (xs ++ e ∷ []) ≡ own n xs ++ e ∷ []
  own_more n xs e is = own-append n xs (e ∷ []) ∙ ap (λ (l : List (Entry A R)). own n xs ++ l) (own_one n e is)

  pub own_same : (n : ℕ) (xs : List (Entry A R)) (e : Entry A R) → e.worker.0 ≢ n → own n (xs ++ e ∷ []) ≡ own n xs
  own_same n xs e not = own-append n xs (e ∷ []) ∙ (ap (λ (l : List (Entry A R)). own n xs ++ l) (own_other n e not) ∙ append-nil (own n xs))

  pub own_none : (n : ℕ) (xs : List (Entry A R)) → All (λ e. e.worker.0 < n) xs → own n xs ≡ []
  own_none n [] h = refl
  own_none n (x ∷ xs) h = let first : x.worker.0 < n = All-head (λ e. e.worker.0 < n) x xs h in
      ap (λ (b : Bool). cond b (x ∷ own n xs) (own n xs)) (ne_eqb x.worker.0 n (λ e. omega arith)) ∙ own_none n xs (All-tail (λ e. e.worker.0 < n) x xs h)

  -- no entry past a prefix with all of a worker's entries is the worker's
  pub none_past : (n : ℕ) (xs ys : List (Entry A R)) → own n (xs ++ ys) ≡ own n xs → own n ys ≡ []
  none_past n xs ys e = append_cancel_left (own n xs) (own n ys) [] (sym (own-append n xs ys) ∙ (e ∙ sym (append-nil (own n xs))))

module _ {A R : Type 0} where
  -- a front of a history with all entries of the worker whose entry is last is all of it
  pub whole_front : (seen rest ys : List (Entry A R)) (y : Entry A R) (history : List (Entry A R)) → seen ++ rest ≡ history → history ≡ ys ++ y ∷ [] → own y.worker.0 rest ≡ [] → seen ≡ history
  whole_front seen rest ys y history e f none = elim (last_of rest) [
    | inl empty ↦ sym (append-nil seen) ∙ (ap (λ (l : List (Entry A R)). seen ++ l) (sym empty) ∙ e)
    | inr h ↦ let same : h.1 ≡ y = last_same (seen ++ h.0) ys h.1 y (append_assoc seen h.0 (h.1 ∷ []) ∙ (ap (λ (l : List (Entry A R)). seen ++ l) (sym h.2) ∙ (e ∙ f))) in
        let some_left : own y.worker.0 h.0 ++ h.1 ∷ [] ≡ [] = sym (own_more y.worker.0 h.0 h.1 (ap (λ (x : Entry A R). x.worker.0) same)) ∙ (ap (own y.worker.0) (sym h.2) ∙ none) in
        let k : length (own y.worker.0 h.0) + 1 ≡ 0 = sym (length-append (own y.worker.0 h.0) (h.1 ∷ [])) ∙ ap length some_left in absurd (omega arith)
  ]

pub at_most_one : (st : Stage) → ticket_count st ≤ 1
at_most_one Opening = omega arith
at_most_one Idle = omega arith
at_most_one (Waiting t) = omega arith
at_most_one (Holding t) = omega arith
at_most_one Spent = omega arith

module _ {S A R : Type 0} where
  pub tickets-set : (vs : List (View S A R)) (i : ℕ) (v w : View S A R) → get_elem? vs i ≡ some v → tickets (set vs i w) + ticket_count v.stage ≡ tickets vs + ticket_count w.stage
  tickets-set [] i v w e = absurd (some-ne-none v (sym e))
  tickets-set (x ∷ xs) zero v w e = let same : ticket_count x.stage ≡ ticket_count v.stage = ap (λ (y : View S A R). ticket_count y.stage) (some-injective x v e) in omega arith
  tickets-set (x ∷ xs) (suc i) v w e = let h = tickets-set xs i v w e in omega arith

  pub tickets_few : (vs : List (View S A R)) → tickets vs ≤ length vs
  tickets_few [] = omega arith
  tickets_few (v ∷ vs) = let h = tickets_few vs in let one = at_most_one v.stage in omega arith

  pub tickets-append : (vs : List (View S A R)) (w : View S A R) → tickets (vs ++ w ∷ []) ≡ tickets vs + ticket_count w.stage
  tickets-append [] w = omega arith
  tickets-append (v ∷ vs) w = let h = tickets-append vs w in omega arith

  pub no_tickets : (vs : List (View S A R)) → ((j : ℕ) (v : View S A R) → get_elem? vs j ≡ some v → ticket_count v.stage ≡ 0) → tickets vs ≡ 0
  no_tickets [] h = refl
  no_tickets (v ∷ vs) h = let first : ticket_count v.stage ≡ 0 = h 0 v refl in let others = no_tickets vs (λ j w e. h (suc j) w e) in omega arith
