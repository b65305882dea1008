-- What a worker's own part owes to others: nothing.
use Rattle.std.proofs.Common.{◌≡◌, ◌≢◌, Bool, cond, List, [], ◌∷◌, ◌++◌, refl, sym, ap, subst, ◌∙◌, eq-eqb, ne_eqb}
use mathlib.Core.Logic.{dite}
use mathlib.Core.List.{IsPrefix}
use native.Mathlib.Decide.{ℕ_discrete}
use Rattle.osb_tree.specs.declared.numbers.WorkerNo.{WorkerNo}
use Rattle.osb_turn.specs.declared.views.Entry.{Entry}
use Rattle.osb_turn.specs.Histories.{own, replay, IsHistory}
use Rattle.osb_turn.proofs.Lists.{none_past}
use Rattle.osb_turn.proofs.Steps.{replay-append}

module _ {S A R P : Type 0} (gives : S → WorkerNo → A → R) (after : S → WorkerNo → A → S) (is_ready : S → WorkerNo → A → Bool) (allows : S → WorkerNo → A → Type 0) (valid : S → Type 0) (part : S → WorkerNo → P)
    (valid_stays : (s : S) (worker : WorkerNo) (action : A) → valid s → allows s worker action → valid (after s worker action))
    (part_stays : (s : S) (worker other : WorkerNo) (action : A) → valid s → allows s worker action → other ≢ worker → part (after s worker action) other ≡ part s other) where
  pub valid_after : (state : S) (xs : List (Entry A R)) → valid state → IsHistory gives after is_ready allows state xs → valid (replay after state xs)
  valid_after state [] v h = v
  valid_after state (x ∷ xs) v h = valid_after (after state x.worker x.action) xs (valid_stays state x.worker x.action v h.0) h.3

  pub history_front : (state : S) (xs ys : List (Entry A R)) → IsHistory gives after is_ready allows state (xs ++ ys) → IsHistory gives after is_ready allows state xs
  history_front state [] ys h = tt
  history_front state (x ∷ xs) ys h = (h.0, h.1, h.2, history_front (after state x.worker x.action) xs ys h.3)

  pub history_rest : (state : S) (xs ys : List (Entry A R)) → IsHistory gives after is_ready allows state (xs ++ ys) → IsHistory gives after is_ready allows (replay after state xs) ys
  history_rest state [] ys h = h
  history_rest state (x ∷ xs) ys h = history_rest (after state x.worker x.action) xs ys h.3

  nil_cons : (x : Entry A R) (xs : List (Entry A R)) {X : Type 0} → x ∷ xs ≡ [] → X
  nil_cons x xs e = absurd (cc)

  part_kept : (state : S) (w : WorkerNo) (xs : List (Entry A R)) → valid state → IsHistory gives after is_ready allows state xs → own w.0 xs ≡ [] → part (replay after state xs) w ≡ part state w
  part_kept state w [] v h none = refl
  part_kept state w (x ∷ xs) v h none = dite (ℕ_discrete x.worker.0 w.0)
      (λ same. nil_cons x (own w.0 xs) (sym (ap (λ (b : Bool). cond b (x ∷ own w.0 xs) (own w.0 xs)) (eq-eqb x.worker.0 w.0 same)) ∙ none))
      (λ other. part_kept (after state x.worker x.action) w xs (valid_stays state x.worker x.action v h.0) h.3 (sym (ap (λ (b : Bool). cond b (x ∷ own w.0 xs) (own w.0 xs)) (ne_eqb x.worker.0 w.0 other)) ∙ none)
      ∙ part_stays state x.worker w x.action v h.0 (λ e. other (sym (ap (λ (n : WorkerNo). n.0) e))))

  -- a worker's own part is as after what it has seen, where nothing past that is its own
  pub part_lasts : (state : S) (w : WorkerNo) (seen history : List (Entry A R)) → valid state → IsHistory gives after is_ready allows state history → IsPrefix seen history → own w.0 history ≡ own w.0 seen
      → part (replay after state history) w ≡ part (replay after state seen) w
  part_lasts state w seen history v h p all = let xs : List (Entry A R) = p.0 in let e : seen ++ xs ≡ history = p.1 in
      let h' : IsHistory gives after is_ready allows state (seen ++ xs) = subst (IsHistory gives after is_ready allows state) (sym e) h in
      ap (λ (l : List (Entry A R)). part (replay after state l) w) (sym e) ∙ (ap (λ (s : S). part s w) (replay-append after state seen xs)
      ∙ part_kept (replay after state seen) w xs (valid_after state seen v (history_front state seen xs h')) (history_rest state seen xs h') (none_past w.0 seen xs (ap (own w.0) e ∙ all)))
