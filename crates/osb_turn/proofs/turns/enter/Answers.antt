use Rattle.std.proofs.Common.{rules, ◌≡◌, ℕ, List, ◌∷◌, sym, ap, ◌∙◌}
use Rattle.atomic_table.specs.Table.{rest}
use Rattle.osb_turn.proofs.turns.enter.Goals as goal

slot_of : {S : Type 0} (held : List (ℕ × S)) (x : S) (xs : List (ℕ × S)) → held ≡ (0, x) ∷ xs → (y : S) × (held ≡ (0, y) ∷ rest held)
slot_of held x xs e = (x, e ∙ ap (λ l. (0, x) ∷ rest l) (sym e))

pub exchange-requires : goal.exchange-requires
exchange-requires g c = (search rules, slot_of _ _ _ (ap (λ m. m.1) c.wait_for.ensures.served.now))
