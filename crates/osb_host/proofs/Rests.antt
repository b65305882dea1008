-- Bytes that are written front after front.
use Rattle.std.proofs.Common.{◌≡◌, ℕ, ◌-◌, List, ◌++◌, length, take, drop, Option, None, Some, sym, ap, ◌∙◌, append_assoc, take-append-drop}
use Rattle.std.proofs.lemmas.List.{take_rest}
use Rattle.std.specs.Io.KnownBytes.{Appends}

-- where a front of the rest is done too, what is left is the rest after it
pub done-front : (all done rest : List ℕ) (n : ℕ) → all ≡ done ++ rest → all ≡ (done ++ take n rest) ++ take (length rest - n) (drop n rest)
done-front all done rest n e =
    e ∙ ap (λ l. done ++ l) (sym (take-append-drop n rest)) ∙ sym (append_assoc done (take n rest) (drop n rest)) ∙ ap (λ l. (done ++ take n rest) ++ l) (sym (take_rest rest n))

pub Appends-append : (before between now : Option (List ℕ)) (done front : List ℕ) → Appends before between done → Appends between now front → Appends before now (done ++ front)
Appends-append None between now done front p q = tt
Appends-append (Some xs) None now done front p q = absurd p
Appends-append (Some xs) (Some ys) None done front p q = absurd q
Appends-append (Some xs) (Some ys) (Some zs) done front p q = q ∙ ap (λ l. l ++ front) p ∙ append_assoc xs done front
