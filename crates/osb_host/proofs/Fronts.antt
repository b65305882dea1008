-- The front of a file, as it is read piece after piece.
use Rattle.std.proofs.Common.{◌≡◌, ℕ, ◌≤◌, ◌<◌, List, [], ◌++◌, length, take, Option, None, Some, IfSome, sym, ap, ◌∙◌, refl, append-nil, append_assoc, ⊎_elim, eq-or-lt_of_le, le_refl}
use Rattle.std.proofs.lemmas.List.{take_all, take-append-le}
use Rattle.std.specs.Io.KnownBytes.{Consumes}
use Rattle.osb_base.specs.Shelves.{cut}
use Rattle.osb_host.specs.Fronts.{IsWhole}

pub Consumes-append : (all before now : Option (List ℕ)) (front piece : List ℕ) → Consumes all before front → Consumes before now piece → Consumes all now (front ++ piece)
Consumes-append None before now front piece p q = tt
Consumes-append (Some xs) None now front piece p q = absurd p
Consumes-append (Some xs) (Some ys) None front piece p q = absurd q
Consumes-append (Some xs) (Some ys) (Some zs) front piece p q = p ∙ ap (λ l. front ++ l) q ∙ sym (append_assoc front piece zs)

pub Consumes-nothing : (all : Option (List ℕ)) → Consumes all all []
Consumes-nothing None = tt
Consumes-nothing (Some xs) = refl

take-front : (n : ℕ) (front rest : List ℕ) → length front ≤ n → (length front < n → rest ≡ []) → take n (front ++ rest) ≡ front
take-front n front rest short ended =
    ⊎_elim
    (λ e. ap (λ k. take k (front ++ rest)) (sym e) ∙ take-append-le (length front) front rest (le_refl _) ∙ take_all (length front) front (le_refl _))
    (λ less. ap (λ l. take n (front ++ l)) (ended less) ∙ ap (take n) (append-nil front) ∙ take_all n front short)
    (eq-or-lt_of_le short)

-- a whole front is what a shelf gives of the file
pub cut_whole : (all left : Option (List ℕ)) (front : List ℕ) → Consumes all left front → length front ≤ 16777217 → IsWhole front left → IfSome all (λ bytes. front ≡ cut bytes)
unfolding cut
cut_whole None left front p short whole = tt
cut_whole (Some xs) None front p short whole = absurd p
cut_whole (Some xs) (Some ys) front p short whole = sym (ap (take 16777217) p ∙ take-front 16777217 front ys short whole)
