-- The numbers `used` of entries: they rise, and stay rising under each change.
use Rattle.std.proofs.Common.{◌≡◌, ◌==◌, ℕ, suc, ◌+◌, ◌-◌, ◌<◌, ◌≤◌, Bool, true, false, ◌||◌, cond, List, [], ◌∷◌, ◌++◌, length, map, All, count_by, inl, inr, refl, ap, arith}
use Rattle.std.proofs.lemmas.Bool.{cases_eq, ne_eqb}
use Rattle.std.proofs.lemmas.List.Elements.{All-nil, All-cons}
use Rattle.std.proofs.lemmas.List.Sums.{sum_by-cons}
use Rattle.osb_evict.specs.declared.lines.Line.{Line as Weighted}
use Rattle.osb_evict.proofs.Rising.{Rises as Rising, Rises-cons}
use Rattle.osb_cache.specs.declared.answers.Stored.{Stored}
use Rattle.osb_cache.specs.Edits.{remove_first, update_first}
use Rattle.osb_cache.specs.Caches.{Line, Rises, weighted, is_pinned, evict, opening_lines}

pub rises-le : {C : Type 0} → (low high : ℕ) (lines : List (Line C)) → Rises low lines high → low ≤ high
rises-le low high [] r = r
rises-le low high (line ∷ lines) r = omega (arith, r.0, rises-le line.used high lines r.1)

pub rises-lower : {C : Type 0} → (low from high : ℕ) (lines : List (Line C)) → low ≤ from → Rises from lines high → Rises low lines high
rises-lower low from high [] le r = omega (arith, r)
rises-lower low from high (line ∷ lines) le r = (omega (arith, r.0), r.1)

pub rises-push : {C : Type 0} → (low high : ℕ) (lines : List (Line C)) (line : Line C) → Rises low lines high → high < line.used → Rises low (lines ++ line ∷ []) line.used
rises-push low high [] line r less = (omega (arith, r), omega arith)
rises-push low high (x ∷ lines) line r less = (r.0, rises-push x.used high lines line r.1 less)

remove_step : {C : Type 0} → (b : Bool) (low high : ℕ) (line : Line C) (lines rest : List (Line C)) → low < line.used → Rises line.used lines high → Rises line.used rest high → Rises low (cond b lines (line ∷ rest)) high
remove_step true low high line lines rest less r ih = rises-lower low line.used high lines (omega arith) r
remove_step false low high line lines rest less r ih = (less, ih)

pub rises-remove_first : {C : Type 0} → (p : Line C → Bool) (low high : ℕ) (lines : List (Line C)) → Rises low lines high → Rises low (remove_first p lines) high
rises-remove_first p low high [] r = r
rises-remove_first p low high (line ∷ lines) r =
    remove_step (p line) low high line lines (remove_first p lines) r.0 r.1 (rises-remove_first p line.used high lines r.1)

update_step : {C : Type 0} → (b : Bool) (low high : ℕ) (line new : Line C) (lines rest : List (Line C)) → new.used ≡ line.used → low < line.used → Rises line.used lines high → Rises line.used rest high → Rises low (cond b (new ∷ lines) (line ∷ rest)) high
update_step true low high line new lines rest same less r ih =
    (omega (arith, same, less), rises-lower new.used line.used high lines (omega (arith, same)) r)
update_step false low high line new lines rest same less r ih = (less, ih)

pub rises-update_first : {C : Type 0} → (p : Line C → Bool) (f : Line C → Line C) → ((line : Line C) → (f line).used ≡ line.used) → (low high : ℕ) (lines : List (Line C)) → Rises low lines high → Rises low (update_first p f lines) high
rises-update_first p f same low high [] r = r
rises-update_first p f same low high (line ∷ lines) r =
    update_step (p line) low high line (f line) lines (update_first p f lines) (same line) r.0 r.1 (rises-update_first p f same line.used high lines r.1)

evict_step : {C : Type 0} → (b : Bool) (low high : ℕ) (line : Line C) (stay rest : List (Line C)) → low < line.used → Rises line.used stay high → Rises line.used rest high → Rises low (cond b (line ∷ stay) rest) high
evict_step true low high line stay rest less s r = (less, s)
evict_step false low high line stay rest less s r = rises-lower low line.used high rest (omega arith) r

pub rises-evict : {C : Type 0} → (excess low high : ℕ) (lines : List (Line C)) → Rises low lines high → Rises low (evict excess lines) high
rises-evict excess low high [] r = r
rises-evict excess low high (line ∷ lines) r =
    evict_step (is_pinned line || excess == 0) low high line (evict excess lines) (evict (excess - line.size) lines) r.0 (rises-evict excess line.used high lines r.1) (rises-evict (excess - line.size) line.used high lines r.1)

pub rises-higher : {C : Type 0} → (low high up : ℕ) (lines : List (Line C)) → high ≡ up → Rises low lines high → Rises low lines up
rises-higher low high up [] e r = omega (arith, r)
rises-higher low high up (line ∷ lines) e r = (r.0, rises-higher line.used high up lines e r.1)

pub rises-opening_lines : {C : Type 0} → (weight : C → ℕ) (low first : ℕ) (entries : List (Stored C)) → first ≡ low + 1 → Rises low (opening_lines weight first entries) (low + length entries)
rises-opening_lines weight low first [] e = omega arith
rises-opening_lines weight low first (stored ∷ entries) e =
    (omega arith, rises-higher first (first + length entries) (low + suc (length entries)) (opening_lines weight (first + 1) entries) (omega (arith, e)) (rises-opening_lines weight first (first + 1) entries refl))

-- as `victims` asks for it

above : {C : Type 0} → (low high : ℕ) (lines : List (Line C)) → Rises low lines high → All (λ (w : Weighted). low < w.used) (map weighted lines)
above low high [] r = All-nil (λ (w : Weighted). low < w.used)
above low high (line ∷ lines) r =
    All-cons (λ (w : Weighted). low < w.used) (weighted line) (map weighted lines) r.0 (above low high lines (rises-lower low line.used high lines (omega (arith, r.0)) r.1))

pub rising-weighted : {C : Type 0} → (low high : ℕ) (lines : List (Line C)) → Rises low lines high → Rising (λ (w : Weighted). w.used) (map weighted lines)
rising-weighted low high [] r = λ i j d less within. absurd (omega arith)
rising-weighted low high (line ∷ lines) r =
    Rises-cons (λ (w : Weighted). w.used) (weighted line) (map weighted lines) (above line.used high lines r.1) (rising-weighted line.used high lines r.1)

one_if : Bool → ℕ
one_if b = cond b 1 0

one_if-le : (b : Bool) → one_if b ≤ 1
unfolding one_if
one_if-le true = omega arith
one_if-le false = omega arith

none_below : {C : Type 0} → (used low high : ℕ) (lines : List (Line C)) → used ≤ low → Rises low lines high → count_by (λ (w : Weighted). w.used == used) (map weighted lines) ≡ 0
unfolding one_if
none_below used low high [] le r = refl
none_below used low high (line ∷ lines) le r =
    let uses : Weighted → ℕ = λ w. one_if (w.used == used) in
    let ne : line.used ≡ used → ⊥ = λ e. omega (arith, e, r.0, le) in
    omega (arith, sum_by-cons uses (weighted line) (map weighted lines), ap one_if (ne_eqb line.used used ne), none_below used line.used high lines (omega (arith, r.0, le)) r.1)

pub apart_weighted : {C : Type 0} → (low high : ℕ) (lines : List (Line C)) → Rises low lines high → (used : ℕ) → count_by (λ (w : Weighted). w.used == used) (map weighted lines) ≤ 1
unfolding one_if
apart_weighted low high [] r used = omega arith
apart_weighted {C} low high (line ∷ lines) r used =
    let uses : Weighted → ℕ = λ w. one_if (w.used == used) in
    let all = sum_by-cons uses (weighted line) (map weighted lines) in
    let rest = apart_weighted line.used high lines r.1 used in
    elim (cases_eq line.used used) [
      | inl e ↦ omega (arith, all, one_if-le (line.used == used), none_below used line.used high lines (omega (arith, e)) r.1)
      | inr ne ↦ omega (arith, all, ap one_if (ne_eqb line.used used ne), rest)
    ]

-- the entries that a cache opens with rise from 1 on
pub rises-opening : {C : Type 0} → (weight : C → ℕ) (entries : List (Stored C)) → Rises 0 (opening_lines weight 1 entries) (length entries)
rises-opening weight entries =
    rises-higher 0 (0 + length entries) (length entries) (opening_lines weight 1 entries) (omega arith) (rises-opening_lines weight 0 1 entries (omega arith))
