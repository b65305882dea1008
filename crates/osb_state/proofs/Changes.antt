-- How far the workers are after one more entry: a change at one worker.
use Rattle.std.proofs.Common.{◌≡◌, ℕ, ◌+◌, ◌==◌, Bool, true, false, cond, List, [], ◌∷◌, ◌++◌, length, refl, sym, ap, subst, ◌∙◌, append-nil, arith}
use Rattle.std.proofs.lemmas.Bool.{eqb-true}
use Rattle.std.proofs.lemmas.List.{length-append}
use Rattle.std.proofs.lemmas.List.Elements.{filter-append}
use Rattle.std.proofs.lemmas.List.Sums.{fold_push}
use Rattle.osb_tree.specs.Trees.{Listing}
use Rattle.osb_recipe.specs.declared.outcomes.Outcome.{Outcome}
use Rattle.osb_board.specs.declared.tasks.Task.{Task}
use Rattle.osb_cache.specs.Caches.{CacheState}
use Rattle.osb_job.specs.declared.entries.Entry.{Entry}
use Rattle.osb_job.specs.Scripts.{Progress, idle, turn, progress_of}
use Rattle.osb_state.specs.States.{State, own}
use Rattle.osb_state.specs.Kept.{IsKept, progress_by, Valid}

-- how far each worker is, where this one is so far now
abbrev pub change : (ℕ → Progress) → ℕ → Progress → ℕ → Progress
change progress worker now other = cond (worker == other) now (progress other)

by_test : (progress : ℕ → Progress) (worker : ℕ) (now : Progress) (P : ℕ → Progress → Type 0) (other : ℕ) (b : Bool) → (worker == other) ≡ b → P worker now → ((worker == other) ≡ false → P other (progress other)) → P other (cond b now (progress other))
by_test progress worker now P other true e mine others = subst (λ (v : ℕ). P v now) (eqb-true worker other e) mine
by_test progress worker now P other false e mine others = others e

-- a fact of each worker, from that of this one and that of the others
pub by_worker : (progress : ℕ → Progress) (worker : ℕ) (now : Progress) (P : ℕ → Progress → Type 0) → P worker now → ((other : ℕ) → (worker == other) ≡ false → P other (progress other)) → (other : ℕ) → P other (change progress worker now other)
by_worker progress worker now P mine others other = by_test progress worker now P other (worker == other) refl mine (others other)

noted_step : (number : ℕ) (entry : Entry) (log : List Entry) (b : Bool) → (entry.worker.0 == number) ≡ b → progress_of (own number log ++ cond b (entry ∷ []) []) ≡ cond b (turn (progress_of (own entry.worker.0 log)) entry.event) (progress_of (own number log))
noted_step number entry log true e =
    fold_push (λ (progress : Progress) (entry : Entry). turn progress entry.event) idle (own number log) entry
    ∙ ap (λ (n : ℕ). turn (progress_of (own n log)) entry.event) (sym (eqb-true entry.worker.0 number e))
noted_step number entry log false e = ap progress_of (append-nil (own number log))

pub progress_noted : (number : ℕ) (entry : Entry) (log : List Entry) → progress_of (own number (log ++ entry ∷ [])) ≡ cond (entry.worker.0 == number) (turn (progress_of (own entry.worker.0 log)) entry.event) (progress_of (own number log))
progress_noted number entry log =
    ap progress_of (filter-append (λ (e : Entry). e.worker.0 == number) log (entry ∷ []))
    ∙ noted_step number entry log (entry.worker.0 == number) refl

-- what is kept where the worker of a new entry has gone on holds of the state with that entry
pub noted_valid : (state : State) (entry : Entry) (cache : CacheState Listing) (board : List (Task Outcome))
    → IsKept cache board (change (progress_by state) entry.worker.0 (turn (progress_by state entry.worker.0) entry.event)) state.keys (state.opened.kept + state.opened.evicted + length state.log + 1)
    → Valid (record state { cache = cache; board = board; log = state.log ++ entry ∷ [] })
noted_valid state entry cache board kept =
    let now : ℕ → Progress = λ number. progress_of (own number (state.log ++ entry ∷ [])) in
    let changed : ℕ → Progress = change (progress_by state) entry.worker.0 (turn (progress_by state entry.worker.0) entry.event) in
    let same : changed ≡ now = sym (λ i number. progress_noted number entry state.log i) in
    let bound : ℕ = state.opened.kept + state.opened.evicted + length state.log + 1 in
    let more : bound ≡ state.opened.kept + state.opened.evicted + length (state.log ++ entry ∷ []) = omega (arith, length-append state.log (entry ∷ [])) in
    subst (λ (n : ℕ). IsKept cache board now state.keys n) more (subst (λ (p : ℕ → Progress). IsKept cache board p state.keys bound) same kept)
