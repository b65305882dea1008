-- Once memory was refused in a block, a task ends for want of it, or the block goes on.
use Rattle.std.proofs.Common.{◌≡◌, ◌==◌, ◌&&◌, ℕ, Bool, true, false, not, cond, List, [], ◌∷◌, Some, ◌⊎◌, inl, inr, refl, sym, ap, subst, ◌∙◌}
use Rattle.std.specs.List.{list_any}
use Rattle.std.proofs.lemmas.Bool.{cases_eq, cond-true, cond-false, eq-eqb, ne_eqb, or_left, or_right}
use Rattle.std.proofs.lemmas.List.Folds.{list_any-append}
use Rattle.std.proofs.lemmas.Option.{same_Some}
use Rattle.osb_tree.specs.declared.numbers.WorkerNo.{WorkerNo}
use Rattle.osb_recipe.specs.declared.plans.Plan.{Plan}
use Rattle.osb_job.specs.declared.actions.Action.{Action}
use Rattle.osb_job.specs.declared.actions.Action.TheVariants as actions
use Rattle.osb_job.specs.declared.entries.Entry.{Entry}
use Rattle.osb_job.specs.declared.entries.Event.{Event}
use Rattle.osb_job.specs.declared.entries.Event.TheVariants as events
use Rattle.osb_job.specs.Scripts.{Hand, free, reads, fills, Block, Progress, busy, turn, giving_up, next}
use Rattle.osb_state.specs.States.{State, progress_in, entries_of, after}
use Rattle.osb_state.specs.Kept.{progress_by}
use Rattle.osb_state.specs.Runs.{change, is_done}
use Rattle.osb_state.specs.KeptLogs.{entry_by}
use Rattle.osb_state.specs.Filling.{ends_without_memory}
use Rattle.osb_state.proofs.FillingSteps.{progress_own, progress_other}

-- a block goes on in which memory was refused
pub record HasRefused (state : State) (refused : ℕ → Bool) : Type 0 where
  pub worker : ℕ
  pub block : Block
  pub at : progress_by state worker ≡ busy block
  pub off : refused worker ≡ true

abbrev pub has_lost : List Entry → Bool
has_lost log = list_any (λ entry. ends_without_memory entry.event) log

abbrev pub IsSpoiled : State → (ℕ → Bool) → Type 0
IsSpoiled state refused = HasRefused state refused ⊎ (has_lost state.log ≡ true)

lost_after : (state : State) (worker : WorkerNo) (action : Action) → has_lost state.log ≡ true → has_lost (after state worker action).log ≡ true
lost_after state worker action lost =
    list_any-append (λ (entry : Entry). ends_without_memory entry.event) state.log (entries_of state worker action) ∙ or_left (has_lost state.log) (has_lost (entries_of state worker action)) lost

lost_now : (state : State) (worker : WorkerNo) (action : Action) → has_lost (entries_of state worker action) ≡ true → has_lost (after state worker action).log ≡ true
lost_now state worker action lost =
    list_any-append (λ (entry : Entry). ends_without_memory entry.event) state.log (entries_of state worker action) ∙ or_right (has_lost state.log) (has_lost (entries_of state worker action)) lost

abbrev changed : (ℕ → Bool) → WorkerNo → Action → ℕ → Bool
changed refused worker action = change refused worker (not (is_done action) && refused worker.0)

own_now : (refused : ℕ → Bool) (worker : WorkerNo) (now : Bool) → now ≡ true → change refused worker now worker.0 ≡ true
own_now refused worker now off = cond-true (worker.0 == worker.0) now (refused worker.0) (eq-eqb worker.0 worker.0 refl) ∙ off

-- the block of the worker that gives up goes on, or is the one that ends
module _ (state : State) (refused : ℕ → Bool) (worker : WorkerNo) (block : Block) (at : progress_in state worker ≡ busy block) (off : refused worker.0 ≡ true) where
  goes_on_free : (action : Action) (event : Event) → entries_of state worker action ≡ entry_by worker event ∷ [] → turn (busy block) event ≡ busy (record block { hand = free }) → is_done action ≡ false
      → IsSpoiled (after state worker action) (changed refused worker action)
  goes_on_free action event noted turned more =
      inl (record {
        worker = worker.0;
        block = record block { hand = free };
        at = progress_own state (entry_by worker event) action noted ∙ ap (λ (p : Progress). turn p event) at ∙ turned;
        off = own_now refused worker (not (is_done action) && refused worker.0) (ap (λ (b : Bool). not b && refused worker.0) more ∙ off);
      })

  gives_up_on : (hand : Hand) → IsSpoiled (after state worker (giving_up block.task hand)) (changed refused worker (giving_up block.task hand))
  gives_up_on free = inr (lost_now state worker (giving_up block.task free) refl)
  gives_up_on (reads key count) = goes_on_free (actions.Unpin key) (events.Unpin key) refl refl refl
  gives_up_on (fills key count) = goes_on_free (actions.Drop key) (events.Drop key) refl refl refl

pub spoiled_on : (plan : Plan) (state : State) (refused : ℕ → Bool) (entry : Entry) (action : Action) → next plan (progress_in state entry.worker) (refused entry.worker.0) ≡ Some action → entries_of state entry.worker action ≡ entry ∷ [] → IsSpoiled state refused
    → IsSpoiled (after state entry.worker action) (change refused entry.worker (not (is_done action) && refused entry.worker.0))
spoiled_on plan state refused entry action is noted (inr lost) = inr (lost_after state entry.worker action lost)
spoiled_on plan state refused entry action is noted (inl had) = elim (cases_eq entry.worker.0 had.worker) [
  | inl same ↦
      let worker : WorkerNo = entry.worker in
      let at : progress_in state worker ≡ busy had.block = ap (progress_by state) same ∙ had.at in
      let off : refused worker.0 ≡ true = ap refused same ∙ had.off in
      let gives : Some (giving_up had.block.task had.block.hand) ≡ Some action = sym (ap (next plan (busy had.block)) off) ∙ ap (λ (p : Progress). next plan p (refused worker.0)) (sym at) ∙ is in
      subst (λ (a : Action). IsSpoiled (after state worker a) (changed refused worker a)) (same_Some (giving_up had.block.task had.block.hand) action gives) (gives_up_on state refused worker had.block at off had.block.hand)
  | inr apart ↦
      inl (record {
        worker = had.worker;
        block = had.block;
        at = progress_other state entry action had.worker noted apart ∙ had.at;
        off = cond-false (had.worker == entry.worker.0) (not (is_done action) && refused entry.worker.0) (refused had.worker) (ne_eqb had.worker entry.worker.0 (λ same. apart (sym same))) ∙ had.off;
      })
]

still_off : (b now : Bool) → now ≡ true → cond b true now ≡ true
still_off true now off = refl
still_off false now off = off

pub spoiled_more : (state : State) (refused : ℕ → Bool) (worker : WorkerNo) → IsSpoiled state refused → IsSpoiled state (change refused worker true)
spoiled_more state refused worker (inr lost) = inr lost
spoiled_more state refused worker (inl had) =
    inl (record { worker = had.worker; block = had.block; at = had.at; off = still_off (had.worker == worker.0) (refused had.worker) had.off })
