-- A worker's own entries after one action.
use Rattle.std.proofs.Common.{◌≡◌, ℕ, ◌==◌, List, [], ◌∷◌, ◌++◌, map, Option, Some, None, refl, ap, ◌∙◌}
use Rattle.std.specs.Option.{option_to_list}
use Rattle.std.proofs.lemmas.Bool.{cond-true, cond-false, ne_eqb, eq-eqb}
use Rattle.std.proofs.lemmas.List.{append-nil}
use Rattle.std.proofs.lemmas.List.Elements.{filter-append}
use Rattle.osb_tree.specs.declared.numbers.WorkerNo.{WorkerNo}
use Rattle.osb_job.specs.declared.entries.Entry.{Entry}
use Rattle.osb_job.specs.declared.entries.Event.{Event}
use Rattle.osb_state.specs.States.{own}

abbrev pub entries : WorkerNo → Option Event → List Entry
entries worker event = map (λ event. record { worker = worker; event = event }) (option_to_list event)

-- an entry of another worker is not its own
pub own-other : (number : ℕ) (worker : WorkerNo) (log : List Entry) (event : Option Event) → (worker.0 ≡ number → ⊥) → own number (log ++ entries worker event) ≡ own number log
own-other number worker log None ne = ap (own number) (append-nil log)
own-other number worker log (Some event) ne =
    filter-append (λ (entry : Entry). entry.worker.0 == number) log (entries worker (Some event)) ∙ ap (λ (xs : List Entry). own number log ++ xs) (cond-false (worker.0 == number) (entries worker (Some event)) [] (ne_eqb worker.0 number ne)) ∙ append-nil (own number log)

-- its own entry comes last
pub own-same : (worker : WorkerNo) (log : List Entry) (event : Event) → own worker.0 (log ++ entries worker (Some event)) ≡ own worker.0 log ++ record { worker = worker; event = event } ∷ []
own-same worker log event =
    filter-append (λ (entry : Entry). entry.worker.0 == worker.0) log (entries worker (Some event)) ∙ ap (λ (xs : List Entry). own worker.0 log ++ xs) (cond-true (worker.0 == worker.0) (entries worker (Some event)) [] (eq-eqb worker.0 worker.0 refl))
