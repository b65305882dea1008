-- The log of a schedule that was run.
use Rattle.std.proofs.Common.{ℕ, ◌<◌, false, List, [], ◌∷◌, All, sym, subst}
use Rattle.std.specs.List.{zip}
use Rattle.std.specs.Map.{keys_of}
use Rattle.std.proofs.lemmas.List.Elements.{All-nil, All-cons, All-head, All-tail}
use Rattle.osb_tree.specs.Trees.{Listing, tree_size}
use Rattle.osb_tree.specs.declared.numbers.WorkerNo.{WorkerNo}
use Rattle.osb_recipe.specs.Plans.{IsSound}
use Rattle.osb_recipe.specs.Tables.{IsTable}
use Rattle.osb_recipe.specs.declared.plans.Plan.{Plan}
use Rattle.osb_cache.specs.declared.answers.Stored.{Stored}
use Rattle.osb_job.specs.declared.actions.Flag.{Flag}
use Rattle.osb_job.specs.declared.entries.Entry.{Entry}
use Rattle.osb_job.specs.declared.places.Place.{Place}
use Rattle.osb_cache.specs.Caches.{CanOpen}
use Rattle.osb_state.specs.States.{State}
use Rattle.osb_state.specs.Openings.{opened_state}
use Rattle.osb_state.specs.RunLogs.{LeadsTo}
use Rattle.osb_state.specs.Schedules.{IsRunBy, start}
use Rattle.osb_state.specs.Truth.{IsTrueOpening}
use Rattle.osb_state.proofs.TrueOpenings.{true_opens}
use Rattle.osb_state.proofs.LoggedRuns.{runs_have_logs}

-- the flags that were met are those of the same workers
within_met : (workers : ℕ) (schedule : List (WorkerNo × Flag)) (mets : List Flag) → All (λ turn. turn.0.0 < workers) schedule → All (λ turn. turn.0.0 < workers) (zip (keys_of schedule) mets)
within_met workers [] mets all = All-nil (λ (turn : WorkerNo × Flag). turn.0.0 < workers)
within_met workers (turn ∷ schedule) [] all = All-nil (λ (turn : WorkerNo × Flag). turn.0.0 < workers)
within_met workers (turn ∷ schedule) (met ∷ mets) all =
    let P : WorkerNo × Flag → Type 0 = λ turn. turn.0.0 < workers in
    All-cons P (turn.0, met) (zip (keys_of schedule) mets) (All-head P turn schedule all) (within_met workers schedule mets (All-tail P turn schedule all))

pub leads_to_end : (plan : Plan) (opening : List (Stored Listing)) (limit workers : ℕ) (schedule : List (WorkerNo × Flag)) (state : State) (places : List Place) → IsSound plan → IsTable plan.table → CanOpen tree_size limit opening → IsTrueOpening plan opening → All (λ turn. turn.0.0 < workers) schedule
    → IsRunBy plan opening limit schedule state places → LeadsTo plan workers (opened_state plan opening limit) (λ worker. false) state.log state
leads_to_end plan opening limit workers schedule state places sound table can true_is within by =
    let met = runs_have_logs plan (start plan opening limit) workers (zip (keys_of schedule) by.mets) sound table (true_opens plan opening limit sound table can true_is) (within_met workers schedule by.mets within) in
    let here : LeadsTo plan workers (opened_state plan opening limit) (λ worker. false) met.0 state = subst (λ (s : State). LeadsTo plan workers (opened_state plan opening limit) (λ worker. false) met.0 s) by.is met.1 in
    subst (λ (log : List Entry). LeadsTo plan workers (opened_state plan opening limit) (λ worker. false) log state) (sym here.logs) here
