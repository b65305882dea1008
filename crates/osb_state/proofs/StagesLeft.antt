-- How many stages are left to a job, by its place, and that a run of stages takes no more than those that it leaves behind.
use Rattle.std.proofs.Common.{◌≡◌, arith, ℕ, ◌+◌, ◌≤◌, Bool, true, false, not, List, [], ◌∷◌, drop, Option, Some, None, Result, Ok, Err, refl, sym, ap, ◌∙◌, subst}
use Rattle.std.specs.Prelude.{is_none, if◌then◌else◌}
use Rattle.std.specs.List.{list_any, list_all}
use Rattle.std.specs.Result.{result_ok}
use Rattle.std.proofs.lemmas.Bool.{not-false, or_parts, and_from, cond_both}
use Rattle.osb_tree.specs.Trees.{Listing}
use Rattle.osb_tree.specs.declared.numbers.Key.{Key}
use Rattle.osb_tree.specs.declared.faults.StageFault.{StageFault}
use Rattle.osb_recipe.specs.Works.{Work, input_trees, does}
use Rattle.osb_recipe.specs.Tables.{IsTable}
use Rattle.osb_recipe.specs.Meanings.{meaning, meant}
use Rattle.osb_recipe.specs.Plans.{has_key}
use Rattle.osb_recipe.specs.declared.references.TreeRef.{TreeRef}
use Rattle.osb_recipe.specs.declared.references.TreeRef.TheVariants.{Of}
use Rattle.osb_recipe.specs.declared.outcomes.Outcome.{Outcome}
use Rattle.osb_recipe.specs.declared.plans.Plan.{Plan}
use Rattle.osb_tasks.specs.Running.{work_found}
use Rattle.osb_tasks.specs.Stages.{made_of, one_if_ok, steps_of, steps_at}
use Rattle.osb_tasks.specs.declared.stages.Made.{Made}
use Rattle.osb_job.specs.declared.places.Setup.{Setup}
use Rattle.osb_job.specs.declared.places.Place.{Place}
use Rattle.osb_job.specs.declared.places.Place.TheVariants.{Outside, Reserving, Filling, Putting, Unpinning, Dropping, Ending, Ended}
use Rattle.osb_job.specs.Scripts.{Progress, idle, busy, over, chain_at, marked_at}
use Rattle.osb_job.specs.Jobs.{Turn, still, after_steps, run_on, run_from, refused}
use Rattle.osb_job.proofs.ChainRests.{IsRest, rest-made_at, rest-means, rest-next}
use Rattle.osb_job.proofs.AgreeingRuns.{next_place}
use Rattle.osb_job.proofs.StageRuns.{behind}
use Rattle.osb_state.specs.Spent.{stages_up_to, stages_in, IsSpent}

-- ---- what may be spent

-- the most stages of a worker that is so far
abbrev pub most_of : Plan → Progress → ℕ
most_of plan idle = 0
most_of plan (busy block) = stages_in plan block
most_of plan over = 0

-- those that are left at a place: all of so many, before the first is run, and then those of the keys behind it
abbrev pub left_at : Plan → ℕ → Place → ℕ
left_at plan most (Reserving setup key tree run) = stages_up_to plan (drop run (chain_at plan setup.task))
left_at plan most (Filling setup key tree run parts) = stages_up_to plan (drop run (chain_at plan setup.task))
left_at plan most (Putting setup key tree run parts) = stages_up_to plan (drop run (chain_at plan setup.task))
left_at plan most (Unpinning task key) = 0
left_at plan most (Dropping task key) = 0
left_at plan most (Ending task outcome) = 0
left_at plan most Ended = 0
left_at plan most place = most

-- with those that were run they are no more than all
abbrev pub IsWithin : Plan → Place → Progress → ℕ → Type 0
IsWithin plan place progress steps = steps + left_at plan (most_of plan progress) place ≤ most_of plan progress

pub spent-from_within : (plan : Plan) (place : Place) (progress : Progress) (steps : ℕ) → IsWithin plan place progress steps → IsSpent plan progress steps
spent-from_within plan place idle steps within = omega arith
spent-from_within plan place (busy block) steps within = omega arith
spent-from_within plan place over steps within = omega arith

left-refused : (plan : Plan) (most : ℕ) (place : Place) → left_at plan most (refused place) ≤ left_at plan most place
left-refused plan most Outside = omega arith
left-refused plan most place = omega arith

-- memory that is refused leaves no more
pub within-refused : (plan : Plan) (place : Place) (progress : Progress) (steps : ℕ) → IsWithin plan place progress steps → IsWithin plan (refused place) progress steps
within-refused plan place progress steps within = omega (arith, left-refused plan (most_of plan progress) place)

-- ---- the stages of a block

pub list_all-from_list_any : {X : Type 0} (p : X → Bool) (xs : List X) → list_any (λ x. not (p x)) xs ≡ false → list_all p xs ≡ true
list_all-from_list_any p [] none = refl
list_all-from_list_any {X} p (x ∷ xs) none =
    let parts = or_parts (not (p x)) (list_any (λ (y : X). not (p y)) xs) none in
    and_from (p x) (list_all p xs) (not-false (p x) parts.0) (list_all-from_list_any p xs parts.1)

-- ---- runs of stages

-- a turn takes no more than so many stages, with those that it leaves
abbrev pub Takes : Plan → ℕ → Turn → ℕ → Type 0
Takes plan most next count = next.steps + left_at plan most next.place ≤ count

one_if_ok-le : {A E : Type 0} (made : Result A E) → one_if_ok made ≤ 1
one_if_ok-le (Ok value) = omega arith
one_if_ok-le (Err error) = omega arith

steps_of-le : (work : Option Work) → steps_of work ≤ 1
steps_of-le None = omega arith
steps_of-le (Some work) = one_if_ok-le (input_trees work.inputs)

more_steps : (plan : Plan) (most steps : ℕ) (next : Turn) (count : ℕ) → steps ≤ 1 → Takes plan most next count → Takes plan most (after_steps steps next) (1 + count)
more_steps plan most steps next count one takes = omega arith

-- the stages of a chain from a key that has a tree, or any, on
stages-tree : (plan : Plan) (key : Key) (keys : List Key) (tree : Listing) → meaning plan.table key ≡ Some tree → stages_up_to plan (key ∷ keys) ≡ 1 + stages_up_to plan keys
stages-tree plan key keys tree means = ap (λ (there : Option Listing). 1 + (if is_none there then 0 else stages_up_to plan keys)) means

pub run_takes : (plan : Plan) (most : ℕ) (setup : Setup) (run : ℕ) (tree : Listing) (base : TreeRef) (rest : List Key) → IsTable plan.table → drop run (chain_at plan setup.task) ≡ rest → IsRest plan.table setup.trees (meant plan.table (chain_at plan setup.task)) run tree base rest
    → Takes plan most (run_on plan setup run tree rest) (stages_up_to plan rest)
run_takes plan most setup run tree base [] is here at = omega arith
run_takes plan most setup run tree base (key ∷ keys) is here at =
    subst (λ (made : Made). Takes plan most (after_steps (steps_at setup.trees plan.table key) (behind plan setup run key keys made)) (stages_up_to plan (key ∷ keys)))
    (sym (rest-made_at plan.table setup.trees means run tree base key keys at))
    (by (does at.stages.0.value tree) refl (λ next past. run_takes plan most setup (run + 1) next (Of key) keys is after past))
  where
    means : Outcome
    means = meant plan.table (chain_at plan setup.task)

    after : drop (run + 1) (chain_at plan setup.task) ≡ keys
    after = next_place (chain_at plan setup.task) run key keys here

    one : steps_at setup.trees plan.table key ≤ 1
    one = steps_of-le (work_found setup.trees plan.table.blobs plan.table.recipes key)

    by : (result : Result Listing StageFault) → does at.stages.0.value tree ≡ result
        → ((next : Listing) → IsRest plan.table setup.trees means (run + 1) next (Of key) keys → Takes plan most (run_on plan setup (run + 1) next keys) (stages_up_to plan keys))
        → Takes plan most (after_steps (steps_at setup.trees plan.table key) (behind plan setup run key keys (made_of (Some result)))) (stages_up_to plan (key ∷ keys))
    by (Ok next) made goes =
        let has : meaning plan.table key ≡ Some next = rest-means plan.table setup.trees means run tree base key keys at is ∙ ap result_ok made in
        let past = rest-next plan.table setup.trees means run tree base key keys at is next made in
        let choice = if has_key (marked_at plan setup.task) key then still (Reserving setup key next (run + 1)) else run_on plan setup (run + 1) next keys in
        let takes : Takes plan most choice (stages_up_to plan keys) =
        cond_both (has_key (marked_at plan setup.task) key) (still (Reserving setup key next (run + 1))) (run_on plan setup (run + 1) next keys) (λ (turn : Turn). Takes plan most turn (stages_up_to plan keys))
        (λ marked. let same = ap (stages_up_to plan) after in omega arith) (λ unmarked. goes next past) in
        subst (Takes plan most (after_steps (steps_at setup.trees plan.table key) choice)) (sym (stages-tree plan key keys next has))
        (more_steps plan most (steps_at setup.trees plan.table key) choice (stages_up_to plan keys) one takes)
    by (Err fault) made goes = omega (arith, one)

-- from a place of the chain on
pub run_from_takes : (plan : Plan) (most : ℕ) (setup : Setup) (run : ℕ) (tree : Listing) (base : TreeRef) (rest : List Key) → IsTable plan.table → drop run (chain_at plan setup.task) ≡ rest → IsRest plan.table setup.trees (meant plan.table (chain_at plan setup.task)) run tree base rest
    → Takes plan most (run_from plan setup run tree) (stages_up_to plan (drop run (chain_at plan setup.task)))
run_from_takes plan most setup run tree base rest is here at =
    subst (λ (keys : List Key). Takes plan most (run_on plan setup run tree keys) (stages_up_to plan keys)) (sym here) (run_takes plan most setup run tree base rest is here at)
