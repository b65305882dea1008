-- What a schedule that is run comes to.
use Rattle.std.proofs.Common.{◌≡◌, ℕ, zero, suc, ◌+◌, ◌<◌, ◌++◌, length-append, get_or, List, [], ◌∷◌, map, replicate, Option, Some, slice_set, refl, sym, ap, subst, ◌∙◌}
use Rattle.std.specs.Prelude.{slice_get, length, option_map}
use Rattle.std.specs.List.{zip}
use Rattle.std.specs.Map.{keys_of}
use Rattle.std.proofs.lemmas.Option.{none-some, same_Some, slice_get-map, slice_get-get_or}
use Rattle.std.proofs.lemmas.List.{map-set, map-append, replicate_more}
use Rattle.osb_tree.specs.Trees.{Listing}
use Rattle.osb_tree.specs.declared.numbers.TaskNo.{TaskNo}
use Rattle.osb_tree.specs.declared.numbers.WorkerNo.{WorkerNo}
use Rattle.osb_recipe.specs.Plans.{IsSound}
use Rattle.osb_recipe.specs.Tables.{IsTable}
use Rattle.osb_recipe.specs.declared.plans.Plan.{Plan}
use Rattle.osb_board.specs.declared.tasks.Task.{Task}
use Rattle.osb_board.specs.Boards.{new_board}
use Rattle.osb_cache.specs.declared.answers.Stored.{Stored}
use Rattle.osb_job.specs.declared.actions.Action.{Action}
use Rattle.osb_job.specs.declared.actions.Flag.{Flag}
use Rattle.osb_job.specs.declared.places.Place.{Place}
use Rattle.osb_job.specs.declared.places.Place.TheVariants.{Outside}
use Rattle.osb_job.specs.Jobs.{JobState}
use Rattle.osb_job.specs.Moves.{Follows, Lives}
use Rattle.osb_job.proofs.AgreeingTurns.{wants_what_is_next}
use Rattle.osb_state.specs.States.{State, progress_in, part}
use Rattle.osb_state.specs.Kept.{Valid}
use Rattle.osb_state.specs.Replies.{IsOfPlan}
use Rattle.osb_state.specs.Runs.{Course, step, run}
use Rattle.osb_state.specs.Openings.{opened_state}
use Rattle.osb_state.specs.Truth.{IsTrueOpening}
use Rattle.osb_state.specs.Turns.{HasJob, HasJobs, GoesBy}
use Rattle.osb_state.specs.Schedules.{Counts, Turned, Runs, stops, goes_on, CountAlong, start, IsOpening, IsRunBy, HaveNumbers, places_of}
use Rattle.osb_state.proofs.JobsKept.{jobs_stay}
use Rattle.osb_state.proofs.TurnSteps.{turns_are_steps}
use Rattle.osb_state.proofs.TrueOpenings.{true_opens}

-- ---- over every opening

pub turned_has : (plan : Plan) (worker : WorkerNo) (flag : Flag) (state state' : State) (places : List Place) (place place' : Place) → IsSound plan → IsTable plan.table → HasJobs plan state places → slice_get places worker.0 ≡ Some place → Turned plan worker flag state state' place place'
    → HasJobs plan state' (slice_set places worker.0 place')
turned_has plan worker flag state state' places place place' sound table has at turned = jobs_stay plan worker turned.met state state' places place place' sound table has at turned.turns

-- ---- over a true one

-- from a course, the rest of it under the flags that are met
record IsRunOn (plan : Plan) (course : Course) (schedule : List (WorkerNo × Flag)) (end : State) (last : List Place) : Type 0 where
  mets : List Flag
  counts : CountAlong plan course schedule mets
  is : (run plan course (zip (keys_of schedule) mets)).state ≡ end
  goes : GoesBy plan (run plan course (zip (keys_of schedule) mets)) last

run_on : (plan : Plan) (end : State) (last : List Place) → IsSound plan → IsTable plan.table → (state : State) (places : List Place) (schedule : List (WorkerNo × Flag)) → Runs plan end last state places schedule → HasJobs plan state places
    → (course : Course) → course.state ≡ state → GoesBy plan course places → IsRunOn plan course schedule end last
run_on plan end last sound table state places schedule stops has course same goes = record { mets = []; counts = tt; is = same; goes = goes }
run_on plan end last sound table state places schedule (goes_on s s' ps place place' worker flag rest at turned runs) has course same goes =
    let here : HasJobs plan course.state places = subst (λ (x : State). HasJobs plan x places) (sym same) has in
    let turn : Turned plan worker flag course.state s' place place' = subst (λ (x : State). Turned plan worker flag x s' place place') (sym same) turned in
    let stepped = turns_are_steps plan worker turn.met course s' places place place' sound table here goes at turn.turns in
    let next = run_on plan end last sound table s' (slice_set places worker.0 place') rest runs (turned_has plan worker flag state s' places place place' sound table has at turned) (step plan course (worker, turn.met)) stepped.0 stepped.1 in
    let wanted = wants_what_is_next plan place (progress_in course.state worker) (course.refused worker.0) sound table (goes.jobs worker.0 place at) in
    record {
      mets = turn.met ∷ next.mets;
      counts = (subst (λ (w : Option Action). Counts w flag turn.met) wanted turn.counts, next.counts);
      is = next.is;
      goes = next.goes;
    }

-- ---- where jobs begin

deps-new_board : (O : Type 0) (deps : List (List TaskNo)) → map (λ (task : Task O). task.deps) (new_board deps) ≡ deps
deps-new_board O [] = refl
deps-new_board O (list ∷ deps) = ap (λ (rest : List (List TaskNo)). list ∷ rest) (deps-new_board O deps)

pub begin_at : (workers : ℕ) (number : ℕ) (place : Place) → slice_get (replicate workers Outside) number ≡ Some place → place ≡ Outside
begin_at zero number place at = absurd (none-some place at)
begin_at (suc workers) zero place at = sym (same_Some Outside place at)
begin_at (suc workers) (suc number) place at = begin_at workers number place at

pub opening_has : (plan : Plan) (opening : List (Stored Listing)) (limit : ℕ) (workers : ℕ) (state : State) → Valid state → IsOpening plan opening limit state → HasJobs plan state (replicate workers Outside)
opening_has plan opening limit workers state valid opens =
    let of_plan : IsOfPlan plan state = subst (IsOfPlan plan) (sym opens.is) (record { deps = deps-new_board _ (map (λ task. task.deps) plan.tasks); marked = refl; keys = refl }) in
    record {
      valid = valid;
      of_plan = of_plan;
      jobs = λ worker place at. subst (HasJob plan state worker) (sym (begin_at workers worker place at)) (record {
        asks = tt;
        same = tt;
        is = tt;
        lives = subst (λ (s : State). Lives plan (record { 0 = worker }) Outside (part s (record { 0 = worker }))) (sym opens.is)
            (Lives.begins (part (opened_state plan opening limit) (record { 0 = worker })) (record { deps = deps-new_board _ (map (λ task. task.deps) plan.tasks); keys = refl; mine = refl; draft = refl; chunks = refl }));
      });
    }

pub opening_runs : (plan : Plan) (opening : List (Stored Listing)) (limit : ℕ) (workers : ℕ) (schedule : List (WorkerNo × Flag)) (state end : State) (last : List Place) → IsSound plan → IsTable plan.table → HasJobs plan state (replicate workers Outside) → Runs plan end last state (replicate workers Outside) schedule
    → IsOpening plan opening limit state → IsTrueOpening plan opening → IsRunBy plan opening limit schedule end last
opening_runs plan opening limit workers schedule state end last sound table has runs opens true_is =
    let course = start plan opening limit in
    let goes : GoesBy plan course (replicate workers Outside) = record {
      true_is = true_opens plan opening limit sound table opens.can_open true_is;
      jobs = λ worker place at. subst (λ (p : Place). Follows plan p (progress_in course.state (record { 0 = worker })) (course.refused worker)) (sym (begin_at workers worker place at)) Follows.begins;
    } in
    let whole = run_on plan end last sound table state (replicate workers Outside) schedule runs has course (sym opens.is) goes in
    record { mets = whole.mets; counts = whole.counts; is = whole.is; goes = whole.goes }

-- ---- one turn of the loop

all_set : {X : Type 0} → (P : ℕ → X → Type 0) (xs : List X) (n : ℕ) (x : X) → ((k : ℕ) (y : X) → slice_get xs k ≡ Some y → P k y) → P n x → (k : ℕ) (y : X) → slice_get (slice_set xs n x) k ≡ Some y → P k y
all_set P [] n x all mine k y at = all k y at
all_set P (first ∷ xs) zero x all mine zero y at = subst (P 0) (same_Some x y at) mine
all_set P (first ∷ xs) zero x all mine (suc k) y at = all (suc k) y at
all_set P (first ∷ xs) (suc n) x all mine zero y at = all zero y at
all_set P (first ∷ xs) (suc n) x all mine (suc k) y at = all_set (λ (i : ℕ). P (suc i)) xs n x (λ i. all (suc i)) mine k y at

pub places-set : (jobs : List JobState) (number : ℕ) (job : JobState) → places_of (slice_set jobs number job) ≡ slice_set (places_of jobs) number job.place
places-set jobs number job = map-set (λ (j : JobState). j.place) jobs number job

pub job_number : (jobs : List JobState) (number : ℕ) (d : JobState) → HaveNumbers jobs → number < length jobs → (get_or jobs number d).worker.0 ≡ number
job_number jobs number d numbers within = numbers number (get_or jobs number d) (slice_get-get_or jobs number d within)

pub place_at : (jobs : List JobState) (number : ℕ) (d : JobState) → number < length jobs → slice_get (places_of jobs) number ≡ Some (get_or jobs number d).place
place_at jobs number d within = slice_get-map (λ (j : JobState). j.place) jobs number ∙ ap (λ (o : Option JobState). option_map (λ (j : JobState). j.place) o) (slice_get-get_or jobs number d within)

pub job_here : (plan : Plan) (state : State) (jobs : List JobState) (number : ℕ) (d : JobState) → HaveNumbers jobs → HasJobs plan state (places_of jobs) → number < length jobs → HasJob plan state (get_or jobs number d).worker.0 (get_or jobs number d).place
job_here plan state jobs number d numbers has within =
    subst (λ (n : ℕ). HasJob plan state n (get_or jobs number d).place) (sym (job_number jobs number d numbers within)) (has.jobs number (get_or jobs number d).place (place_at jobs number d within))

pub numbers_stay : (jobs : List JobState) (number : ℕ) (d job : JobState) → HaveNumbers jobs → number < length jobs → job.worker ≡ (get_or jobs number d).worker → HaveNumbers (slice_set jobs number job)
numbers_stay jobs number d job numbers within same =
    all_set (λ (n : ℕ) (j : JobState). j.worker.0 ≡ n) jobs number job numbers (ap (λ (w : WorkerNo). w.0) same ∙ job_number jobs number d numbers within)

module _ (plan : Plan) (state state' : State) (jobs : List JobState) (worker : WorkerNo) (d job : JobState) (flag : Flag) (numbers : HaveNumbers jobs) (within : worker.0 < length jobs)
    (turned : Turned plan (get_or jobs worker.0 d).worker flag state state' (get_or jobs worker.0 d).place job.place) where
  turned_here : Turned plan worker flag state state' (get_or jobs worker.0 d).place job.place
  turned_here =
      let same : (get_or jobs worker.0 d).worker ≡ worker = ap (λ (n : ℕ). let w : WorkerNo = record { 0 = n } in w) (job_number jobs worker.0 d numbers within) in
      subst (λ (w : WorkerNo). Turned plan w flag state state' (get_or jobs worker.0 d).place job.place) same turned

  pub jobs_on : IsSound plan → IsTable plan.table → HasJobs plan state (places_of jobs) → HasJobs plan state' (places_of (slice_set jobs worker.0 job))
  jobs_on sound table has =
      subst (HasJobs plan state') (sym (places-set jobs worker.0 job))
      (turned_has plan worker flag state state' (places_of jobs) (get_or jobs worker.0 d).place job.place sound table has (place_at jobs worker.0 d within) turned_here)

  pub runs_on : (end : State) (last : List Place) (schedule rest : List (WorkerNo × Flag)) → schedule ≡ (worker, flag) ∷ rest → Runs plan end last state' (places_of (slice_set jobs worker.0 job)) rest → Runs plan end last state (places_of jobs) schedule
  runs_on end last schedule rest is runs =
      subst (Runs plan end last state (places_of jobs)) (sym is)
      (goes_on state state' (places_of jobs) (get_or jobs worker.0 d).place job.place worker flag rest (place_at jobs worker.0 d within) turned_here
      (subst (λ (ps : List Place). Runs plan end last state' ps rest) (places-set jobs worker.0 job) runs))

-- ---- new jobs

all_push : {X : Type 0} → (P : ℕ → X → Type 0) (xs : List X) (x : X) → ((k : ℕ) (y : X) → slice_get xs k ≡ Some y → P k y) → P (length xs) x → (k : ℕ) (y : X) → slice_get (xs ++ x ∷ []) k ≡ Some y → P k y
all_push P [] x all mine zero y at = subst (P 0) (same_Some x y at) mine
all_push P [] x all mine (suc k) y at = absurd (none-some y at)
all_push P (first ∷ xs) x all mine zero y at = all zero y at
all_push P (first ∷ xs) x all mine (suc k) y at = all_push (λ (i : ℕ). P (suc i)) xs x (λ i. all (suc i)) mine k y at

pub numbers_push : (jobs jobs' : List JobState) (job : JobState) (n : ℕ) → jobs' ≡ jobs ++ job ∷ [] → HaveNumbers jobs → length jobs ≡ n → job.worker ≡ record { 0 = n } → HaveNumbers jobs'
numbers_push jobs jobs' job n is numbers count same =
    subst HaveNumbers (sym is) (all_push (λ (k : ℕ) (j : JobState). j.worker.0 ≡ k) jobs job numbers (ap (λ (w : WorkerNo). w.0) same ∙ sym count))

pub places_push : (jobs jobs' : List JobState) (job : JobState) (n : ℕ) → jobs' ≡ jobs ++ job ∷ [] → places_of jobs ≡ replicate n Outside → job.place ≡ Outside → places_of jobs' ≡ replicate (n + 1) Outside
places_push jobs jobs' job n is places outside =
    ap (λ (js : List JobState). places_of js) is
    ∙ map-append (λ (j : JobState). j.place) jobs (job ∷ [])
    ∙ ap (λ (ps : List Place). ps ++ job.place ∷ []) places
    ∙ ap (λ (p : Place). replicate n Outside ++ p ∷ []) outside
    ∙ replicate_more n Outside

pub length_push : (jobs jobs' : List JobState) (job : JobState) (n : ℕ) → jobs' ≡ jobs ++ job ∷ [] → length jobs ≡ n → length jobs' ≡ n + 1
length_push jobs jobs' job n is count = ap (λ (js : List JobState). length js) is ∙ (length-append jobs (job ∷ []) ∙ ap (λ (k : ℕ). k + 1) count)
