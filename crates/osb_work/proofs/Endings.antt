-- What the end of all workers leaves.
use Rattle.std.proofs.Common.{◌≡◌, ◌≢◌, ℕ, zero, suc, ◌+◌, ◌<◌, ◌≤◌, ◌==◌, ◌&&◌, inl, inr, Bool, true, false, not, cond, ne_eqb, List, [], ◌∷◌, length, map, Some, slice_set, replicate, refl, sym, ap, subst, ◌∙◌, arith}
use Rattle.std.specs.Prelude.{slice_get}
use Rattle.std.specs.List.{zip}
use Rattle.std.specs.Map.{keys_of}
use Rattle.std.proofs.lemmas.Bool.{false≢true, cases_lt}
use Rattle.std.proofs.lemmas.Option.{slice_get-get_or, slice_get_within}
use Rattle.std.proofs.lemmas.List.{length-replicate, length-set}
use Rattle.osb_tree.specs.Trees.{Listing}
use Rattle.osb_tree.specs.declared.numbers.WorkerNo.{WorkerNo}
use Rattle.osb_recipe.specs.Plans.{IsSound}
use Rattle.osb_recipe.specs.Tables.{IsTable}
use Rattle.osb_recipe.specs.declared.plans.Plan.{Plan}
use Rattle.osb_cache.specs.Caches.{stored_of}
use Rattle.osb_cache.specs.declared.answers.Stored.{Stored}
use Rattle.osb_job.specs.declared.actions.Flag.{Flag}
use Rattle.osb_job.specs.declared.entries.Entry.{Entry}
use Rattle.osb_job.specs.declared.places.Place.{Place}
use Rattle.osb_job.specs.declared.places.Place.TheVariants.{Outside}
use Rattle.osb_job.specs.Scripts.{Block, Progress, idle, busy, over, progress_of}
use Rattle.osb_job.proofs.AgreeingPlaces.{Agrees}
use Rattle.osb_job.proofs.AgreeingTurns.{agrees}
use Rattle.osb_state.specs.States.{State, Allows, gives, after, progress_in, own as own_log}
use Rattle.osb_state.specs.Kept.{Valid}
use Rattle.osb_state.specs.KeptLogs.{IsKeptLog}
use Rattle.osb_state.specs.Filling.{IsAtRest, HasMemory, IsFilled, size_of_all}
use Rattle.osb_state.specs.Openings.{opened_state}
use Rattle.osb_state.specs.RunLogs.{LeadsTo}
use Rattle.osb_state.specs.Runs.{replay as replay_log, run as run_course, Course, change, is_done, IsRunFrom}
use Rattle.osb_state.specs.Schedules.{Runs, IsOpening, IsRunBy, FromTrueOpening, start as start_course}
use Rattle.osb_state.specs.Replies.{IsOfPlan}
use Rattle.osb_state.specs.Truth.{IsTrueOpening}
use Rattle.osb_state.proofs.RunsMade.{begin_at, opening_has, opening_runs}
use Rattle.osb_turn.specs.Histories.{replay, own}
use Rattle.osb_turn.specs.Seats.{AreSeatsOf, Closes}
use Rattle.osb_machine.specs.Finishes.{IsFinished, AreMeantEnds, outcomes_in}
use Rattle.osb_machine.specs.declared.shares.Finished.{Finished}
use Rattle.osb_machine.proofs.RunEnds.{true_end, kept_end, filled_end, are_meant}
use Rattle.osb_machine.proofs.ScheduleLogs.{leads_to_end}
use Rattle.osb_machine.proofs.SerialEnds.{true_entries}
use Rattle.osb_machine.proofs.SerialFinishes.{IsLeft}
use Rattle.osb_machine.proofs.SerialTurns.{limit_turned}
use Rattle.osb_work.specs.Works.{is_ready_for, Turn, Stile, Stool, Goes, Begins, IsAway, HaveEnded}
use Rattle.osb_work.proofs.Interleaving.{HaveCourses, AreRun, are_run}
use Rattle.osb_work.proofs.Turning.{of_plan_along}

-- ---- what a state was opened with

-- every worker's job is at its beginning
pub opens_begin : (plan : Plan) (opening : List (Stored Listing)) (limit : ℕ) (state : State) → Valid state → IsOpening plan opening limit state → Begins plan state
opens_begin plan opening limit state valid opens =
    record {
      valid = valid;
      of_plan = (opening_has plan opening limit 0 state valid opens).of_plan;
      jobs = λ worker.
          let within : worker < length (replicate (worker + 1) Outside) = omega (arith, length-replicate (worker + 1) Outside) in
          let at = slice_get-get_or (replicate (worker + 1) Outside) worker Outside within in
          (opening_has plan opening limit (worker + 1) state valid opens).jobs worker Outside
          (at ∙ ap (λ (p : Place). Some p) (begin_at (worker + 1) worker _ at));
    }

opened_stays : (state : State) (turns : List Turn) → (replay after state turns).opened ≡ state.opened
opened_stays state [] = refl
opened_stays state (turn ∷ turns) = opened_stays (after state turn.worker turn.action) turns

limit_stays : (plan : Plan) (end : State) (ends : List Place) (state : State) (places : List Place) (schedule : List (WorkerNo × Flag)) → Runs plan end ends state places schedule → end.cache.limit ≡ state.cache.limit
limit_stays plan end ends state places schedule Runs.stops = refl
limit_stays plan end ends state places schedule (Runs.goes_on s s' ps place place' worker flag rest at turned runs) =
    limit_stays plan end ends s' (slice_set ps worker.0 place') rest runs ∙ limit_turned plan worker flag s s s' place place' turned refl

-- ---- where all are away

not_busy : (plan : Plan) (place : Place) (progress : Progress) (off : Bool) (block : Block) → IsAway place → Agrees plan place progress off → progress ≢ busy block
not_busy plan place progress off block (inl outside) agree is =
    let same = (subst (λ (p : Place). Agrees plan p progress off) outside agree).0 in
    let both : idle ≡ busy block = sym same ∙ is in
    cc
not_busy plan place progress off block (inr gone) agree is =
    elim (subst (λ (p : Place). Agrees plan p progress off) gone agree) [
      | inl ended ↦ (let both : over ≡ busy block = sym ended ∙ is in cc)
      | inr left ↦ (let both : idle ≡ busy block = sym left.0 ∙ is in cc)
    ]

-- ---- workers and places

lengths_stay : (plan : Plan) (end : State) (ends : List Place) (state : State) (places : List Place) (schedule : List (WorkerNo × Flag)) → Runs plan end ends state places schedule → length ends ≡ length places
lengths_stay plan end ends state places schedule Runs.stops = refl
lengths_stay plan end ends state places schedule (Runs.goes_on s s' ps place place' worker flag rest at turned runs) =
    lengths_stay plan end ends s' (slice_set ps worker.0 place') rest runs ∙ length-set ps worker.0 place'

not_own : (b : Bool) (entry : Entry) (entries : List Entry) → b ≡ false → entries ≡ [] → cond b (entry ∷ entries) entries ≡ []
not_own true entry entries other none = absurd (false≢true (sym other))
not_own false entry entries other none = none

-- a run has no entries of other workers
others_none : (plan : Plan) (workers : ℕ) (state : State) (refused : ℕ → Bool) (log : List Entry) (worker : ℕ) → workers ≤ worker → IsRunFrom plan workers state refused log → own_log worker log ≡ []
others_none plan workers state refused log other above (IsRunFrom.ends s r) = refl
others_none plan workers state refused log other above (IsRunFrom.goes_on s r action entry left few is noted runs) =
    not_own (entry.worker.0 == other) entry (own_log other left) (ne_eqb entry.worker.0 other (λ same. absurd (omega arith)))
    (others_none plan workers (after s entry.worker action) (change r entry.worker (not (is_done action) && r entry.worker.0)) left other above runs)
others_none plan workers state refused log other above (IsRunFrom.gives_up s r by left runs) = others_none plan workers s (change r by true) left other above runs

found_at : {A : Type 0} (xs : List A) (place : ℕ) → place < length xs → (x : A) × (slice_get xs place ≡ Some x)
found_at [] place within = absurd (omega arith)
found_at (x ∷ xs) zero within = (x, refl)
found_at (x ∷ xs) (suc place) within = found_at xs place (omega arith)

-- ---- the end of all workers

-- the courses of the workers to their ends, along the history of a turnstile that was closed
pub ended_run : (plan : Plan) (turnstile : Stile) (seats : List Stool) (state : State) → length seats ≡ turnstile.workers → ((number : ℕ) (seat : Stool) → slice_get seats number ≡ Some seat → seat.worker.0 ≡ number) → HaveEnded plan seats → Closes gives after is_ready_for Allows turnstile seats state
    → AreRun plan turnstile.opening state (replicate turnstile.workers Outside) turnstile.workers
ended_run plan turnstile seats state count numbers ended closes =
    let workers : ℕ = turnstile.workers in
    let courses : HaveCourses plan (replicate workers Outside) closes.history =
    λ number place at.
    let within : number < length seats = (let w = slice_get_within (replicate workers Outside) number place at in omega (arith, w, length-replicate workers Outside, count)) in
    let found = found_at seats number within in
    let seat : Stool = found.0 in
    let mine = ended number seat found.1 in
    let who : seat.worker ≡ record { 0 = number } = ap (λ (n : ℕ). let w : WorkerNo = record { 0 = n } in w) (numbers number seat found.1) in
    record {
      last = mine.last;
      goes = subst (λ (p : Place). Goes plan (record { 0 = number }) mine.last p (own number closes.history)) (sym (begin_at workers number place at))
          (subst (λ (ts : List Turn). Goes plan (record { 0 = number }) mine.last Outside ts) (closes.mine number seat found.1)
          (subst (λ (w : WorkerNo). Goes plan w mine.last Outside seat.mine) who mine.goes));
      away = mine.away;
    } in
    subst (λ (s : State). AreRun plan turnstile.opening s (replicate workers Outside) workers) (sym closes.ends)
    (are_run plan turnstile.opening closes.history (replicate workers Outside) workers (length-replicate workers Outside) closes.played closes.workers courses)

pub ended_opened : (turnstile : Stile) (seats : List Stool) (state : State) → Closes gives after is_ready_for Allows turnstile seats state → state.opened ≡ turnstile.opening.opened
ended_opened turnstile seats state closes = ap (λ (s : State). s.opened) closes.ends ∙ opened_stays turnstile.opening closes.history

module _ (plan : Plan) (workers : ℕ) (start state : State) (sound : IsSound plan) (table : IsTable plan.table) (valid : Valid start) (run : AreRun plan start state (replicate workers Outside) workers) where
  pub ended_limit : state.cache.limit ≡ start.cache.limit
  ended_limit = limit_stays plan state run.ends start (replicate workers Outside) run.schedule run.runs

  run_by : FromTrueOpening plan start (λ opening limit. IsRunBy plan opening limit run.schedule state run.ends)
  run_by opening limit opens true_is =
      opening_runs plan opening limit workers run.schedule start state run.ends sound table (opening_has plan opening limit workers start valid opens) run.runs opens true_is

  leads : FromTrueOpening plan start (λ opening limit. LeadsTo plan workers (opened_state plan opening limit) (λ worker. false) state.log state)
  leads opening limit opens true_is = leads_to_end plan opening limit workers run.schedule state run.ends sound table opens.can_open true_is run.within (run_by opening limit opens true_is)

  module _ (opening : List (Stored Listing)) (limit : ℕ) (opens : IsOpening plan opening limit start) (true_is : IsTrueOpening plan opening) where
    rests_own : (worker : ℕ) (block : Block) → worker < workers → progress_of (own_log worker state.log) ≢ busy block
    rests_own worker block within is =
        let by = run_by opening limit opens true_is in
        let many = lengths_stay plan state run.ends start (replicate workers Outside) run.schedule run.runs in
        let found = found_at run.ends worker (omega (arith, many, length-replicate workers Outside)) in
        let course : Course = run_course plan (start_course plan opening limit) (zip (keys_of run.schedule) by.mets) in
        let agree = agrees plan found.0 (progress_in course.state (record { 0 = worker })) (course.refused worker) sound table (by.goes.jobs worker found.0 found.1) in
        not_busy plan found.0 (progress_in course.state (record { 0 = worker })) (course.refused worker) block (run.away worker found.0 found.1) agree
        (ap (λ (s : State). progress_in s (record { 0 = worker })) by.is ∙ is)

    rests : IsAtRest state.log
    rests worker block is =
        elim (cases_lt worker workers) [
          | inl within ↦ rests_own worker block within is
          | inr above ↦
              let none = others_none plan workers (opened_state plan opening limit) (λ number. false) state.log worker above (leads opening limit opens true_is).runs in
              let same : progress_of [] ≡ busy block = ap progress_of (sym none) ∙ is in
              cc
        ]

  module _ (opened : state.opened ≡ start.opened) (finished : Finished) (left : IsLeft state finished) where
    pub ended_finished : FromTrueOpening plan start (λ opening limit. IsFinished plan opening limit workers finished)
    ended_finished opening limit opens true_is =
        let led = leads opening limit opens true_is in
        let first : State = opened_state plan opening limit in
        let replays : state ≡ replay_log plan first finished.log = sym led.replays ∙ ap (λ (entries : List Entry). replay_log plan first entries) (sym left.log) in
        record {
          runs = subst (IsRunFrom plan workers first (λ worker. false)) (sym left.log) led.runs;
          rest = subst IsAtRest (sym left.log) (rests opening limit opens true_is);
          outcomes = left.outcomes ∙ ap (λ (s : State). outcomes_in s) replays;
          entries = left.entries ∙ ap (λ (s : State). map stored_of s.cache.lines) replays;
          opened = left.opened ∙ opened ∙ ap (λ (s : State). s.opened) opens.is;
        }

    pub ended_kept : FromTrueOpening plan start (λ opening limit. IsKeptLog plan opening limit finished.log)
    ended_kept opening limit opens true_is = subst (IsKeptLog plan opening limit) (sym left.log) (kept_end plan opening limit workers state sound table opens.can_open true_is (leads opening limit opens true_is))

    pub ended_meant : FromTrueOpening plan start (λ opening limit. AreMeantEnds plan finished.outcomes)
    ended_meant opening limit opens true_is =
        subst (AreMeantEnds plan) (sym left.outcomes) (are_meant plan state (true_end plan opening limit workers state sound table opens.can_open true_is (leads opening limit opens true_is)).ends)

    pub ended_true : FromTrueOpening plan start (λ opening limit. IsTrueOpening plan finished.entries)
    ended_true opening limit opens true_is =
        subst (IsTrueOpening plan) (sym left.entries) (true_entries plan state (true_end plan opening limit workers state sound table opens.can_open true_is (leads opening limit opens true_is)))

    pub ended_filled : FromTrueOpening plan start (λ opening limit. size_of_all plan opening ≤ limit → HasMemory finished.log → IsFilled plan opening limit finished.log)
    ended_filled opening limit opens true_is small memory =
        subst (IsFilled plan opening limit) (sym left.log)
        (filled_end plan opening limit workers state sound table opens.can_open true_is (leads opening limit opens true_is) small (subst HasMemory left.log memory) (rests opening limit opens true_is))

-- ---- for a call

module _ (plan : Plan) (turnstile : Stile) (seats : List Stool) (start state : State) (workers : ℕ) (opens : turnstile.opening ≡ start) (all : turnstile.workers ≡ workers) (closes : Closes gives after is_ready_for Allows turnstile seats state) where
  pub crew_run : AreSeatsOf gives after is_ready_for Allows turnstile seats → HaveEnded plan seats → AreRun plan start state (replicate workers Outside) workers
  crew_run are ended =
      subst (λ (n : ℕ). AreRun plan start state (replicate n Outside) n) all
      (subst (λ (s : State). AreRun plan s state (replicate turnstile.workers Outside) turnstile.workers) opens
      (ended_run plan turnstile seats state are.count (λ number seat at. (are.each number seat at).1) ended closes))

  pub crew_opened : state.opened ≡ start.opened
  crew_opened = ended_opened turnstile seats state closes ∙ ap (λ (s : State). s.opened) opens

  pub crew_keys : IsOfPlan plan start → state.keys ≡ length plan.table.recipes
  crew_keys of_plan =
      ap (λ (s : State). s.keys) closes.ends ∙ (of_plan_along plan turnstile.opening closes.history (subst (IsOfPlan plan) (sym opens) of_plan)).keys
