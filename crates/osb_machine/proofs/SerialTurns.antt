-- The turns of one worker, one after the other.
use Rattle.std.proofs.Common.{◌≡◌, ℕ, ◌+◌, ◌-◌, ◌≤◌, List, [], ◌∷◌, refl, sym, ap, subst, ◌∙◌, arith}
use Rattle.osb_tree.specs.Trees.{Listing}
use Rattle.osb_tree.specs.declared.numbers.Key.{Key}
use Rattle.osb_tree.specs.declared.numbers.WorkerNo.{WorkerNo}
use Rattle.osb_recipe.specs.Plans.{IsSound}
use Rattle.osb_recipe.specs.Tables.{IsTable}
use Rattle.osb_recipe.specs.declared.plans.Plan.{Plan}
use Rattle.osb_cache.specs.Caches.{CacheState, look_reply, after_look, reserve_reply, after_reserve}
use Rattle.osb_cache.specs.declared.answers.Look.{Look}
use Rattle.osb_cache.specs.declared.answers.Look.TheVariants as looks
use Rattle.osb_cache.specs.declared.answers.Reserve.{Reserve}
use Rattle.osb_cache.specs.declared.answers.Reserve.TheVariants as reserves
use Rattle.osb_job.specs.declared.actions.Action.{Action}
use Rattle.osb_job.specs.declared.actions.Action.TheVariants as actions
use Rattle.osb_job.specs.declared.actions.Flag.{Flag}
use Rattle.osb_job.specs.declared.actions.Flag.TheVariants.{Fine, ActRefused, WorkRefused}
use Rattle.osb_job.specs.declared.places.Place.{Place}
use Rattle.osb_job.specs.declared.places.Place.TheVariants.{Outside}
use Rattle.osb_job.specs.Jobs.{JobState}
use Rattle.osb_state.specs.States.{State, cache_after, marked_for}
use Rattle.osb_state.specs.Turns.{Acts, Turns, ended, idles, acts, HasJob, HasJobs}
use Rattle.osb_state.specs.Schedules.{Turned}
use Rattle.osb_state.specs.Serial.{Goes, RunsStages, first_worker}
use Rattle.osb_state.proofs.RunsMade.{turned_has}

-- ---- the limit of the cache

limit-look : (cache : CacheState Listing) (worker : ℕ) (look : Look) → (after_look cache worker look).limit ≡ cache.limit
limit-look cache worker (looks.Hit place key count) = refl
limit-look cache worker looks.Miss = refl

limit-reserve : (cache : CacheState Listing) (worker key size count : ℕ) (reserve : Reserve) → (after_reserve cache worker key size count reserve).limit ≡ cache.limit
limit-reserve cache worker key size count (reserves.Room evicted) = refl
limit-reserve cache worker key size count reserve = refl

limit_stays : (cache : CacheState Listing) (marked : List Key) (worker : WorkerNo) (action : Action) → (cache_after cache marked worker action).limit ≡ cache.limit
limit_stays cache marked worker (actions.Look task) = limit-look cache worker.0 (look_reply cache marked)
limit_stays cache marked worker (actions.Reserve key size count) = limit-reserve cache worker.0 key.0 size count (reserve_reply cache key.0 size)
limit_stays cache marked worker action = refl

limit_acts : (plan : Plan) (worker : WorkerNo) (flag : Flag) (state state' : State) (place place' : Place) (action : Action) → Acts plan worker flag state state' place place' action → state'.cache.limit ≡ state.cache.limit
limit_acts plan worker Fine state state' place place' action plays = ap (λ (s : State). s.cache.limit) plays.state_is ∙ limit_stays state.cache (marked_for state action) worker action
limit_acts plan worker ActRefused state state' place place' action gives = ap (λ (s : State). s.cache.limit) gives.state_is
limit_acts plan worker WorkRefused state state' place place' action breaks = ap (λ (s : State). s.cache.limit) breaks.state_is ∙ limit_stays state.cache (marked_for state action) worker action

limit_turns : (plan : Plan) (worker : WorkerNo) (flag : Flag) (state state' : State) (place place' : Place) → Turns plan worker flag state state' place place' → state'.cache.limit ≡ state.cache.limit
limit_turns plan worker flag state state' place place' (ended nothing stands) = ap (λ (s : State). s.cache.limit) stands.state_is
limit_turns plan worker flag state state' place place' (idles action wanted idle stands) = ap (λ (s : State). s.cache.limit) stands.state_is
limit_turns plan worker flag state state' place place' (acts action wanted ready acted) = limit_acts plan worker flag state state' place place' action acted

pub limit_turned : (plan : Plan) (worker : WorkerNo) (flag : Flag) (start state state' : State) (place place' : Place) → Turned plan worker flag state state' place place' → state.cache.limit ≡ start.cache.limit → state'.cache.limit ≡ start.cache.limit
limit_turned plan worker flag start state state' place place' turned so_far = limit_turns plan worker turned.met state state' place place' turned.turns ∙ so_far

-- ---- one turn more

-- with no more stages than so many since a number of them
abbrev pub HasGone : Plan → State → State → Place → ℕ → ℕ → Type 0
HasGone plan start state place initial steps = (spent : ℕ) × (steps ≤ initial + spent) × Goes plan start state place spent

pub gone_none : (plan : Plan) (state : State) (place : Place) (steps : ℕ) → place ≡ Outside → HasGone plan state state place steps steps
gone_none plan state place steps outside = (0, omega arith, subst (λ (p : Place). Goes plan state state p 0) (sym outside) Goes.begins)

first_is : (worker : WorkerNo) → worker.0 ≡ 0 → worker ≡ first_worker
first_is worker first = ap (λ (n : ℕ). let w : WorkerNo = record { 0 = n } in w) first

pub job_of : (plan : Plan) (state : State) (job : JobState) → job.worker.0 ≡ 0 → HasJobs plan state (job.place ∷ []) → HasJob plan state job.worker.0 job.place
job_of plan state job first has = subst (λ (n : ℕ). HasJob plan state n job.place) (sym first) (has.jobs 0 job.place refl)

module _ (plan : Plan) (start state state' : State) (worker : WorkerNo) (place place' : Place) (first : worker.0 ≡ 0) (turned : Turned plan worker Fine state state' place place') where
  turned_first : Turned plan first_worker Fine state state' place place'
  turned_first = subst (λ (w : WorkerNo). Turned plan w Fine state state' place place') (first_is worker first) turned

  pub jobs_once : IsSound plan → IsTable plan.table → HasJobs plan state (place ∷ []) → HasJobs plan state' (place' ∷ [])
  jobs_once sound table has = turned_has plan first_worker Fine state state' (place ∷ []) place place' sound table has refl turned_first

  pub gone_once : (initial steps steps' : ℕ) → RunsStages plan worker state state' place steps steps' → HasGone plan start state place initial steps → HasGone plan start state' place' initial steps'
  gone_once initial steps steps' runs gone =
      let own : RunsStages plan first_worker state state' place steps steps' = subst (λ (w : WorkerNo). RunsStages plan w state state' place steps steps') (first_is worker first) runs in
      let spent : ℕ = gone.0 + (steps' - steps) in (
        spent,
        omega (arith, gone.1),
        Goes.goes_on state state' place place' gone.0 spent gone.2 turned_first (record {
          none = λ same. let none = own.none same in omega (arith, none);
          most = omega (arith, own.most);
        }),
      )
