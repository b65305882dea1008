-- What holds in every state of a run from a true opening.
use Rattle.std.proofs.Common.{◌≡◌, ℕ, ◌+◌, ◌-◌, ◌≤◌, false, List, [], ◌∷◌, length, refl, ap, subst, ◌∙◌, arith}
use Rattle.osb_tree.specs.Trees.{Listing, tree_size}
use Rattle.osb_tree.specs.declared.numbers.Key.{Key}
use Rattle.osb_tree.specs.declared.numbers.WorkerNo.{WorkerNo}
use Rattle.osb_recipe.specs.declared.plans.Plan.{Plan}
use Rattle.osb_cache.specs.Caches.{CacheState, counted, sizes, opening_lines, look_reply, after_look, reserve_reply, after_reserve}
use Rattle.osb_cache.specs.declared.answers.Stored.{Stored}
use Rattle.osb_cache.specs.declared.answers.Look.{Look}
use Rattle.osb_cache.specs.declared.answers.Look.TheVariants as looks
use Rattle.osb_cache.specs.declared.answers.Reserve.{Reserve}
use Rattle.osb_cache.specs.declared.answers.Reserve.TheVariants as reserves
use Rattle.osb_cache.proofs.Evicts.{length-evict-le}
use Rattle.osb_cache.proofs.Openings.{length-opening_lines}
use Rattle.osb_job.specs.declared.actions.Action.{Action}
use Rattle.osb_job.specs.declared.actions.Action.TheVariants as actions
use Rattle.osb_job.specs.declared.entries.Entry.{Entry}
use Rattle.osb_state.specs.declared.opened.Opened.{Opened}
use Rattle.osb_state.specs.States.{State, progress_in, cache_after, marked_for, after}
use Rattle.osb_state.specs.Kept.{Valid}
use Rattle.osb_state.specs.Truth.{IsTrueState}
use Rattle.osb_state.specs.Runs.{action_of, replay}
use Rattle.osb_state.specs.Openings.{opened_state}
use Rattle.osb_state.specs.KeptLogs.{AreWhole, AreHeld, AreNumbered, AreClaimed, AreTrees, RunsAreKept}
use Rattle.osb_state.proofs.TrueOpenings.{true_opens}
use Rattle.osb_state.proofs.TrueRuns.{runs_keep}
use Rattle.osb_state.proofs.ActedEntries.{run_acts}
use Rattle.osb_state.proofs.NewEntries.{entries_are_committed}
use Rattle.osb_state.proofs.PinsStanding.{pins_stand}

-- ---- what no action changes

limit_looked : (cache : CacheState Listing) (worker : ℕ) (look : Look) → (after_look cache worker look).limit ≡ cache.limit
limit_looked cache worker (looks.Hit place key count) = refl
limit_looked cache worker looks.Miss = refl

limit_reserved : (cache : CacheState Listing) (worker key size count : ℕ) (reserve : Reserve) → (after_reserve cache worker key size count reserve).limit ≡ cache.limit
limit_reserved cache worker key size count (reserves.Room evicted) = refl
limit_reserved cache worker key size count reserves.Already = refl
limit_reserved cache worker key size count reserves.TooLarge = refl
limit_reserved cache worker key size count reserves.Full = refl

limit_after : (cache : CacheState Listing) (marked : List Key) (worker : WorkerNo) (action : Action) → (cache_after cache marked worker action).limit ≡ cache.limit
limit_after cache marked worker actions.Claim = refl
limit_after cache marked worker (actions.Fetch dep) = refl
limit_after cache marked worker (actions.Look task) = limit_looked cache worker.0 (look_reply cache marked)
limit_after cache marked worker (actions.Read key place) = refl
limit_after cache marked worker (actions.Unpin key) = refl
limit_after cache marked worker (actions.Reserve key size count) = limit_reserved cache worker.0 key.0 size count (reserve_reply cache key.0 size)
limit_after cache marked worker (actions.Put key chunk) = refl
limit_after cache marked worker (actions.Commit key) = refl
limit_after cache marked worker (actions.Drop key) = refl
limit_after cache marked worker (actions.Done task outcome) = refl

pub replay-limit : (plan : Plan) (state : State) (log : List Entry) → (replay plan state log).cache.limit ≡ state.cache.limit
replay-limit plan state [] = refl
replay-limit plan state (entry ∷ log) =
    let action : Action = action_of plan (progress_in state entry.worker) entry.event in
    replay-limit plan (after state entry.worker action) log ∙ limit_after state.cache (marked_for state action) entry.worker action

pub replay-opened : (plan : Plan) (state : State) (log : List Entry) → (replay plan state log).opened ≡ state.opened
replay-opened plan state [] = refl
replay-opened plan state (entry ∷ log) = replay-opened plan (after state entry.worker (action_of plan (progress_in state entry.worker) entry.event)) log

-- the entries that are kept, and those that are too much, are all
opened_count : (plan : Plan) (opening : List (Stored Listing)) (limit : ℕ) → (opened_state plan opening limit).opened.kept + (opened_state plan opening limit).opened.evicted ≡ length opening
opened_count plan opening limit =
    let lines = opening_lines tree_size 1 opening in
    omega (arith, length-evict-le (sizes lines - limit) lines, length-opening_lines tree_size 1 opening)

-- ---- the parts

are_whole : (plan : Plan) (state : State) → IsTrueState plan state → AreWhole plan state
are_whole plan state s k d within = record { chunks = s.entries k d within; size = s.valid.sound.weighed k d within }

are_held : (plan : Plan) (state : State) → IsTrueState plan state → AreHeld plan state
are_held plan state s = record { pinned = s.valid.pinned; staged = s.valid.drafted; put = s.valid.put; drafts = s.drafts }

are_numbered : (opening : ℕ) (state : State) → Valid state → state.opened.kept + state.opened.evicted ≡ opening → AreNumbered opening state
are_numbered opening state valid count =
    record { apart = valid.sound.apart; rising = valid.sound.rising; clocked = omega (arith, valid.clocked, count) }

are_claimed : (state : State) → Valid state → AreClaimed state
are_claimed state valid = record { running = valid.running; ready = valid.board_is.ready }

are_trees : (plan : Plan) (state : State) → IsTrueState plan state → AreTrees (length plan.table.recipes) state
are_trees plan state s = subst (λ (keys : ℕ). AreTrees keys state) s.keys (record { entries = s.valid.entries; drafts = s.valid.drafts })

pub runs_are_kept : RunsAreKept
runs_are_kept plan opening limit workers log sound table can is runs =
    let start : State = opened_state plan opening limit in
    let keeps = runs_keep plan opening limit workers log sound table can is runs in
    let acts = run_acts plan workers start (λ (worker : ℕ). false) log sound table (true_opens plan opening limit sound table can is) runs in
    record {
      pins = pins_stand plan start log keeps acts;
      within = λ before rest at. subst (λ (n : ℕ). counted (replay plan start before).cache ≤ n) (replay-limit plan start before) (keeps.front before rest at).valid.sound.within;
      whole = λ before rest at. are_whole plan (replay plan start before) (keeps.front before rest at);
      committed = entries_are_committed plan start log acts;
      held = λ before rest at. are_held plan (replay plan start before) (keeps.front before rest at);
      numbered = λ before rest at. are_numbered (length opening) (replay plan start before) (keeps.front before rest at).valid
          (ap (λ (opened : Opened). opened.kept + opened.evicted) (replay-opened plan start before) ∙ opened_count plan opening limit);
      claimed = λ before rest at. are_claimed (replay plan start before) (keeps.front before rest at).valid;
      trees = λ before rest at. are_trees plan (replay plan start before) (keeps.front before rest at);
    }
