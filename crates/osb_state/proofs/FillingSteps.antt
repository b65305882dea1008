-- An action of the script, where no memory was refused, keeps a state filled so far: no key leaves, and each marked key of
-- a task that has ended with a tree is taken.
use Rattle.std.proofs.Common.{◌≡◌, ◌==◌, ℕ, zero, suc, ◌≤◌, Bool, true, false, List, [], ◌∷◌, ◌++◌, find, Option, Some, None, ◌⊎◌, inl, inr, refl, sym, ap, subst, ◌∙◌, arith}
use Rattle.std.specs.Prelude.{slice_get}
use Rattle.std.specs.List.{list_any}
use Rattle.std.specs.Option.{option_map_or}
use Rattle.std.proofs.lemmas.Bool.{false≢true, cases_eq, cond-true, cond-false, eq-eqb, ne_eqb, or_left, or_right}
use Rattle.osb_tree.specs.Trees.{Listing}
use Rattle.osb_tree.specs.declared.numbers.Key.{Key}
use Rattle.osb_tree.specs.declared.numbers.TaskNo.{TaskNo}
use Rattle.osb_tree.specs.declared.numbers.WorkerNo.{WorkerNo}
use Rattle.osb_recipe.specs.Meanings.{meant}
use Rattle.osb_recipe.specs.Plans.{IsSound, has_key}
use Rattle.osb_recipe.specs.Tables.{IsTable}
use Rattle.osb_recipe.specs.declared.plans.Task.{Task}
use Rattle.osb_recipe.specs.declared.plans.Plan.{Plan}
use Rattle.osb_board.specs.Boards.{claim_of}
use Rattle.osb_board.specs.declared.tasks.Claim.{Claim}
use Rattle.osb_board.specs.declared.tasks.Claim.TheVariants as claims
use Rattle.osb_cache.specs.Caches.{CacheState, is_draft, look_reply, reserve_reply}
use Rattle.osb_cache.specs.declared.answers.Look.{Look}
use Rattle.osb_cache.specs.declared.answers.Look.TheVariants as looks
use Rattle.osb_cache.specs.declared.answers.Reserve.{Reserve}
use Rattle.osb_cache.specs.declared.answers.Reserve.TheVariants as reserves
use Rattle.osb_cache.specs.declared.answers.Stored.{Stored}
use Rattle.osb_job.specs.declared.actions.Action.{Action}
use Rattle.osb_job.specs.declared.actions.Action.TheVariants as actions
use Rattle.osb_job.specs.declared.actions.Reply.TheVariants as replies
use Rattle.osb_job.specs.declared.entries.Entry.{Entry}
use Rattle.osb_job.specs.declared.entries.Event.{Event}
use Rattle.osb_job.specs.declared.entries.Event.TheVariants as events
use Rattle.osb_job.specs.declared.entries.Word.TheVariants as words
use Rattle.osb_job.specs.Scripts.{Hand, fills, Block, busy, turn, progress_of, word_of, chain_at, marked_at, next}
use Rattle.osb_job.specs.Moves.{look_event, reserve_event, event_of, puts_of}
use Rattle.osb_job.specs.Allowed.{MayCommit}
use Rattle.osb_state.specs.States.{State, own, progress_in, draft_for, part, Allows, gives, marked_in, cache_after, marked_for, entries_of, after}
use Rattle.osb_state.specs.Kept.{progress_by}
use Rattle.osb_state.specs.Truth.{IsTrueState}
use Rattle.osb_state.specs.Runs.{outcome_of, action_of}
use Rattle.osb_state.specs.KeptLogs.{entry_by}
use Rattle.osb_state.specs.Filling.{key_no, may_stand, size_of_all, from_look}
use Rattle.osb_state.proofs.AskedKeys.{AsksRoom, Asks, asks, asked_hold}
use Rattle.osb_state.proofs.Changes.{progress_noted}
use Rattle.osb_state.proofs.OtherParts.{busy_hand}
use Rattle.osb_state.proofs.RoomForAll.{room_for}
use Rattle.osb_state.proofs.TakenKeys.{taken_by, IsTaken, AllMay, Grows, hit_taken, grows_still, grows_look, grows_unpin, grows_put, grows_commit, keeps_reserve}
use Rattle.osb_state.proofs.ToldActions.{one_event, entry_tells}
use Rattle.osb_state.proofs.TriedKeys.{TakenIn, AreTaken, IsNews, taken_later, taken_turn}
use Rattle.osb_state.proofs.TrueMoves.{true_allows}

-- ---- what holds

abbrev pub ended_with_tree : WorkerNo → TaskNo → Entry
ended_with_tree worker task = entry_by worker (events.Done task words.Tree)

-- each marked key, from the hit on, of a task that ended with a tree is taken
abbrev pub EndsAreTaken : Plan → List Entry → CacheState Listing → Type 0
EndsAreTaken plan log cache =
    (before rest : List Entry) (worker : WorkerNo) (task : TaskNo) (block : Block) (key : Key) → log ≡ before ++ ended_with_tree worker task ∷ rest → progress_of (own worker.0 before) ≡ busy block
    → has_key (from_look block.looked (chain_at plan task)) key ≡ true → has_key (marked_at plan task) key ≡ true → IsTaken key.0 cache

pub record IsFilling (plan : Plan) (opening : List (Stored Listing)) (state : State) : Type 0 where
  pub all : AllMay (may_stand plan opening) state.cache
  pub room : size_of_all plan opening ≤ state.cache.limit
  pub asked : (worker : ℕ) → AreTaken state.cache (progress_by state worker)
  pub ended : EndsAreTaken plan state.log state.cache

-- ---- how far the workers are after an entry

pub progress_own : (state : State) (entry : Entry) (action : Action) → entries_of state entry.worker action ≡ entry ∷ [] → progress_by (after state entry.worker action) entry.worker.0 ≡ turn (progress_in state entry.worker) entry.event
progress_own state entry action noted =
    let number : ℕ = entry.worker.0 in
    ap (λ (more : List Entry). progress_of (own number (state.log ++ more))) noted
    ∙ progress_noted number entry state.log
    ∙ cond-true (number == number) (turn (progress_in state entry.worker) entry.event) (progress_by state number) (eq-eqb number number refl)

pub progress_other : (state : State) (entry : Entry) (action : Action) (number : ℕ) → entries_of state entry.worker action ≡ entry ∷ [] → (entry.worker.0 ≡ number → ⊥) → progress_by (after state entry.worker action) number ≡ progress_by state number
progress_other state entry action number noted apart =
    ap (λ (more : List Entry). progress_of (own number (state.log ++ more))) noted
    ∙ progress_noted number entry state.log
    ∙ cond-false (entry.worker.0 == number) (turn (progress_in state entry.worker) entry.event) (progress_by state number) (ne_eqb entry.worker.0 number apart)

-- ---- the last entry of a log, or one before it

pub snoc_not_nil : {X : Type 0} → (before rest : List X) (one : X) → before ++ one ∷ rest ≡ [] → ⊥
snoc_not_nil [] rest one is = cc
snoc_not_nil (first ∷ before) rest one is = cc

abbrev IsInFront : {X : Type 0} → List X → List X → X → Type 0
IsInFront {X} log before one = (rest : List X) × (log ≡ before ++ one ∷ rest)

last_or_before : {X : Type 0} → (log before rest : List X) (last one : X) → log ++ last ∷ [] ≡ before ++ one ∷ rest → ((log ≡ before) × (last ≡ one)) ⊎ IsInFront log before one
last_or_before [] [] rest last one is = inl (refl, (cc))
last_or_before [] (first ∷ before) rest last one is = absurd (snoc_not_nil before rest one (let nil : [] ≡ before ++ one ∷ rest = cc in sym nil))
last_or_before {X} (here ∷ log) [] rest last one is =
    let same : here ≡ one = cc in
    inr (log, ap (λ (e : X). e ∷ log) same)
last_or_before (here ∷ log) (first ∷ before) rest last one is =
    let same : here ≡ first = cc in
    let left : log ++ last ∷ [] ≡ before ++ one ∷ rest = cc in
    elim (last_or_before log before rest last one left) [
      | inl end ↦ inl ((let are = end.0 in cc), end.1)
      | inr front ↦ inr (front.0, (let are = front.1 in cc))
    ]

-- ---- marked keys may stand in a cache

marked_among : (tasks : List Task) (number : ℕ) (key : Key) → has_key (option_map_or (λ (t : Task). t.marked) (slice_get tasks number) []) key ≡ true → list_any (λ (t : Task). has_key t.marked key) tasks ≡ true
marked_among [] number key there = absurd (false≢true there)
marked_among (task ∷ tasks) zero key there = or_left (has_key task.marked key) (list_any (λ (t : Task). has_key t.marked key) tasks) there
marked_among (task ∷ tasks) (suc number) key there = or_right (has_key task.marked key) (list_any (λ (t : Task). has_key t.marked key) tasks) (marked_among tasks number key there)

marked_may : (plan : Plan) (opening : List (Stored Listing)) (task : TaskNo) (key : Key) → has_key (marked_at plan task) key ≡ true → may_stand plan opening key.0 ≡ true
marked_may plan opening task key there =
    or_right (list_any (λ (stored : Stored Listing). stored.key.0 == key.0) opening) (list_any (λ (t : Task). has_key t.marked (key_no key.0)) plan.tasks) (marked_among plan.tasks task.0 key there)

-- ---- the cache after an action

module _ (plan : Plan) (opening : List (Stored Listing)) (state : State) (worker : WorkerNo) (s : IsTrueState plan state) (f : IsFilling plan opening state) where
  abbrev may : ℕ → Bool
  may number = may_stand plan opening number

  abbrev cache_now : Action → CacheState Listing
  cache_now action = cache_after state.cache (marked_for state action) worker action

  reserves_room : (key : Key) (size count : ℕ) → AsksRoom plan (progress_in state worker) key size → Grows may state.cache (cache_now (actions.Reserve key size count)) × IsTaken key.0 (cache_now (actions.Reserve key size count))
  reserves_room key size count room =
      let passes : may key.0 ≡ true = marked_may plan opening room.block.task key room.marked in
      keeps_reserve may state.cache f.all worker.0 key.0 size count passes
      (λ free. omega (arith, room_for plan may state s f.all key room.has_tree passes free, room.size_is, f.room))

  commits : (key : Key) → MayCommit (part state worker) key → Grows may state.cache (cache_now (actions.Commit key))
  commits key may_commit =
      let hand = busy_hand (part state worker) may_commit.filling.task (fills key may_commit.filling.count) may_commit.filling.busy in
      let found : find (is_draft worker.0 key.0) state.cache.drafts ≡ Some may_commit.draft = sym (ap (λ (h : Hand). draft_for worker h state.cache.drafts) hand) ∙ may_commit.own in
      grows_commit may state.cache f.all worker.0 key.0 may_commit.draft found

  grows : (action : Action) → Asks plan (progress_in state worker) action → Allows state worker action → Grows may state.cache (cache_now action)
  grows actions.Claim asked can = grows_still may state.cache f.all
  grows (actions.Fetch dep) asked can = grows_still may state.cache f.all
  grows (actions.Look task) asked can = grows_look may state.cache f.all worker.0 (marked_in state task)
  grows (actions.Read key place) asked can = grows_still may state.cache f.all
  grows (actions.Unpin key) asked can = grows_unpin may state.cache f.all worker.0 key.0
  grows (actions.Reserve key size count) asked can = (reserves_room key size count asked).0
  grows (actions.Put key chunk) asked can = grows_put may state.cache f.all worker.0 key.0 chunk
  grows (actions.Commit key) asked can = commits key can
  grows (actions.Drop key) asked can = absurd asked
  grows (actions.Done task outcome) asked can = grows_still may state.cache f.all

  -- ---- what its event tells

  abbrev IsNewsOf : CacheState Listing → Option Event → Type 0
  IsNewsOf cache None = Unit {0}
  IsNewsOf cache (Some event) = IsNews cache event

  claim_news : (puts : ℕ) (cache : CacheState Listing) (claim : Claim) → IsNewsOf cache (event_of puts actions.Claim (replies.Claimed claim))
  claim_news puts cache (claims.Task task) = tt
  claim_news puts cache claims.Idle = tt
  claim_news puts cache claims.Over = tt

  look_news : (keys : List Key) (cache : CacheState Listing) → ((key : ℕ) → taken_by key state.cache ≤ taken_by key cache) → (look : Look) → look_reply state.cache keys ≡ look → IsNews cache (look_event look)
  look_news keys cache more (looks.Hit place key count) is = omega (arith, hit_taken state.cache keys place count key is, more key.0)
  look_news keys cache more looks.Miss is = tt

  reserve_news : (key : Key) (cache : CacheState Listing) → IsTaken key.0 cache → (reserve : Reserve) → IsNews cache (reserve_event key reserve)
  reserve_news key cache taken (reserves.Room evicted) = taken
  reserve_news key cache taken reserves.Already = taken
  reserve_news key cache taken reserves.TooLarge = taken
  reserve_news key cache taken reserves.Full = taken

  abbrev event_for : Action → Option Event
  event_for action = event_of (puts_of (part state worker)) action (gives state worker action)

  news : (action : Action) → Asks plan (progress_in state worker) action → Allows state worker action → IsNewsOf (cache_now action) (event_for action)
  news actions.Claim asked can = claim_news (puts_of (part state worker)) state.cache (claim_of state.board)
  news (actions.Fetch dep) asked can = tt
  news (actions.Look task) asked can =
      let keys : List Key = marked_in state task in
      look_news keys (cache_now (actions.Look task)) (grows (actions.Look task) asked can).taken (look_reply state.cache keys) refl
  news (actions.Read key place) asked can = tt
  news (actions.Unpin key) asked can = tt
  news (actions.Reserve key size count) asked can = reserve_news key (cache_now (actions.Reserve key size count)) (reserves_room key size count asked).1 (reserve_reply state.cache key.0 size)
  news (actions.Put key chunk) asked can = tt
  news (actions.Commit key) asked can = tt
  news (actions.Drop key) asked can = tt
  news (actions.Done task outcome) asked can = tt

-- ---- the state after it

tree_ended : (plan : Plan) (state : State) (worker : WorkerNo) (task : TaskNo) → entries_of state worker (actions.Done task (outcome_of plan task words.Tree)) ≡ ended_with_tree worker task ∷ [] → word_of (meant plan.table (chain_at plan task)) ≡ words.Tree
tree_ended plan state worker task noted =
    let ends : Entry = entry_by worker (events.Done task (word_of (meant plan.table (chain_at plan task)))) in
    let same : ends ≡ ended_with_tree worker task = cc in
    let event : events.Done task (word_of (meant plan.table (chain_at plan task))) ≡ events.Done task words.Tree = ap (λ (e : Entry). e.event) same in
    cc

module _ (plan : Plan) (opening : List (Stored Listing)) (state : State) (entry : Entry) (action : Action) (sound : IsSound plan) (table : IsTable plan.table) (s : IsTrueState plan state)
    (is : next plan (progress_in state entry.worker) false ≡ Some action) (noted : entries_of state entry.worker action ≡ entry ∷ []) (f : IsFilling plan opening state) where
  can : Allows state entry.worker action
  can = true_allows plan state entry.worker false action sound table s is

  asked_so : Asks plan (progress_in state entry.worker) action
  asked_so = asks plan (progress_in state entry.worker) action is

  grown : Grows (may_stand plan opening) state.cache (after state entry.worker action).cache
  grown = grows plan opening state entry.worker s f action asked_so can

  entry_news : IsNews (after state entry.worker action).cache entry.event
  entry_news =
      let event = one_event entry.worker (event_of (puts_of (part state entry.worker)) action (gives state entry.worker action)) entry noted in
      subst (λ (o : Option Event). IsNewsOf plan opening state entry.worker s f (after state entry.worker action).cache o) event (news plan opening state entry.worker s f action asked_so can)

  asked_now : (number : ℕ) → AreTaken (after state entry.worker action).cache (progress_by (after state entry.worker action) number)
  asked_now number = elim (cases_eq entry.worker.0 number) [
    | inl same ↦ subst (λ (n : ℕ). AreTaken (after state entry.worker action).cache (progress_by (after state entry.worker action) n)) same own_now
    | inr apart ↦ subst (AreTaken (after state entry.worker action).cache) (sym (progress_other state entry action number noted apart))
        (taken_later state.cache (after state entry.worker action).cache (progress_by state number) grown.taken (f.asked number))
  ]
    where
      own_now : AreTaken (after state entry.worker action).cache (progress_by (after state entry.worker action) entry.worker.0)
      own_now =
          let was = taken_later state.cache (after state entry.worker action).cache (progress_in state entry.worker) grown.taken (f.asked entry.worker.0) in
          subst (AreTaken (after state entry.worker action).cache) (sym (progress_own state entry action noted))
          (taken_turn (after state entry.worker action).cache (progress_in state entry.worker) entry.event entry_news was)

  -- the task that ends with this entry
  ends_now : (worker : WorkerNo) (task : TaskNo) (block : Block) (key : Key) → entry ≡ ended_with_tree worker task → progress_of (own worker.0 state.log) ≡ busy block
      → has_key (from_look block.looked (chain_at plan task)) key ≡ true → has_key (marked_at plan task) key ≡ true → IsTaken key.0 state.cache
  ends_now worker task block key ends at there marked =
      let tells : action_of plan (progress_in state entry.worker) entry.event ≡ action = entry_tells plan state entry false action sound table s is noted in
      let told : actions.Done task (meant plan.table (chain_at plan task)) ≡ action = ap (λ (e : Entry). action_of plan (progress_in state e.worker) e.event) (sym ends) ∙ tells in
      let is_next : next plan (progress_in state worker) false ≡ Some (actions.Done task (meant plan.table (chain_at plan task))) =
      ap (λ (e : Entry). next plan (progress_in state e.worker) false) (sym ends) ∙ is ∙ ap (λ (a : Action). Some a) (sym told) in
      let only : entries_of state worker (actions.Done task (meant plan.table (chain_at plan task))) ≡ ended_with_tree worker task ∷ [] =
      ap (entries_of state worker) told ∙ ap (λ (e : Entry). entries_of state e.worker action) (sym ends) ∙ noted ∙ ap (λ (e : Entry). e ∷ []) ends in
      let word = tree_ended plan state worker task only in
      let has = asks plan (progress_in state worker) (actions.Done task (meant plan.table (chain_at plan task))) is_next word in
      asked_hold plan (progress_in state worker) task (meant plan.table (chain_at plan task)) block (TakenIn state.cache) sound table has word at (f.asked worker.0 block at) key there marked

  ended_now : EndsAreTaken plan (after state entry.worker action).log (after state entry.worker action).cache
  ended_now before rest worker task block key split at there marked =
      let whole : state.log ++ entry ∷ [] ≡ before ++ ended_with_tree worker task ∷ rest = ap (λ (more : List Entry). state.log ++ more) (sym noted) ∙ split in
      elim (last_or_before state.log before rest entry (ended_with_tree worker task) whole) [
        | inl last ↦
            let here = ends_now worker task block key last.1 (ap (λ (log : List Entry). progress_of (own worker.0 log)) last.0 ∙ at) there marked in
            omega (arith, here, grown.taken key.0)
        | inr front ↦ (let was = f.ended before front.0 worker task block key front.1 at there marked in omega (arith, was, grown.taken key.0))
      ]

  pub fills_on : IsFilling plan opening (after state entry.worker action)
  fills_on = record {
    all = grown.all;
    room = subst (λ (limit : ℕ). size_of_all plan opening ≤ limit) (sym grown.limit) f.room;
    asked = asked_now;
    ended = ended_now;
  }
