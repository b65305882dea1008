-- In a true state the script's actions keep the words that workers have fetched those of their dependencies.
use Rattle.std.proofs.Common.{◌≡◌, ℕ, zero, suc, ◌≤◌, Bool, true, false, List, [], ◌∷◌, ◌++◌, length, Option, Some, None, ◌⊎◌, inl, inr, refl, sym, ap, subst, ◌∙◌, append-nil, arith}
use Rattle.std.specs.Prelude.{slice_get, option_and_then}
use Rattle.std.specs.List.{list_all, slice_index_or}
use Rattle.std.specs.Option.{option_map_or}
use Rattle.std.proofs.lemmas.Bool.{false≢true, and_parts, cases_eq}
use Rattle.std.proofs.lemmas.List.{length-append}
use Rattle.std.proofs.lemmas.List.Sums.{fold_push}
use Rattle.std.proofs.lemmas.Option.{none-some, same_Some, slice_get_cases, slice_get_within}
use Rattle.osb_tree.specs.declared.numbers.Key.{Key}
use Rattle.osb_tree.specs.declared.numbers.TaskNo.{TaskNo}
use Rattle.osb_tree.specs.declared.numbers.WorkerNo.{WorkerNo}
use Rattle.osb_recipe.specs.declared.outcomes.Outcome.{Outcome}
use Rattle.osb_recipe.specs.declared.outcomes.Outcome.TheVariants as outcomes
use Rattle.osb_recipe.specs.declared.plans.Task.{Task as PlanTask}
use Rattle.osb_recipe.specs.declared.plans.Plan.{Plan}
use Rattle.osb_board.specs.declared.tasks.Task.{Task}
use Rattle.osb_board.specs.declared.tasks.TaskState.{TaskState}
use Rattle.osb_board.specs.declared.tasks.TaskState.TheVariants.{Waiting, Running, Done}
use Rattle.osb_board.specs.declared.tasks.Claim.{Claim}
use Rattle.osb_board.specs.declared.tasks.Claim.TheVariants as claims
use Rattle.osb_board.specs.Boards.{is_waiting, is_run_by, is_done, outcome_of, state_at, outcome_at, has_done_deps, claim_of}
use Rattle.osb_cache.specs.Caches.{look_reply, reserve_reply}
use Rattle.osb_cache.specs.declared.answers.Look.{Look}
use Rattle.osb_cache.specs.declared.answers.Look.TheVariants as looks
use Rattle.osb_cache.specs.declared.answers.Reserve.{Reserve}
use Rattle.osb_cache.specs.declared.answers.Reserve.TheVariants as reserves
use Rattle.osb_job.specs.declared.actions.Action.{Action}
use Rattle.osb_job.specs.declared.actions.Action.TheVariants as actions
use Rattle.osb_job.specs.declared.actions.Reply.TheVariants as replies
use Rattle.osb_job.specs.declared.entries.Entry.{Entry}
use Rattle.osb_job.specs.declared.entries.Event.{Event}
use Rattle.osb_job.specs.declared.entries.Event.TheVariants as events
use Rattle.osb_job.specs.declared.entries.Word.{Word}
use Rattle.osb_job.specs.Scripts.{Hand, free, reads, fills, Block, Progress, idle, busy, over, new_block, one_more, in_block, with_hand, with_look, with_tried, turn, progress_of, word_of, deps_at}
use Rattle.osb_job.specs.Moves.{look_event, reserve_event, event_of, puts_of}
use Rattle.osb_state.specs.States.{State, own, progress_in, part, gives, marked_in, after}
use Rattle.osb_state.specs.Kept.{progress_by}
use Rattle.osb_state.specs.Truth.{IsTold, IsTrueState}
use Rattle.osb_state.proofs.Entries.{entries, own-other, own-same}
use Rattle.osb_state.proofs.TrueOpenings.{by_number}
use Rattle.osb_state.proofs.TrueEnds.{runs_its, KeepsEnds}
use Rattle.osb_state.proofs.Said.{SaysFetch, Says}

-- ---- the dependencies of a task that runs are done

all_at : {X : Type 0} (p : X → Bool) (xs : List X) (place : ℕ) (x : X) → list_all p xs ≡ true → slice_get xs place ≡ Some x → p x ≡ true
all_at p [] place x all at = absurd (none-some x at)
all_at p (y ∷ xs) zero x all at = ap p (sym (same_Some y x at)) ∙ (and_parts (p y) (list_all p xs) all).0
all_at p (y ∷ xs) (suc place) x all at = all_at p xs place x (and_parts (p y) (list_all p xs) all).1 at

ended_state : (state : TaskState Outcome) → is_done state ≡ true → (outcome : Outcome) × (outcome_of state ≡ Some outcome)
ended_state Waiting done = absurd (false≢true done)
ended_state (Running number) done = absurd (false≢true done)
ended_state (Done outcome) done = (outcome, refl)

ended_option : (task : Option (Task Outcome)) → option_map_or (λ t. is_done t.state) task false ≡ true → (outcome : Outcome) × (option_and_then (λ t. outcome_of t.state) task ≡ Some outcome)
ended_option None done = absurd (false≢true done)
ended_option (Some task) done = ended_state task.state done

not_waiting : (worker : ℕ) (state : TaskState Outcome) → is_run_by worker state ≡ true → is_waiting state ≡ false
not_waiting worker Waiting runs = absurd (false≢true runs)
not_waiting worker (Running number) runs = refl
not_waiting worker (Done outcome) runs = refl

-- how the task ended that is fetched next
record IsFetched (state : State) (dep : TaskNo) : Type 0 where
  outcome : Outcome
  at : outcome_at state.board dep.0 ≡ Some outcome

dep_ended : (plan : Plan) (state : State) (worker : WorkerNo) (block : Block) (dep : TaskNo) (place : ℕ) → IsTrueState plan state → progress_in state worker ≡ busy block → slice_get (deps_at plan block.task) place ≡ Some dep → IsFetched state dep
dep_ended plan state worker block dep place s at next_is = by (slice_get state.board block.task.0) refl
  where
    running : state_at (is_run_by worker.0) state.board block.task.0 ≡ true
    running = runs_its state worker block.task block.hand s.valid (record { block = block; at = at; task_is = refl; hand_is = refl })

    same : option_map_or (λ (t : Task Outcome). t.deps) (slice_get state.board block.task.0) [] ≡ deps_at plan block.task
    same =
        by_number (λ (t : Task Outcome). t.deps) state.board block.task.0
        ∙ ap (λ (deps : List (List TaskNo)). slice_index_or deps block.task.0 []) s.deps
        ∙ sym (by_number (λ (t : PlanTask). t.deps) plan.tasks block.task.0)

    ready : (task : Task Outcome) → slice_get state.board block.task.0 ≡ Some task → is_waiting task.state ≡ false → has_done_deps state.board task ≡ true
    ready task is = elim (slice_get_cases state.board block.task.0).1 [
      | inl held ↦
          let here : slice_index_or state.board block.task.0 held.0 ≡ task = held.3 ∙ same_Some held.0 task (sym held.2 ∙ is) in
          subst (λ (t : Task Outcome). is_waiting t.state ≡ false → has_done_deps state.board t ≡ true) here (s.valid.board_is.ready block.task.0 held.0 held.1)
      | inr past ↦ absurd (none-some task (sym past.1 ∙ is))
    ]

    by : (task : Option (Task Outcome)) → slice_get state.board block.task.0 ≡ task → IsFetched state dep
    by None is = absurd (false≢true (sym (ap (λ (o : Option (Task Outcome)). option_map_or (λ t. is_run_by worker.0 t.state) o false) is) ∙ running))
    by (Some task) is =
        let runs : is_run_by worker.0 task.state ≡ true = sym (ap (λ (o : Option (Task Outcome)). option_map_or (λ t. is_run_by worker.0 t.state) o false) is) ∙ running in
        let deps : task.deps ≡ deps_at plan block.task = sym (ap (λ (o : Option (Task Outcome)). option_map_or (λ (t : Task Outcome). t.deps) o []) is) ∙ same in
        let there : slice_get task.deps place ≡ Some dep = ap (λ (all : List TaskNo). slice_get all place) deps ∙ next_is in
        let done = all_at (λ (d : TaskNo). state_at is_done state.board d.0) task.deps place dep (ready task is (not_waiting worker.0 task.state runs)) there in
        let end = ended_option (slice_get state.board dep.0) done in
        record { outcome = end.0; at = end.1 }

-- ---- an own entry

-- a fetched word is that of the next dependency
record IsNextWord (plan : Plan) (state : State) (block : Block) (dep : TaskNo) (word : Word) : Type 0 where
  next_is : slice_get (deps_at plan block.task) (length block.words) ≡ Some dep
  outcome : Outcome
  at : outcome_at state.board dep.0 ≡ Some outcome
  word_is : word ≡ word_of outcome

abbrev IsNews : Plan → State → Progress → Event → Type 0
IsNews plan state progress (events.Fetch dep word) = (block : Block) → progress ≡ busy block → IsNextWord plan state block dep word
IsNews plan state progress event = Unit {0}

abbrev AreTold : Plan → State → Progress → Type 0
AreTold plan state progress = (block : Block) → progress ≡ busy block → IsTold plan state block

module _ (plan : Plan) (state : State) where
  -- what is told depends on the task and the words alone
  told_same : (b c : Block) → b.task ≡ c.task → b.words ≡ c.words → IsTold plan state b → IsTold plan state c
  told_same b c task words told =
      record {
        few = subst (λ (t : TaskNo). length c.words ≤ length (deps_at plan t)) task (subst (λ (ws : List Word). length ws ≤ length (deps_at plan b.task)) words told.few);
        words = λ place dep word at was. told.words place dep word (ap (λ (t : TaskNo). slice_get (deps_at plan t) place) task ∙ at) (ap (λ (ws : List Word). slice_get ws place) words ∙ was);
      }

  told_in : (progress : Progress) (change : Block → Block) → ((b : Block) → b.task ≡ (change b).task) → ((b : Block) → b.words ≡ (change b).words) → AreTold plan state progress → AreTold plan state (in_block change progress)
  told_in idle change task words told block at = absurd (cc)
  told_in (busy b) change task words told block at =
      let same : change b ≡ block = cc in
      subst (IsTold plan state) same (told_same b (change b) (task b) (words b) (told b refl))
  told_in over change task words told block at = absurd (cc)

  told_hand : (hand : Hand) (progress : Progress) → AreTold plan state progress → AreTold plan state (with_hand hand progress)
  told_hand hand progress told = told_in progress (λ (b : Block). record b { hand = hand }) (λ b. refl) (λ b. refl) told

  told_more : (progress : Progress) → AreTold plan state progress → AreTold plan state (in_block (λ (b : Block). record b { hand = one_more b.hand }) progress)
  told_more progress told = told_in progress (λ (b : Block). record b { hand = one_more b.hand }) (λ b. refl) (λ b. refl) told

  told_look : (found : Option Key) (progress : Progress) → AreTold plan state progress → AreTold plan state (with_look found progress)
  told_look found progress told = told_in progress (λ (b : Block). record b { looked = Some found }) (λ b. refl) (λ b. refl) told

  told_tried : (key : Key) (progress : Progress) → AreTold plan state progress → AreTold plan state (with_tried key progress)
  told_tried key progress told = told_in progress (λ (b : Block). record b { tried = b.tried ++ key ∷ [] }) (λ b. refl) (λ b. refl) told

  told_new : (task : TaskNo) → IsTold plan state (new_block task)
  told_new task = record { few = omega arith; words = λ place dep word at was. absurd (none-some word was) }

  told_begun : (task : TaskNo) → AreTold plan state (busy (new_block task))
  told_begun task block at =
      let same : new_block task ≡ block = cc in
      subst (IsTold plan state) same (told_new task)

  -- one word more
  word_at : (words : List Word) (new word : Word) (place : ℕ) → slice_get (words ++ new ∷ []) place ≡ Some word → (slice_get words place ≡ Some word) ⊎ ((place ≡ length words) × (new ≡ word))
  word_at [] new word zero at = inr (refl, same_Some new word at)
  word_at [] new word (suc place) at = absurd (none-some word at)
  word_at (first ∷ words) new word zero at = inl at
  word_at (first ∷ words) new word (suc place) at = elim (word_at words new word place at) [
    | inl before ↦ inl before
    | inr last ↦ inr (ap suc last.0, last.1)
  ]

  told_word : (b : Block) (dep : TaskNo) (word : Word) → IsNextWord plan state b dep word → IsTold plan state b → IsTold plan state (record b { words = b.words ++ word ∷ [] })
  told_word b dep word news told =
      let within = slice_get_within (deps_at plan b.task) (length b.words) dep news.next_is in
      record {
        few = omega (arith, within, length-append b.words (word ∷ []));
        words = λ place other one at was. elim (word_at b.words word one place was) [
          | inl before ↦ told.words place other one at before
          | inr last ↦
              let same : dep ≡ other = same_Some dep other (sym news.next_is ∙ ap (slice_get (deps_at plan b.task)) (sym last.0) ∙ at) in
              (news.outcome, ap (λ (d : TaskNo). outcome_at state.board d.0) (sym same) ∙ news.at, sym last.1 ∙ news.word_is)
        ];
      }

  told_fetch : (progress : Progress) (dep : TaskNo) (word : Word) → IsNews plan state progress (events.Fetch dep word) → AreTold plan state progress → AreTold plan state (turn progress (events.Fetch dep word))
  told_fetch idle dep word news told block at = absurd (cc)
  told_fetch (busy b) dep word news told block at =
      let now : Block = record b { words = b.words ++ word ∷ [] } in
      let same : now ≡ block = cc in
      subst (IsTold plan state) same (told_word b dep word (news b refl) (told b refl))
  told_fetch over dep word news told block at = absurd (cc)

  told_turn : (progress : Progress) (event : Event) → IsNews plan state progress event → AreTold plan state progress → AreTold plan state (turn progress event)
  told_turn progress (events.Claim task) news told = told_begun task
  told_turn progress events.Over news told = λ block at. absurd (cc)
  told_turn progress (events.Fetch dep word) news told = told_fetch progress dep word news told
  told_turn progress (events.Hit key) news told = told_hand (reads key 0) (with_look (Some key) progress) (told_look (Some key) progress told)
  told_turn progress events.Miss news told = told_look None progress told
  told_turn progress (events.Read key place) news told = told_more progress told
  told_turn progress (events.Unpin key) news told = told_hand free progress told
  told_turn progress (events.Room key evicted) news told = told_hand (fills key 0) (with_tried key progress) (told_tried key progress told)
  told_turn progress (events.Already key) news told = told_tried key progress told
  told_turn progress (events.TooLarge key) news told = told_tried key progress told
  told_turn progress (events.Full key) news told = told_tried key progress told
  told_turn progress (events.Put key place) news told = told_more progress told
  told_turn progress (events.Commit key) news told = told_hand free progress told
  told_turn progress (events.Drop key) news told = told_hand free progress told
  told_turn progress (events.Done task word) news told = λ block at. absurd (cc)

-- ---- after an action

abbrev IsNewsOf : Plan → State → Progress → Option Event → Type 0
IsNewsOf plan state progress None = Unit {0}
IsNewsOf plan state progress (Some event) = IsNews plan state progress event

module _ (plan : Plan) (state : State) (worker : WorkerNo) (s : IsTrueState plan state) where
  next_word : (dep : TaskNo) → SaysFetch plan (progress_in state worker) dep → (block : Block) → progress_in state worker ≡ busy block
      → IsNextWord plan state block dep (word_of (option_map_or (λ outcome. outcome) (outcome_at state.board dep.0) outcomes.NoMemory))
  next_word dep said block at =
      let same : said.block ≡ block = (let was = said.at in cc) in
      let next_is : slice_get (deps_at plan block.task) (length block.words) ≡ Some dep = ap (λ (b : Block). slice_get (deps_at plan b.task) (length b.words)) (sym same) ∙ said.next_is in
      let end = dep_ended plan state worker block dep (length block.words) s at next_is in
      record {
        next_is = next_is;
        outcome = end.outcome;
        at = end.at;
        word_is = ap (λ (o : Option Outcome). word_of (option_map_or (λ outcome. outcome) o outcomes.NoMemory)) end.at;
      }

  claim_news : (puts : ℕ) (claim : Claim) → IsNewsOf plan state (progress_in state worker) (event_of puts actions.Claim (replies.Claimed claim))
  claim_news puts (claims.Task task) = tt
  claim_news puts claims.Idle = tt
  claim_news puts claims.Over = tt

  look_news : (look : Look) → IsNews plan state (progress_in state worker) (look_event look)
  look_news (looks.Hit place key count) = tt
  look_news looks.Miss = tt

  reserve_news : (key : Key) (reserve : Reserve) → IsNews plan state (progress_in state worker) (reserve_event key reserve)
  reserve_news key (reserves.Room evicted) = tt
  reserve_news key reserves.Already = tt
  reserve_news key reserves.TooLarge = tt
  reserve_news key reserves.Full = tt

  abbrev event_for : Action → Option Event
  event_for action = event_of (puts_of (part state worker)) action (gives state worker action)

  news_of : (action : Action) → Says plan (progress_in state worker) action → IsNewsOf plan state (progress_in state worker) (event_for action)
  news_of actions.Claim said = claim_news (puts_of (part state worker)) (claim_of state.board)
  news_of (actions.Fetch dep) said = next_word dep said
  news_of (actions.Look task) said = look_news (look_reply state.cache (marked_in state task))
  news_of (actions.Read key place) said = tt
  news_of (actions.Unpin key) said = tt
  news_of (actions.Reserve key size count) said = reserve_news key (reserve_reply state.cache key.0 size)
  news_of (actions.Put key chunk) said = tt
  news_of (actions.Commit key) said = tt
  news_of (actions.Drop key) said = tt
  news_of (actions.Done task outcome) said = tt

  told_own : (event : Option Event) → IsNewsOf plan state (progress_in state worker) event → AreTold plan state (progress_of (own worker.0 (state.log ++ entries worker event)))
  told_own None news block at = s.told worker.0 block (sym (ap (λ (log : List Entry). progress_of (own worker.0 log)) (append-nil state.log)) ∙ at)
  told_own (Some event) news block at =
      let now : progress_of (own worker.0 (state.log ++ entries worker (Some event))) ≡ turn (progress_in state worker) event =
      ap progress_of (own-same worker state.log event) ∙ fold_push (λ (p : Progress) (x : Entry). turn p x.event) idle (own worker.0 state.log) (record { worker = worker; event = event }) in
      told_turn plan state (progress_in state worker) event news (s.told worker.0) block (sym now ∙ at)

  told_now : (action : Action) → Says plan (progress_in state worker) action → (number : ℕ) → AreTold plan state (progress_by (after state worker action) number)
  told_now action said number = elim (cases_eq worker.0 number) [
    | inl same ↦ subst (λ (n : ℕ). AreTold plan state (progress_by (after state worker action) n)) same (told_own (event_for action) (news_of action said))
    | inr apart ↦ λ block at. s.told number block (sym (ap progress_of (own-other number worker state.log (event_for action) apart)) ∙ at)
  ]

  pub told_stay : (action : Action) → Says plan (progress_in state worker) action → KeepsEnds plan state.board (after state worker action).board → (number : ℕ) (block : Block) → progress_by (after state worker action) number ≡ busy block → IsTold plan (after state worker action) block
  told_stay action said keeps number block at =
      let told = told_now action said number block at in
      record {
        few = told.few;
        words = λ place dep word there was.
            let end = told.words place dep word there was in
            (end.0, keeps.stay dep.0 end.0 end.1, end.2);
      }
