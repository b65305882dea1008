-- From a hit on and until its worker unpins it, a key has an entry with what it means.
use Rattle.std.proofs.Common.{◌≡◌, ◌==◌, ◌&&◌, ℕ, ◌+◌, Bool, true, false, cond, List, [], ◌∷◌, ◌++◌, find, position, Option, Some, None, ◌⊎◌, inl, inr, refl, sym, ap, subst, ◌∙◌, append-nil, append_assoc}
use Rattle.std.specs.Prelude.{slice_get, option_map}
use Rattle.std.specs.List.{list_any}
use Rattle.std.proofs.lemmas.Bool.{false≢true, eq-eqb, eqb-true, or_parts}
use Rattle.std.proofs.lemmas.Option.{none-some, same_Some}
use Rattle.osb_tree.specs.Trees.{Listing}
use Rattle.osb_tree.specs.declared.numbers.Key.{Key}
use Rattle.osb_tree.specs.declared.numbers.TaskNo.{TaskNo}
use Rattle.osb_tree.specs.declared.numbers.WorkerNo.{WorkerNo}
use Rattle.osb_recipe.specs.declared.plans.Plan.{Plan}
use Rattle.osb_cache.specs.Caches.{Line, has_key, is_committed, key_at, look_at}
use Rattle.osb_cache.proofs.Firsts.{found_passes}
use Rattle.osb_cache.proofs.Lists.{All-found}
use Rattle.osb_cache.proofs.Lookups.{found_pinned}
use Rattle.osb_job.specs.declared.actions.Action.{Action}
use Rattle.osb_job.specs.declared.actions.Action.TheVariants as actions
use Rattle.osb_job.specs.declared.entries.Entry.{Entry}
use Rattle.osb_job.specs.declared.entries.Event.{Event}
use Rattle.osb_job.specs.declared.entries.Event.TheVariants as events
use Rattle.osb_job.specs.Moves.{look_event, event_of, puts_of}
use Rattle.osb_job.specs.Scripts.{reads, Block, Progress, idle, busy, over, one_more, turn, progress_of, chunks_meant, reading, going_on, giving_up, next}
use Rattle.osb_job.proofs.AgreeingRuns.{chunks_are}
use Rattle.osb_state.specs.States.{State, own, progress_in, hand_of, marked_in, part, gives}
use Rattle.osb_state.specs.Kept.{progress_by}
use Rattle.osb_state.specs.Truth.{IsTrueState, Keeps}
use Rattle.osb_state.specs.Runs.{task_of, replay}
use Rattle.osb_state.specs.KeptLogs.{entry_at, entry_by, unpins, is_unpin, PinsStand}
use Rattle.osb_state.proofs.ActedEntries.{IsActed, Acting}
use Rattle.osb_state.proofs.Changes.{progress_noted}
use Rattle.osb_state.proofs.OtherParts.{reading_pinned}
use Rattle.osb_state.proofs.Pinned.{found_entry}
use Rattle.osb_state.proofs.TrueOpenings.{IsMeantLine}
use Rattle.osb_state.proofs.TrueParts.{named}

-- ---- entries in a true state

meant_entry : (plan : Plan) (state : State) (key : Key) (line : Line Listing) → IsTrueState plan state → find (has_key key.0) state.cache.lines ≡ Some line → entry_at state key.0 ≡ Some (chunks_meant plan key)
meant_entry plan state key line s found =
    let lines : List (Line Listing) = state.cache.lines in
    let entry : IsMeantLine plan line = All-found (IsMeantLine plan) (has_key key.0) lines line found s.entries in
    let same : line.key ≡ key.0 = eqb-true line.key key.0 (found_passes (has_key key.0) lines line found) in
    ap (λ (o : Option (Line Listing)). option_map (λ line. line.chunks) o) found
    ∙ ap (λ (chunks : List Listing). Some chunks) (entry.all ∙ sym (chunks_are plan key entry.tree (named plan line.key key entry.tree same entry.means)))

-- what a worker reads
read_entry : (plan : Plan) (state : State) (worker : WorkerNo) (key : Key) (count : ℕ) → IsTrueState plan state → hand_of (progress_in state worker) ≡ reads key count → entry_at state key.0 ≡ Some (chunks_meant plan key)
read_entry plan state worker key count s has =
    let there = found_pinned worker.0 key.0 state.cache.lines (reading_pinned state worker key count s.valid has) in
    meant_entry plan state key there.0 s there.1

-- ---- a hit

look_found : (lines : List (Line Listing)) (keys : List Key) (at : Option ℕ) (key : Key) → position (λ (k : Key). is_committed k.0 lines) keys ≡ at → look_event (look_at lines keys at) ≡ events.Hit key → (line : Line Listing) × (find (has_key key.0) lines ≡ Some line)
look_found lines keys None key there is = absurd (cc)
look_found lines keys (Some place) key there is =
    let same : key_at keys place ≡ key = cc in
    let entry = (found_entry lines keys place there).entry in
    (entry.line, subst (λ (k : Key). find (has_key k.0) lines ≡ Some entry.line) same entry.found)

hit_entry : (plan : Plan) (state : State) (worker : WorkerNo) (key : Key) → IsTrueState plan state → IsActed plan state (entry_by worker (events.Hit key)) → entry_at state key.0 ≡ Some (chunks_meant plan key)
hit_entry plan state worker key s acted =
    let hit : Event = events.Hit key in
    let task : TaskNo = task_of (progress_in state worker) in
    let looked : event_of (puts_of (part state worker)) (actions.Look task) (gives state worker (actions.Look task)) ≡ Some hit =
    subst (λ (a : Action). event_of (puts_of (part state worker)) a (gives state worker a) ≡ Some hit) (sym acted.tells) acted.event_is in
    let lines : List (Line Listing) = state.cache.lines in
    let keys : List Key = marked_in state task in
    let at : Option ℕ = position (λ (k : Key). is_committed k.0 lines) keys in
    let there = look_found lines keys at key refl (same_Some (look_event (look_at lines keys at)) hit looked) in
    meant_entry plan state key there.0 s there.1

hit_hand : (plan : Plan) (progress : Progress) (off : Bool) (action : Action) (task : TaskNo) (key : Key) → next plan progress off ≡ Some action → actions.Look task ≡ action → hand_of (turn progress (events.Hit key)) ≡ reads key 0
hit_hand plan idle true action task key is look = absurd (none-some action is)
hit_hand plan idle false action task key is look = absurd (cc)
hit_hand plan (busy block) off action task key is look = refl
hit_hand plan over off action task key is look = absurd (none-some action is)

-- ---- a worker that reads an entry goes on with it until it unpins it

reading_action : (plan : Plan) (block : Block) (off : Bool) (action : Action) (key : Key) (count : ℕ) → hand_of (busy block) ≡ reads key count → next plan (busy block) off ≡ Some action → (action ≡ actions.Read key count) ⊎ (action ≡ actions.Unpin key)
reading_action plan block true action key count has is = inr (sym (same_Some (giving_up block.task block.hand) action is) ∙ ap (giving_up block.task) has)
reading_action plan block false action key count has is =
    by (slice_get (chunks_meant plan key) count) (sym (same_Some (going_on plan block block.hand) action is) ∙ ap (going_on plan block) has)
  where
    by : (chunk : Option Listing) → action ≡ reading key count chunk → (action ≡ actions.Read key count) ⊎ (action ≡ actions.Unpin key)
    by (Some chunk) same = inl same
    by None same = inr same

reads_on : (plan : Plan) (state : State) (worker : WorkerNo) (progress : Progress) (off : Bool) (action : Action) (puts : ℕ) (event : Event) (key : Key) (count : ℕ) → hand_of progress ≡ reads key count → next plan progress off ≡ Some action → event_of puts action (gives state worker action) ≡ Some event
    → unpins key event ≡ false → (more : ℕ) × (hand_of (turn progress event) ≡ reads key more)
reads_on plan state worker idle off action puts event key count has is acted pinned = absurd (cc)
reads_on plan state worker (busy block) off action puts event key count has is acted pinned =
    let P : Action → Type 0 = λ a. event_of puts a (gives state worker a) ≡ Some event in
    elim (reading_action plan block off action key count has is) [
      | inl read ↦
          let same : events.Read key count ≡ event = same_Some (events.Read key count) event (subst P read acted) in
          (count + 1, subst (λ (e : Event). hand_of (turn (busy block) e) ≡ reads key (count + 1)) same (ap one_more has))
      | inr unpin ↦
          let same : events.Unpin key ≡ event = same_Some (events.Unpin key) event (subst P unpin acted) in
          absurd (false≢true (sym (subst (λ (e : Event). unpins key e ≡ false) (sym same) pinned) ∙ eq-eqb key.0 key.0 refl))
    ]
reads_on plan state worker over off action puts event key count has is acted pinned = absurd (cc)

module _ (plan : Plan) (start : State) (log : List Entry) (keeps : Keeps plan start log) (acts : Acting plan start log) (worker : WorkerNo) (key : Key) where
  -- after these entries the worker reads the entry of the key
  abbrev Reading : List Entry → Type 0
  Reading front = (count : ℕ) × (hand_of (progress_in (replay plan start front) worker) ≡ reads key count)

  log_more : (front rest : List Entry) (entry : Entry) → log ≡ front ++ entry ∷ rest → (replay plan start (front ++ entry ∷ [])).log ≡ (replay plan start front).log ++ entry ∷ []
  log_more front rest entry is =
      keeps.logs (front ++ entry ∷ []) rest (is ∙ sym (append_assoc front (entry ∷ []) rest))
      ∙ sym (append_assoc start.log front (entry ∷ []))
      ∙ ap (λ (xs : List Entry). xs ++ entry ∷ []) (sym (keeps.logs front (entry ∷ rest) is))

  turned : (front rest : List Entry) (entry : Entry) (b : Bool) → log ≡ front ++ entry ∷ rest → (entry.worker.0 == worker.0) ≡ b
      → progress_in (replay plan start (front ++ entry ∷ [])) worker ≡ cond b (turn (progress_in (replay plan start front) entry.worker) entry.event) (progress_in (replay plan start front) worker)
  turned front rest entry b is same =
      let state : State = replay plan start front in
      ap (λ (xs : List Entry). progress_of (own worker.0 xs)) (log_more front rest entry is)
      ∙ progress_noted worker.0 entry state.log
      ∙ ap (λ (c : Bool). cond c (turn (progress_in state entry.worker) entry.event) (progress_in state worker)) same

  reading_more : (front rest : List Entry) (entry : Entry) (b : Bool) → log ≡ front ++ entry ∷ rest → (entry.worker.0 == worker.0) ≡ b → (b && unpins key entry.event) ≡ false → Reading front → Reading (front ++ entry ∷ [])
  reading_more front rest entry false is other pinned has = (has.0, ap hand_of (turned front rest entry false is other) ∙ has.1)
  reading_more front rest entry true is same pinned has =
      let state : State = replay plan start front in
      let acted = acts front rest entry is in
      let own_hand : hand_of (progress_in state entry.worker) ≡ reads key has.0 = ap (λ (n : ℕ). hand_of (progress_by state n)) (eqb-true entry.worker.0 worker.0 same) ∙ has.1 in
      let more = reads_on plan state entry.worker (progress_in state entry.worker) acted.off acted.action (puts_of (part state entry.worker)) entry.event key has.0 own_hand acted.is acted.event_is pinned in
      (more.0, ap hand_of (turned front rest entry true is same) ∙ more.1)

  reading_through : (between front rest : List Entry) → log ≡ front ++ (between ++ rest) → list_any (is_unpin worker key) between ≡ false → Reading front → Reading (front ++ between)
  reading_through [] front rest is none has = subst Reading (sym (append-nil front)) has
  reading_through (entry ∷ between) front rest is none has =
      let parts = or_parts (is_unpin worker key entry) (list_any (is_unpin worker key) between) none in
      let here : Reading (front ++ entry ∷ []) = reading_more front (between ++ rest) entry (entry.worker.0 == worker.0) is refl parts.0 has in
      let left : log ≡ (front ++ entry ∷ []) ++ (between ++ rest) = is ∙ sym (append_assoc front (entry ∷ []) (between ++ rest)) in
      subst Reading (append_assoc front (entry ∷ []) between) (reading_through between (front ++ entry ∷ []) rest left parts.1 here)

  reading_begins : (before rest : List Entry) → log ≡ before ++ entry_by worker (events.Hit key) ∷ rest → Reading (before ++ entry_by worker (events.Hit key) ∷ [])
  reading_begins before rest is =
      let hit : Entry = entry_by worker (events.Hit key) in
      let acted = acts before rest hit is in
      let progress : Progress = progress_in (replay plan start before) worker in
      (0, ap hand_of (turned before rest hit true is (eq-eqb worker.0 worker.0 refl)) ∙ hit_hand plan progress acted.off acted.action (task_of progress) key acted.is acted.tells)

pub pins_stand : (plan : Plan) (start : State) (log : List Entry) → Keeps plan start log → Acting plan start log → PinsStand plan start log
pins_stand plan start log keeps acts before between rest worker key is none =
    let hit : Entry = entry_by worker (events.Hit key) in
    let split : log ≡ before ++ hit ∷ (between ++ rest) = is ∙ append_assoc before (hit ∷ between) rest in
    let begins : Reading plan start log keeps acts worker key (before ++ hit ∷ []) = reading_begins plan start log keeps acts worker key before (between ++ rest) split in
    let left : log ≡ (before ++ hit ∷ []) ++ (between ++ rest) = split ∙ sym (append_assoc before (hit ∷ []) (between ++ rest)) in
    let through = reading_through plan start log keeps acts worker key between (before ++ hit ∷ []) rest left none begins in
    let still : Reading plan start log keeps acts worker key (before ++ hit ∷ between) = subst (Reading plan start log keeps acts worker key) (append_assoc before (hit ∷ []) between) through in
    let true_before = keeps.front before (hit ∷ (between ++ rest)) split in
    let true_now = keeps.front (before ++ hit ∷ between) rest is in
    (chunks_meant plan key, hit_entry plan (replay plan start before) worker key true_before (acts before (between ++ rest) hit split), read_entry plan (replay plan start (before ++ hit ∷ between)) worker key still.0 true_now still.1)
