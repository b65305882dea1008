-- What an allowed action may ask of the cache and the board, by what holds of the shared state.
use Rattle.std.proofs.Common.{◌≡◌, ℕ, ◌<◌, ◌==◌, ◌&&◌, ◌||◌, Bool, true, false, cond, List, [], ◌∷◌, length, map, find, get_or, count_by, Some, refl, sym, ap, subst, ◌∙◌, arith}
use Rattle.std.specs.List.{list_any, list_all}
use Rattle.std.proofs.lemmas.Bool.{false≢true, and_parts, eqb-true, eq-eqb}
use Rattle.std.proofs.lemmas.List.{get_or-map}
use Rattle.osb_tree.specs.Trees.{Listing}
use Rattle.osb_tree.specs.declared.numbers.Key.{Key}
use Rattle.osb_tree.specs.declared.numbers.TaskNo.{TaskNo}
use Rattle.osb_tree.specs.declared.numbers.WorkerNo.{WorkerNo}
use Rattle.osb_recipe.specs.declared.outcomes.Outcome.{Outcome}
use Rattle.osb_board.specs.declared.tasks.Task.{Task}
use Rattle.osb_board.specs.declared.tasks.TaskState.{TaskState}
use Rattle.osb_board.specs.declared.tasks.TaskState.TheVariants.{Waiting, Running, Done}
use Rattle.osb_board.specs.Boards.{is_waiting, is_run_by, is_done, state_at, state_count}
use Rattle.osb_board.proofs.States.{state_at_within, state_at-get_or}
use Rattle.osb_board.proofs.Changes.{runs_none}
use Rattle.osb_cache.specs.Caches.{Draft, is_draft, pins_on, HasDraft}
use Rattle.osb_cache.proofs.Firsts.{any_found}
use Rattle.osb_cache.proofs.Sums.{found_by_sum}
use Rattle.osb_job.specs.Scripts.{Hand, reads, fills, Progress, idle, progress_of}
use Rattle.osb_job.specs.Allowed.{IsBusy, IsReading, IsFilling, MayFetch}
use Rattle.osb_state.specs.States.{State, hand_of, progress_in, draft_for, part}
use Rattle.osb_state.specs.Kept.{pins_due, drafts_due, runs, Valid}

-- ---- what the worker is at

pub has_in_hand : (state : State) (worker : WorkerNo) (task : TaskNo) (hand : Hand) → IsBusy (part state worker) task hand → hand_of (progress_in state worker) ≡ hand
has_in_hand state worker task hand at = ap hand_of at.at ∙ at.hand_is

pub runs_task : (state : State) (worker : WorkerNo) (task : TaskNo) (hand : Hand) → Valid state → IsBusy (part state worker) task hand → state_at (is_run_by worker.0) state.board task.0 ≡ true
runs_task state worker task hand valid at =
    valid.running worker.0 task.0 ∙ ap (λ (progress : Progress). runs progress task.0) at.at ∙ eq-eqb at.block.task.0 task.0 (ap (λ (t : TaskNo). t.0) at.task_is)

abbrev one_if : Bool → ℕ
one_if b = cond b 1 0

same_number : (n : ℕ) → one_if (n == n) ≡ one_if true
same_number n = ap one_if (eq-eqb n n refl)

-- ---- claims and fetches

pub may_claim : (state : State) (worker : WorkerNo) → Valid state → progress_of (part state worker).mine ≡ idle → state_count (is_run_by worker.0) state.board ≡ 0
may_claim state worker valid rests =
    (runs_none Outcome state.board worker.0).1 (λ task. valid.running worker.0 task ∙ ap (λ (progress : Progress). runs progress task) rests)

begun : {O : Type 0} → (worker : ℕ) (state : TaskState O) → is_run_by worker state ≡ true → is_waiting state ≡ false
begun worker Waiting e = cc
begun worker (Running other) e = refl
begun worker (Done outcome) e = refl

-- a number that stands in a list, all of which pass
passes_step : (q : ℕ → Bool) (n d : ℕ) (b : Bool) (others any : Bool) → (d == n) ≡ b → (others ≡ true → any ≡ true → q n ≡ true) → (q d && others) ≡ true → (b || any) ≡ true → q n ≡ true
passes_step q n d true others any same rest all some =
    subst (λ (k : ℕ). q k ≡ true) (eqb-true d n same) (and_parts (q d) others all).0
passes_step q n d false others any same rest all some = rest (and_parts (q d) others all).1 some

passes : (q : ℕ → Bool) (n : ℕ) (deps : List TaskNo) → list_all (λ dep. q dep.0) deps ≡ true → list_any (λ dep. dep.0 == n) deps ≡ true → q n ≡ true
passes q n [] all some = absurd (false≢true some)
passes q n (dep ∷ deps) all some =
    passes_step q n dep.0 (dep.0 == n) (list_all (λ (d : TaskNo). q d.0) deps) (list_any (λ (d : TaskNo). d.0 == n) deps) refl (passes q n deps) all some

pub may_fetch : (state : State) (worker : WorkerNo) (dep : TaskNo) → Valid state → MayFetch (part state worker) dep → state_at is_done state.board dep.0 ≡ true
may_fetch state worker dep valid may =
    let board : List (Task Outcome) = state.board in
    let d : Task Outcome = record { deps = []; state = Waiting } in
    let n : ℕ = may.task.0 in
    let runs = runs_task state worker may.task may.hand valid may.busy in
    let within : n < length board = state_at_within (is_run_by worker.0) board n runs in
    let done = valid.board_is.ready n d within (begun worker.0 (get_or board n d).state (sym (state_at-get_or (is_run_by worker.0) board n d within) ∙ runs)) in
    let deps : get_or (map (λ (t : Task Outcome). t.deps) board) n [] ≡ (get_or board n d).deps = get_or-map (λ (t : Task Outcome). t.deps) board n d [] within in
    passes (λ (k : ℕ). state_at is_done board k) dep.0 (get_or board n d).deps done (subst (λ (xs : List TaskNo). list_any (λ (x : TaskNo). x.0 == dep.0) xs ≡ true) deps may.waits)

-- ---- pins and staged entries

pub has_pin : (state : State) (worker : WorkerNo) (key : Key) → Valid state → IsReading (part state worker) key → pins_on worker.0 key.0 state.cache.lines ≡ 1
has_pin state worker key valid reading =
    valid.pinned worker.0 key.0 ∙ ap (λ (hand : Hand). pins_due hand key.0) (has_in_hand state worker reading.task (reads key reading.count) reading.busy) ∙ same_number key.0

has_one_draft : (state : State) (worker : WorkerNo) (key : Key) → Valid state → IsFilling (part state worker) key → count_by (is_draft worker.0 key.0) state.cache.drafts ≡ 1
has_one_draft state worker key valid filling =
    valid.drafted worker.0 key.0 ∙ ap (λ (hand : Hand). drafts_due hand key.0) (has_in_hand state worker filling.task (fills key filling.count) filling.busy) ∙ same_number key.0

pub has_draft : (state : State) (worker : WorkerNo) (key : Key) → Valid state → IsFilling (part state worker) key → (draft : Draft Listing) × (find (is_draft worker.0 key.0) state.cache.drafts ≡ Some draft)
has_draft state worker key valid filling =
    found_by_sum (λ (x : Draft Listing). 1) (is_draft worker.0 key.0) state.cache.drafts (omega (arith, has_one_draft state worker key valid filling))

pub may_drop : (state : State) (worker : WorkerNo) (key : Key) → Valid state → IsFilling (part state worker) key → HasDraft state.cache worker.0 key.0
may_drop state worker key valid filling =
    let found = has_draft state worker key valid filling in
    any_found (is_draft worker.0 key.0) state.cache.drafts found.0 found.1

-- the own draft is the one of the cache
pub own_draft : (state : State) (worker : WorkerNo) (key : Key) (draft : Draft Listing) → IsFilling (part state worker) key → (part state worker).draft ≡ Some draft → find (is_draft worker.0 key.0) state.cache.drafts ≡ Some draft
own_draft state worker key draft filling own =
    sym (ap (λ (hand : Hand). draft_for worker hand state.cache.drafts) (has_in_hand state worker filling.task (fills key filling.count) filling.busy)) ∙ own
