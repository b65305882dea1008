-- How the places that are owed change.
use Rattle.std.proofs.Common.{◌≡◌, ℕ, ◌+◌, ◌-◌, ◌<◌, ◌≤◌, ◌==◌, ◌||◌, not, Bool, true, false, cond, List, [], ◌∷◌, ◌++◌, length, find, get_or, sum_by, count_by, Some, refl, sym, ap, subst, ◌∙◌, arith}
use Rattle.std.proofs.lemmas.Bool.{and_parts, eqb-true}
use Rattle.std.proofs.lemmas.List.{length-append}
use Rattle.std.proofs.lemmas.List.Sums.{sum_by-cons, sum_by_push}
use Rattle.osb_tree.specs.Trees.{Listing}
use Rattle.osb_tree.specs.declared.numbers.TaskNo.{TaskNo}
use Rattle.osb_tree.specs.declared.numbers.WorkerNo.{WorkerNo}
use Rattle.osb_board.specs.declared.tasks.Task.{Task}
use Rattle.osb_board.specs.declared.tasks.TaskState.{TaskState}
use Rattle.osb_board.specs.declared.tasks.TaskState.TheVariants.{Waiting, Running, Done}
use Rattle.osb_board.specs.declared.tasks.Claim.{Claim}
use Rattle.osb_board.specs.declared.tasks.Claim.TheVariants.{Task as Claimed}
use Rattle.osb_board.specs.Boards.{is_waiting, is_run_by, state_at, state_count, claim_of, with_state, after_answer, after_claim}
use Rattle.osb_board.proofs.States.{state_at_within, state_at-get_or, state_count-with_state, one_if}
use Rattle.osb_board.proofs.Claims.{claim_of-Claimed}
use Rattle.osb_cache.specs.Edits.{remove_first, update_first}
use Rattle.osb_cache.specs.Caches.{Line, Draft, has_key, is_pinned, pins_in, pins_on, touched, touch, unpinned, evict, new_draft, with_chunk, line_of_draft}
use Rattle.osb_cache.proofs.Sums.{sum-remove_first, sum-update_first, found_by_sum}
use Rattle.osb_cache.proofs.Lists.{length-remove_first}
use Rattle.osb_cache.proofs.Lookups.{touch-found, found_pinned, pins_found}
use Rattle.osb_machine.specs.Owed.{is_running, draft_owes, pin_count}

-- ---- tasks that run

waiting_rests : {O : Type 0} → (state : TaskState O) → is_waiting state ≡ true → is_running state ≡ false
waiting_rests Waiting e = refl
waiting_rests (Running worker) e = cc
waiting_rests (Done outcome) e = refl

run_runs : {O : Type 0} → (worker : ℕ) (state : TaskState O) → is_run_by worker state ≡ true → is_running state ≡ true
run_runs worker Waiting e = cc
run_runs worker (Running other) e = refl
run_runs worker (Done outcome) e = cc

pub running_claimed : {O : Type 0} → (board : List (Task O)) (worker : WorkerNo) (task : TaskNo) → claim_of board ≡ Claimed task → state_count is_running (after_claim board worker) ≡ state_count is_running board + 1
running_claimed {O} board worker task e =
    let d : Task O = record { deps = []; state = Waiting } in
    let first = claim_of-Claimed board task e in
    let rests : state_at is_running board task.0 ≡ false =
    state_at-get_or is_running board task.0 d first.within ∙ waiting_rests (get_or board task.0 d).state (and_parts _ _ (first.ready d)).0 in
    let same : after_claim board worker ≡ with_state task.0 (Running worker) board = ap (λ (claim : Claim). after_answer board worker claim) e in
    ap (state_count is_running) same ∙ omega (arith, state_count-with_state is_running task.0 (Running worker) board first.within, ap one_if rests)

pub running_done : {O : Type 0} → (board : List (Task O)) (worker : ℕ) (task : ℕ) (outcome : O) → state_at (is_run_by worker) board task ≡ true → state_count is_running (with_state task (Done outcome) board) + 1 ≡ state_count is_running board
running_done {O} board worker task outcome e =
    let d : Task O = record { deps = []; state = Waiting } in
    let within = state_at_within (is_run_by worker) board task e in
    let runs : state_at is_running board task ≡ true =
    state_at-get_or is_running board task d within ∙ run_runs worker (get_or board task d).state (sym (state_at-get_or (is_run_by worker) board task d within) ∙ e) in
    let end : TaskState O = Done outcome in
    omega (arith, state_count-with_state is_running task end board within, ap one_if runs)

-- ---- pins

pub pins_touched : (clock worker key : ℕ) (lines : List (Line Listing)) (line : Line Listing) → find (has_key key) lines ≡ Some line → pin_count (touch clock worker key lines) ≡ pin_count lines + 1
pins_touched clock worker key lines line e =
    let pins : Line Listing → ℕ = λ l. length l.pins in
    ap pin_count (touch-found clock worker key lines line e)
    ∙ omega (
      arith,
      sum_by_push pins (remove_first (has_key key) lines) (touched clock worker line),
      sum-remove_first pins (has_key key) lines line e,
      length-append line.pins (worker ∷ []),
    )

pub pins_unpinned : (worker key : ℕ) (lines : List (Line Listing)) → count_by (has_key key) lines ≤ 1 → 0 < pins_on worker key lines → pin_count (update_first (has_key key) (unpinned worker) lines) + 1 ≡ pin_count lines
pins_unpinned worker key lines apart held =
    let pins : Line Listing → ℕ = λ l. length l.pins in
    let own : ℕ → Bool = λ pin. pin == worker in
    let found = found_pinned worker key lines held in
    let line : Line Listing = found.0 in
    let some : 0 < pins_in worker line = subst (λ n. 0 < n) (pins_found worker key lines line apart found.1) held in
    let pin = found_by_sum (λ (x : ℕ). 1) own line.pins some in
    omega (
      arith,
      sum-update_first pins (has_key key) (unpinned worker) lines line found.1,
      length-remove_first own line.pins pin.0 pin.1,
    )

none_on : (line : Line Listing) → is_pinned line ≡ false → length line.pins ≡ 0
none_on line e = eqb-true (length line.pins) 0 (not_false (length line.pins == 0) e)
  where
    not_false : (b : Bool) → not b ≡ false → b ≡ true
    not_false true e = refl
    not_false false e = cc

evict_step : (pinned zero : Bool) (line : Line Listing) (lines stay left : List (Line Listing)) → is_pinned line ≡ pinned → pin_count stay ≡ pin_count lines → pin_count left ≡ pin_count lines → pin_count (cond (pinned || zero) (line ∷ stay) left) ≡ pin_count (line ∷ lines)
evict_step true zero line lines stay left pinned s l =
    let pins : Line Listing → ℕ = λ l. length l.pins in
    omega (arith, sum_by-cons pins line stay, sum_by-cons pins line lines, s)
evict_step false true line lines stay left pinned s l =
    let pins : Line Listing → ℕ = λ l. length l.pins in
    omega (arith, sum_by-cons pins line stay, sum_by-cons pins line lines, s)
evict_step false false line lines stay left pinned s l =
    let pins : Line Listing → ℕ = λ l. length l.pins in
    omega (arith, sum_by-cons pins line lines, none_on line pinned, l)

pub pins_evict : (excess : ℕ) (lines : List (Line Listing)) → pin_count (evict excess lines) ≡ pin_count lines
pins_evict excess [] = refl
pins_evict excess (line ∷ lines) =
    evict_step (is_pinned line) (excess == 0) line lines (evict excess lines) (evict (excess - line.size) lines) refl (pins_evict excess lines) (pins_evict (excess - line.size) lines)

pub pins_committed : (clock : ℕ) (lines : List (Line Listing)) (draft : Draft Listing) → pin_count (lines ++ line_of_draft clock draft ∷ []) ≡ pin_count lines
pins_committed clock lines draft =
    let pins : Line Listing → ℕ = λ l. length l.pins in
    omega (arith, sum_by_push pins lines (line_of_draft clock draft))

-- ---- staged entries

pub owes_reserved : (worker key size count : ℕ) (drafts : List (Draft Listing)) → sum_by draft_owes (drafts ++ new_draft worker key size count ∷ []) ≡ sum_by draft_owes drafts + count + 1
owes_reserved worker key size count drafts =
    let draft : Draft Listing = new_draft worker key size count in
    omega (arith, sum_by_push draft_owes drafts draft)

pub owes_put : (p : Draft Listing → Bool) (chunk : Listing) (drafts : List (Draft Listing)) (draft : Draft Listing) → find p drafts ≡ Some draft → length draft.chunks < draft.count → sum_by draft_owes (update_first p (with_chunk chunk) drafts) + 1 ≡ sum_by draft_owes drafts
owes_put p chunk drafts draft e few =
    omega (arith, sum-update_first draft_owes p (with_chunk chunk) drafts draft e, length-append draft.chunks (chunk ∷ []))

pub owes_removed : (p : Draft Listing → Bool) (drafts : List (Draft Listing)) (draft : Draft Listing) → find p drafts ≡ Some draft → sum_by draft_owes (remove_first p drafts) + (draft.count - length draft.chunks + 1) ≡ sum_by draft_owes drafts
owes_removed p drafts draft e = sum-remove_first draft_owes p drafts draft e
