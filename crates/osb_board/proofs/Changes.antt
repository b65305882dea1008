-- The laws, out of what the other files prove.
use Rattle.std.proofs.Common.{◌≡◌, ◌≢◌, ◌↔◌, ℕ, zero, suc, ◌<◌, ◌==◌, inl, inr, not, IsTrue, if◌then◌else◌, Bool, true, false, List, [], ◌∷◌, length, get_or, refl, sym, ap, subst, ◌∙◌, arith}
use Rattle.std.proofs.lemmas.Bool.{or_parts, or_from, not-true, not_from_false, cases_eq, cond-true, cond-false, eq-eqb, ne_eqb}
use Rattle.std.proofs.lemmas.List.Sums.{sum_by-cons}
use Rattle.std.specs.List.{slice_get}
use Rattle.std.specs.Option.{option_map_or}
use Rattle.osb_board.specs.declared.tasks.Task.{Task}
use Rattle.osb_board.specs.declared.tasks.TaskState.{TaskState}
use Rattle.osb_board.specs.declared.tasks.TaskState.TheVariants.{Waiting, Running, Done}
use Rattle.osb_board.specs.declared.tasks.Claim.{Claim}
use Rattle.osb_board.specs.declared.tasks.Claim.TheVariants.{Task as Claimed, Idle, Over}
use Rattle.osb_board.specs.Boards.{is_run_by, outcome_of, state_at, state_count, has_state, outcome_at, is_ready, claim_of, with_state, after_answer}
use Rattle.osb_board.specs.Laws.{ClaimIsLeast, IdleBoardIsIdleClaim, RunsNone, ChangesOne, ClaimChangesOne, DoneChangesOne}
use Rattle.osb_board.proofs.States.{deps-with_state, state_at-with_state, state_at-with_state_other, state_at_within, one_if, one_if-zero}
use Rattle.osb_board.proofs.Claims.{claim_of-Claimed, is_idle_claim, is_idle-claim_of}

is_ready_at-get_or : {O : Type 0} → (all board : List (Task O)) (n : ℕ) (d : Task O) → n < length board → option_map_or (is_ready all) (slice_get board n) false ≡ is_ready all (get_or board n d)
is_ready_at-get_or all [] n d h = absurd (omega arith)
is_ready_at-get_or all (task ∷ board) zero d h = refl
is_ready_at-get_or all (task ∷ board) (suc n) d h = is_ready_at-get_or all board n d (omega arith)

pub claim_is_least : (O : Type 0) → ClaimIsLeast O
claim_is_least O board task e =
    let d : Task O = record { deps = []; state = Waiting } in
    let first = claim_of-Claimed board task e in
    record {
      ready = is_ready_at-get_or board board task.0 d first.within ∙ first.ready d;
      before = λ k h. is_ready_at-get_or board board k d (omega (arith, first.within)) ∙ first.before k d h;
    }

idle_from_test : (claim : Claim) → is_idle_claim claim ≡ true → claim ≡ Idle
idle_from_test (Claimed task) e = cc
idle_from_test Idle e = refl
idle_from_test Over e = cc

pub idle_board_is_idle_claim : (O : Type 0) → IdleBoardIsIdleClaim O
idle_board_is_idle_claim O board =
    (λ e. idle_from_test (claim_of board) (sym (is_idle-claim_of board) ∙ e), λ e. is_idle-claim_of board ∙ ap is_idle_claim e)

count_none : {O : Type 0} → (test : TaskState O → Bool) (board : List (Task O)) → ((n : ℕ) → state_at test board n ≡ false) → state_count test board ≡ 0
count_none test [] none = refl
count_none {O} test (task ∷ board) none =
    let count : Task O → ℕ = λ t. one_if (test t.state) in
    omega (arith, sum_by-cons count task board, ap one_if (none 0), count_none test board (λ n. none (suc n)))

none_from_count : {O : Type 0} → (test : TaskState O → Bool) (board : List (Task O)) → state_count test board ≡ 0 → (n : ℕ) → state_at test board n ≡ false
none_from_count test [] e n = refl
none_from_count {O} test (task ∷ board) e zero =
    let count : Task O → ℕ = λ t. one_if (test t.state) in
    one_if-zero (test task.state) (omega (arith, e, sum_by-cons count task board))
none_from_count {O} test (task ∷ board) e (suc n) =
    let count : Task O → ℕ = λ t. one_if (test t.state) in
    none_from_count test board (omega (arith, e, sum_by-cons count task board)) n

pub runs_none : (O : Type 0) → RunsNone O
runs_none O board worker = (none_from_count (is_run_by worker) board, count_none (is_run_by worker) board)

count_unmet : {O : Type 0} → (test : TaskState O → Bool) (board : List (Task O)) → has_state test board ≡ false → state_count test board ≡ 0
count_unmet test [] e = refl
count_unmet {O} test (task ∷ board) e =
    let count : Task O → ℕ = λ t. one_if (test t.state) in
    let parts = or_parts (test task.state) (has_state test board) e in
    omega (arith, sum_by-cons count task board, ap one_if parts.0, count_unmet test board parts.1)

unmet_from_count : {O : Type 0} → (test : TaskState O → Bool) (board : List (Task O)) → state_count test board ≡ 0 → has_state test board ≡ false
unmet_from_count test [] e = refl
unmet_from_count {O} test (task ∷ board) e =
    let count : Task O → ℕ = λ t. one_if (test t.state) in
    or_from (test task.state) (has_state test board) (one_if-zero (test task.state) (omega (arith, e, sum_by-cons count task board)))
    (unmet_from_count test board (omega (arith, e, sum_by-cons count task board)))

-- no task is in a state that passes a test
pub unmet_exactly : {O : Type 0} → (test : TaskState O → Bool) (board : List (Task O)) → IsTrue (not (has_state test board)) ↔ (state_count test board ≡ 0)
unmet_exactly test board =
    (λ e. count_unmet test board (not-true (has_state test board) e), λ e. not_from_false (has_state test board) (unmet_from_count test board e))

-- One change.

outcome_at-with_state : {O : Type 0} → (n : ℕ) (state : TaskState O) (board : List (Task O)) → n < length board → outcome_at (with_state n state board) n ≡ outcome_of state
outcome_at-with_state n state [] h = absurd (omega arith)
outcome_at-with_state zero state (task ∷ board) h = refl
outcome_at-with_state (suc n) state (task ∷ board) h = outcome_at-with_state n state board (omega arith)

outcome_at-with_state_other : {O : Type 0} → (n : ℕ) (state : TaskState O) (board : List (Task O)) (k : ℕ) → k ≢ n → outcome_at (with_state n state board) k ≡ outcome_at board k
outcome_at-with_state_other n state [] k h = refl
outcome_at-with_state_other zero state (task ∷ board) zero h = absurd (h refl)
outcome_at-with_state_other zero state (task ∷ board) (suc k) h = refl
outcome_at-with_state_other (suc n) state (task ∷ board) zero h = refl
outcome_at-with_state_other (suc n) state (task ∷ board) (suc k) h = outcome_at-with_state_other n state board k (λ e. h (ap suc e))

-- what a reader of one place tells, from what it tells at that place and at others
one_place : {X : Type 0} → (now before : ℕ → X) (n : ℕ) (here : X) → now n ≡ here → ((k : ℕ) → k ≢ n → now k ≡ before k) → (k : ℕ) → now k ≡ (if k == n then here else before k)
one_place {X} now before n here same others k =
    elim (cases_eq k n) [
      | inl at ↦ ap now at ∙ same ∙ sym (cond-true _ _ _ (eq-eqb k n at))
      | inr other ↦ others k other ∙ sym (cond-false _ _ _ (ne_eqb k n other))
    ]

pub with_state_changes_one : {O : Type 0} → (board : List (Task O)) (n : ℕ) (state : TaskState O) → n < length board → ChangesOne board (with_state n state board) n state
with_state_changes_one {O} board n state within =
    record {
      deps = deps-with_state n state board;
      states = λ test k. one_place (state_at test (with_state n state board)) (state_at test board) n (test state) (state_at-with_state test n state board within) (state_at-with_state_other test n state board) k;
      outcomes = λ k. one_place (outcome_at (with_state n state board)) (outcome_at board) n (outcome_of state) (outcome_at-with_state n state board within) (outcome_at-with_state_other n state board) k;
    }

pub claim_changes_one : (O : Type 0) → ClaimChangesOne O
claim_changes_one O board worker task e =
    let P : List (Task O) → Type 0 = λ now. ChangesOne board now task.0 (Running worker) in
    subst P (ap (after_answer board worker) (sym e)) (with_state_changes_one board task.0 (Running worker) (claim_of-Claimed board task e).within)

pub done_changes_one : (O : Type 0) → DoneChangesOne O
done_changes_one O board worker task outcome runs =
    with_state_changes_one board task.0 (Done outcome) (state_at_within (is_run_by worker.0) board task.0 runs)
