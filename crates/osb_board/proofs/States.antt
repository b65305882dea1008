-- What the change of one task's state does to a board.
use Rattle.std.proofs.Common.{◌≡◌, ◌≢◌, ℕ, zero, suc, ◌<◌, ◌≤◌, ◌+◌, Bool, true, false, cond, List, [], ◌∷◌, map, length, get_or, set, refl, sym, ap, ◌∙◌, arith}
use Rattle.std.proofs.lemmas.Bool.{false≢true}
use Rattle.std.proofs.lemmas.List.Sums.{sum_by-cons}
use Rattle.osb_board.specs.declared.tasks.Task.{Task}
use Rattle.osb_board.specs.declared.tasks.TaskState.{TaskState}
use Rattle.osb_board.specs.Boards.{state_at, state_count, with_state}

pub set-with_state : {O : Type 0} → (board : List (Task O)) (n : ℕ) (state : TaskState O) (d : Task O) → n < length board → set board n (record { deps = (get_or board n d).deps; state = state }) ≡ with_state n state board
set-with_state [] n state d h = absurd (omega arith)
set-with_state (task ∷ board) zero state d h = refl
set-with_state (task ∷ board) (suc n) state d h = ap (λ rest. task ∷ rest) (set-with_state board n state d (omega arith))

-- the same of a task that was read
pub state_written : {O : Type 0} → (board : List (Task O)) (n : ℕ) (state : TaskState O) (task : Task O) → n < length board → task ≡ get_or board n task → set board n (record { deps = task.deps; state = state }) ≡ with_state n state board
state_written {O} board n state task h same =
    ap (λ (t : Task O). set board n (record { deps = t.deps; state = state })) same ∙ set-with_state board n state task h

pub deps-with_state : {O : Type 0} → (n : ℕ) (state : TaskState O) (board : List (Task O)) → map (λ task. task.deps) (with_state n state board) ≡ map (λ task. task.deps) board
deps-with_state n state [] = refl
deps-with_state zero state (task ∷ board) = refl
deps-with_state (suc n) state (task ∷ board) = ap (λ rest. task.deps ∷ rest) (deps-with_state n state board)

-- a test that the old and the new state pass alike
pub state_at_same : {O : Type 0} → (test : TaskState O → Bool) (n : ℕ) (state : TaskState O) (board : List (Task O)) → state_at test board n ≡ test state → (k : ℕ) → state_at test (with_state n state board) k ≡ state_at test board k
state_at_same test n state [] e k = refl
state_at_same test zero state (task ∷ board) e zero = sym e
state_at_same test zero state (task ∷ board) e (suc k) = refl
state_at_same test (suc n) state (task ∷ board) e zero = refl
state_at_same test (suc n) state (task ∷ board) e (suc k) = state_at_same test n state board e k

-- a test that the new state passes
pub state_at_more : {O : Type 0} → (test : TaskState O → Bool) (n : ℕ) (state : TaskState O) (board : List (Task O)) → test state ≡ true → (k : ℕ) → state_at test board k ≡ true → state_at test (with_state n state board) k ≡ true
state_at_more test n state [] e k h = h
state_at_more test zero state (task ∷ board) e zero h = e
state_at_more test zero state (task ∷ board) e (suc k) h = h
state_at_more test (suc n) state (task ∷ board) e zero h = h
state_at_more test (suc n) state (task ∷ board) e (suc k) h = state_at_more test n state board e k h

pub state_at-with_state : {O : Type 0} → (test : TaskState O → Bool) (n : ℕ) (state : TaskState O) (board : List (Task O)) → n < length board → state_at test (with_state n state board) n ≡ test state
state_at-with_state test n state [] h = absurd (omega arith)
state_at-with_state test zero state (task ∷ board) h = refl
state_at-with_state test (suc n) state (task ∷ board) h = state_at-with_state test n state board (omega arith)

pub state_at-with_state_other : {O : Type 0} → (test : TaskState O → Bool) (n : ℕ) (state : TaskState O) (board : List (Task O)) (k : ℕ) → k ≢ n → state_at test (with_state n state board) k ≡ state_at test board k
state_at-with_state_other test n state [] k h = refl
state_at-with_state_other test zero state (task ∷ board) zero h = absurd (h refl)
state_at-with_state_other test zero state (task ∷ board) (suc k) h = refl
state_at-with_state_other test (suc n) state (task ∷ board) zero h = refl
state_at-with_state_other test (suc n) state (task ∷ board) (suc k) h = state_at-with_state_other test n state board k (λ e. h (ap suc e))

-- a task whose state passes a test is on the board
pub state_at_within : {O : Type 0} → (test : TaskState O → Bool) (board : List (Task O)) (n : ℕ) → state_at test board n ≡ true → n < length board
state_at_within test [] n h = absurd (false≢true h)
state_at_within test (task ∷ board) zero h = omega arith
state_at_within test (task ∷ board) (suc n) h = omega (arith, state_at_within test board n h)

pub state_at-get_or : {O : Type 0} → (test : TaskState O → Bool) (board : List (Task O)) (n : ℕ) (d : Task O) → n < length board → state_at test board n ≡ test (get_or board n d).state
state_at-get_or test [] n d h = absurd (omega arith)
state_at-get_or test (task ∷ board) zero d h = refl
state_at-get_or test (task ∷ board) (suc n) d h = state_at-get_or test board n d (omega arith)

abbrev pub one_if : Bool → ℕ
one_if b = cond b 1 0

pub one_if-le : (b : Bool) → one_if b ≤ 1
one_if-le true = omega arith
one_if-le false = omega arith

pub one_if-zero : (b : Bool) → one_if b ≡ 0 → b ≡ false
one_if-zero true e = absurd (omega (arith, e))
one_if-zero false e = refl

pub state_count-with_state : {O : Type 0} → (test : TaskState O → Bool) (n : ℕ) (state : TaskState O) (board : List (Task O)) → n < length board → state_count test (with_state n state board) + one_if (state_at test board n) ≡ state_count test board + one_if (test state)
state_count-with_state test n state [] h = absurd (omega arith)
state_count-with_state {O} test zero state (task ∷ board) h =
    let count : Task O → ℕ = λ t. one_if (test t.state) in
    omega (arith, sum_by-cons count task board, sum_by-cons count (record task { state = state }) board)
state_count-with_state {O} test (suc n) state (task ∷ board) h =
    let count : Task O → ℕ = λ t. one_if (test t.state) in
    omega (arith, sum_by-cons count task board, sum_by-cons count task (with_state n state board), state_count-with_state test n state board (omega arith))
