-- What holds of each board stays under each call.
use Rattle.std.proofs.Common.{◌≡◌, ℕ, ◌<◌, ◌≤◌, Bool, true, false, inl, inr, List, [], ◌∷◌, map, All, length, get_or, refl, sym, ap, subst, ◌∙◌, arith}
use Rattle.std.proofs.lemmas.Bool.{and_parts, cases_eq, ne_eqb}
use Rattle.std.proofs.lemmas.List.Elements.{All-set, All-weaker, All-map}
use Rattle.std.proofs.lemmas.List.Sums.{sum_by-cons, AllPass-from_list_all, list_all-from_AllPass}
use Rattle.osb_tree.specs.declared.numbers.TaskNo.{TaskNo}
use Rattle.osb_tree.specs.declared.numbers.WorkerNo.{WorkerNo}
use Rattle.osb_board.specs.declared.tasks.Task.{Task}
use Rattle.osb_board.specs.declared.tasks.TaskState.{TaskState}
use Rattle.osb_board.specs.declared.tasks.TaskState.TheVariants.{Waiting, Running, Done}
use Rattle.osb_board.specs.declared.tasks.Claim.{Claim}
use Rattle.osb_board.specs.declared.tasks.Claim.TheVariants.{Task as Claimed, Idle, Over}
use Rattle.osb_board.specs.Boards.{is_waiting, is_done, is_run_by, state_at, state_count, has_done_deps, claim_of, with_state, after_answer, after_claim, after_done, new_board, AreLower, HasDoneDeps, IsBoard}
use Rattle.osb_board.proofs.States.{set-with_state, deps-with_state, state_at_same, state_at_more, state_at_within, state_at-get_or, state_count-with_state, one_if, one_if-le}
use Rattle.osb_board.proofs.Claims.{IsFirstReady, claim_of-Claimed}

pub All-with_state : {O : Type 0} → (P : Task O → Type 0) (n : ℕ) (state : TaskState O) (board : List (Task O)) (d : Task O) → n < length board → P (record { deps = (get_or board n d).deps; state = state }) → All P board → All P (with_state n state board)
All-with_state P n state board d within here all =
    subst (All P) (set-with_state board n state d within) (All-set P board n _ here all)

-- where each done task stays done, so do all dependencies of a task
pub has_done_deps_more : {O : Type 0} → (before now : List (Task O)) → ((k : ℕ) → state_at is_done before k ≡ true → state_at is_done now k ≡ true) → (task : Task O) → has_done_deps before task ≡ true → has_done_deps now task ≡ true
has_done_deps_more before now more task e =
    let was : TaskNo → Bool = λ dep. state_at is_done before dep.0 in
    let is : TaskNo → Bool = λ dep. state_at is_done now dep.0 in
    list_all-from_AllPass is task.deps (All-weaker (λ (dep : TaskNo). was dep ≡ true) (λ (dep : TaskNo). is dep ≡ true) (λ dep h. more dep.0 h) task.deps (AllPass-from_list_all was task.deps e))

pub HasDoneDeps-with_state : {O : Type 0} → (board : List (Task O)) (n : ℕ) (state : TaskState O) (d : Task O) → n < length board → ((k : ℕ) → state_at is_done board k ≡ true → state_at is_done (with_state n state board) k ≡ true) → has_done_deps board (get_or board n d) ≡ true → HasDoneDeps board → HasDoneDeps (with_state n state board)
HasDoneDeps-with_state {O} board n state d within more here ready =
    let now : List (Task O) = with_state n state board in
    let Q : Task O → Type 0 = λ task. is_waiting task.state ≡ false → has_done_deps now task ≡ true in
    All-with_state Q n state board d within
    (λ _. has_done_deps_more board now more (get_or board n d) here)
    (All-weaker (λ (task : Task O). is_waiting task.state ≡ false → has_done_deps board task ≡ true) Q (λ task h e. has_done_deps_more board now more task (h e)) board ready)

-- New boards.

waits_none : {O : Type 0} → (test : TaskState O → Bool) → test Waiting ≡ false → (deps : List (List TaskNo)) → state_count test (new_board deps) ≡ 0
waits_none test e [] = refl
waits_none {O} test e (list ∷ deps) =
    let count : Task O → ℕ = λ t. one_if (test t.state) in
    omega (arith, sum_by-cons count (record { deps = list; state = Waiting }) (new_board deps), ap one_if e, waits_none test e deps)

deps-new_board : (O : Type 0) (deps : List (List TaskNo)) → map (λ (task : Task O). task.deps) (new_board deps) ≡ deps
deps-new_board O [] = refl
deps-new_board O (list ∷ deps) = ap (λ rest. list ∷ rest) (deps-new_board O deps)

ready-new_board : (O : Type 0) (board : List (Task O)) (deps : List (List TaskNo)) → All (λ (task : Task O). is_waiting task.state ≡ false → has_done_deps board task ≡ true) (new_board deps)
ready-new_board O board deps =
    let P : Task O → Type 0 = λ task. is_waiting task.state ≡ false → has_done_deps board task ≡ true in
    All-map P (λ (list : List TaskNo). record { deps = list; state = Waiting }) deps (λ k d h e. cc)

pub IsBoard-new_board : (O : Type 0) (deps : List (List TaskNo)) → AreLower deps → IsBoard {O = O} (new_board deps)
IsBoard-new_board O deps lower =
    record {
      lower = subst AreLower (sym (deps-new_board O deps)) lower;
      ready = ready-new_board O (new_board deps) deps;
      single = λ worker. omega (arith, waits_none {O = O} (is_run_by worker) refl deps);
    }

-- A claim.

waiting_not_done : {O : Type 0} → (state : TaskState O) → is_waiting state ≡ true → is_done state ≡ false
waiting_not_done Waiting e = refl
waiting_not_done (Running worker) e = refl
waiting_not_done (Done outcome) e = cc

pub IsBoard-claimed : {O : Type 0} → (board : List (Task O)) (worker : WorkerNo) (n : ℕ) → IsBoard board → state_count (is_run_by worker.0) board ≡ 0 → IsFirstReady board n → IsBoard (with_state n (Running worker) board)
IsBoard-claimed {O} board worker n b free least =
    let d : Task O = record { deps = []; state = Waiting } in
    let run : TaskState O = Running worker in
    let ready = and_parts _ _ (least.ready d) in
    let was : state_at is_done board n ≡ false = state_at-get_or is_done board n d least.within ∙ waiting_not_done (get_or board n d).state ready.0 in
    let count = λ (v : ℕ). state_count-with_state (is_run_by v) n run board least.within in
    let single : ℕ → Type 0 = λ v. state_count (is_run_by v) (with_state n run board) ≤ 1 in
    record {
      lower = subst AreLower (sym (deps-with_state n run board)) b.lower;
      ready = HasDoneDeps-with_state board n run d least.within (λ k h. state_at_same is_done n run board was k ∙ h) ready.1 b.ready;
      single = λ v.
          elim (cases_eq worker.0 v) [
            | inl same ↦ subst single same (omega (arith, free, count worker.0, one_if-le (is_run_by worker.0 run)))
            | inr other ↦ omega (arith, b.single v, count v, ap one_if (ne_eqb worker.0 v other))
          ];
    }

pub IsBoard-after_claim : {O : Type 0} → (board : List (Task O)) (worker : WorkerNo) → IsBoard board → state_count (is_run_by worker.0) board ≡ 0 → IsBoard (after_claim board worker)
IsBoard-after_claim {O} board worker b free = by_answer (claim_of board) refl
  where
    by_answer : (claim : Claim) → claim_of board ≡ claim → IsBoard (after_answer board worker claim)
    by_answer (Claimed task) e = IsBoard-claimed board worker task.0 b free (claim_of-Claimed board task e)
    by_answer Idle e = b
    by_answer Over e = b

-- The end of a task.

run_not_waiting : {O : Type 0} → (worker : ℕ) (state : TaskState O) → is_run_by worker state ≡ true → is_waiting state ≡ false
run_not_waiting worker Waiting e = cc
run_not_waiting worker (Running other) e = refl
run_not_waiting worker (Done outcome) e = refl

pub IsBoard-after_done : {O : Type 0} → (board : List (Task O)) (worker : WorkerNo) (task : TaskNo) (outcome : O) → IsBoard board → state_at (is_run_by worker.0) board task.0 ≡ true → IsBoard (after_done board worker task outcome)
IsBoard-after_done {O} board worker task outcome b runs =
    let d : Task O = record { deps = []; state = Waiting } in
    let end : TaskState O = Done outcome in
    let n : ℕ = task.0 in
    let within : n < length board = state_at_within (is_run_by worker.0) board n runs in
    let was : is_waiting (get_or board n d).state ≡ false =
    run_not_waiting worker.0 (get_or board n d).state (sym (state_at-get_or (is_run_by worker.0) board n d within) ∙ runs) in
    record {
      lower = subst AreLower (sym (deps-with_state n end board)) b.lower;
      ready = HasDoneDeps-with_state board n end d within (state_at_more is_done n end board refl) (b.ready n d within was) b.ready;
      single = λ v. omega (arith, b.single v, state_count-with_state (is_run_by v) n end board within);
    }
