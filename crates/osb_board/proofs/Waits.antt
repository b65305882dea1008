-- Where a claim is idle, another worker runs a task.
use Rattle.std.proofs.Common.{◌≡◌, ℕ, ◌<◌, ◌&&◌, inl, inr, Bool, true, false, List, [], All, Any, length, get_or, refl, sym, ap, subst, ◌∙◌, arith}
use Rattle.std.proofs.lemmas.Bool.{both_ways, cases_lt, cases_Bool, eq-eqb}
use Rattle.std.proofs.lemmas.List.{get_or-map}
use Rattle.std.proofs.lemmas.List.Folds.{Any-from_list_any}
use Rattle.std.proofs.lemmas.List.Sums.{get_or-le-sum_by, fails_before_first, passes_at_first}
use Rattle.std.specs.List.{position_or_len}
use Rattle.osb_tree.specs.declared.numbers.TaskNo.{TaskNo}
use Rattle.osb_board.specs.declared.tasks.Task.{Task}
use Rattle.osb_board.specs.declared.tasks.TaskState.{TaskState}
use Rattle.osb_board.specs.declared.tasks.TaskState.TheVariants.{Waiting, Running, Done}
use Rattle.osb_board.specs.declared.tasks.Claim.TheVariants.{Idle}
use Rattle.osb_board.specs.Boards.{is_waiting, is_done, is_run_by, state_at, state_count, claim_of, IsBoard, IsHeldUp}
use Rattle.osb_board.proofs.States.{state_at-get_or, one_if}
use Rattle.osb_board.proofs.Claims.{IsStuck, claim_of-Idle, fails_from_list_all}

-- the place of a first element that passes
pub first_within : {X : Type 0} → (test : X → Bool) (xs : List X) → Any (λ x. test x ≡ true) xs → position_or_len test xs < length xs
first_within test xs some =
    elim (cases_lt (position_or_len test xs) (length xs)) [
      | inl within ↦ within
      | inr past ↦ absurd (both_ways (test (get_or xs some.0 some.1)) (fails_before_first test xs some.0 some.1 (omega (arith, some.2))) (ap test some.3 ∙ some.4))
    ]

-- who runs a task that neither waits nor is done
runner : {O : Type 0} → (state : TaskState O) → is_waiting state ≡ false → is_done state ≡ false → (v : ℕ) × (is_run_by v state ≡ true)
runner Waiting waits done = cc
runner (Running worker) waits done = (worker.0, eq-eqb worker.0 worker.0 refl)
runner (Done outcome) waits done = cc

-- a worker that runs none runs no task
not_run : {O : Type 0} → (worker : ℕ) (board : List (Task O)) (n : ℕ) (d : Task O) → n < length board → state_count (is_run_by worker) board ≡ 0 → is_run_by worker (get_or board n d).state ≡ false
not_run {O} worker board n d within free =
    let count : Task O → ℕ = λ task. one_if (is_run_by worker task.state) in
    elim (cases_Bool (is_run_by worker (get_or board n d).state)) [
      | inl runs ↦ absurd (omega (arith, free, get_or-le-sum_by count board n d within, ap one_if runs))
      | inr other ↦ other
    ]

second_fails : (a b : Bool) → a ≡ true → (a && b) ≡ false → b ≡ false
second_fails true b e h = h
second_fails false b e h = cc

-- the least waiting task has a dependency that is lower, and so doesn't wait, and isn't done
pub record HoldsUp {O : Type 0} (board : List (Task O)) (d : Task O) (n : ℕ) : Type 0 where
  pub within : n < length board
  pub begun : is_waiting (get_or board n d).state ≡ false
  pub undone : is_done (get_or board n d).state ≡ false

holds_up : {O : Type 0} → (board : List (Task O)) (d : Task O) → IsBoard board → IsStuck board → (n : ℕ) × HoldsUp board d n
holds_up {O} board d b stuck =
    let waits : Task O → Bool = λ task. is_waiting task.state in
    let least : ℕ = position_or_len waits board in
    let within : least < length board = first_within waits board (Any-from_list_any waits board stuck.waits) in
    let task : Task O = get_or board least d in
    let undone = fails_from_list_all (λ (dep : TaskNo). state_at is_done board dep.0) task.deps (second_fails _ _ (passes_at_first waits board d within) (stuck.unready least d within)) in
    let low : All (λ (dep : TaskNo). dep.0 < least) task.deps =
    subst (All (λ (dep : TaskNo). dep.0 < least)) (get_or-map (λ (t : Task O). t.deps) board least d [] within) (b.lower least) in
    let lower : undone.1.0 < least = subst (λ (dep : TaskNo). dep.0 < least) undone.3 (low undone.0 undone.1 undone.2) in (
      undone.1.0,
      record {
        within = omega arith;
        begun = fails_before_first waits board undone.1.0 d lower;
        undone = sym (state_at-get_or is_done board undone.1.0 d (omega arith)) ∙ undone.4;
      },
    )

pub claim_of-Idle_held_up : {O : Type 0} → (board : List (Task O)) (worker : ℕ) → IsBoard board → state_count (is_run_by worker) board ≡ 0 → claim_of board ≡ Idle → IsHeldUp worker board
claim_of-Idle_held_up {O} board worker b free e =
    let d : Task O = record { deps = []; state = Waiting } in
    let stuck = claim_of-Idle board e in
    let found = holds_up board d b stuck in
    let run = runner (get_or board found.0 d).state found.1.begun found.1.undone in
    record {
      waits = Any-from_list_any (λ (task : Task O). is_waiting task.state) board stuck.waits;
      unready = stuck.unready;
      other = run.0;
      differs = λ same. both_ways _ (not_run worker board found.0 d found.1.within free) (subst (λ v. is_run_by v (get_or board found.0 d).state ≡ true) same run.1);
      task = found.0;
      runs = state_at-get_or (is_run_by run.0) board found.0 d found.1.within ∙ run.1;
    }
