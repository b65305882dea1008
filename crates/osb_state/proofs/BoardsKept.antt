-- What claims and ends keep, over plain variables.
use Rattle.std.proofs.Common.{◌≡◌, ℕ, ◌+◌, ◌==◌, Bool, true, false, cond, List, Option, Some, None, count_by, refl, sym, ap, ◌∙◌, arith, inl, inr}
use Rattle.std.specs.List.{slice_get}
use Rattle.std.specs.Option.{option_map_or}
use Rattle.std.proofs.lemmas.Bool.{eqb-true, eq-eqb, ne_eqb, cases_eq, and_parts, false≢true}
use Rattle.osb_tree.specs.Trees.{Listing}
use Rattle.osb_tree.specs.declared.numbers.TaskNo.{TaskNo}
use Rattle.osb_tree.specs.declared.numbers.WorkerNo.{WorkerNo}
use Rattle.osb_recipe.specs.declared.outcomes.Outcome.{Outcome}
use Rattle.osb_board.specs.Boards.{IsBoard, is_waiting, is_run_by, has_done_deps, is_ready, is_ready_at, state_at, claim_of, after_claim, after_done}
use Rattle.osb_board.specs.declared.tasks.Task.{Task}
use Rattle.osb_board.specs.declared.tasks.TaskState.{TaskState}
use Rattle.osb_board.specs.declared.tasks.TaskState.TheVariants.{Waiting, Running, Done}
use Rattle.osb_board.specs.declared.tasks.Claim.TheVariants.{Task as Claimed}
use Rattle.osb_board.proofs.Changes.{claim_is_least, runs_none, claim_changes_one, done_changes_one}
use Rattle.osb_board.proofs.Kept.{IsBoard-after_claim, IsBoard-after_done}
use Rattle.osb_cache.specs.Caches.{CacheState, is_draft, pins_on}
use Rattle.osb_job.specs.Scripts.{Hand, free, Block, Progress, idle, busy, new_block}
use Rattle.osb_state.specs.States.{hand_of}
use Rattle.osb_state.specs.Kept.{pins_due, drafts_due, puts_due, runs, puts_on, IsKept}
use Rattle.osb_state.proofs.Changes.{change, by_worker}

-- where one worker runs a task, another does not
one_state : (worker other : ℕ) (state : TaskState Outcome) → (worker == other) ≡ false → is_run_by worker state ≡ true → is_run_by other state ≡ false
one_state worker other Waiting e h = refl
one_state worker other (Running number) e h = ap (λ (n : ℕ). n == other) (eqb-true number.0 worker h) ∙ e
one_state worker other (Done outcome) e h = refl

one_option : (worker other : ℕ) (o : Option (Task Outcome)) → (worker == other) ≡ false → option_map_or (λ task. is_run_by worker task.state) o false ≡ true → option_map_or (λ task. is_run_by other task.state) o false ≡ false
one_option worker other None e h = refl
one_option worker other (Some task) e h = one_state worker other task.state e h

one_runs : (board : List (Task Outcome)) (worker other task : ℕ) → (worker == other) ≡ false → state_at (is_run_by worker) board task ≡ true → state_at (is_run_by other) board task ≡ false
one_runs board worker other task e h = one_option worker other (slice_get board task) e h

-- nobody runs a task that is ready
waiting_state : (other : ℕ) (state : TaskState Outcome) → is_waiting state ≡ true → is_run_by other state ≡ false
waiting_state other Waiting h = refl
waiting_state other (Running number) h = absurd (false≢true h)
waiting_state other (Done outcome) h = refl

ready_option : (board : List (Task Outcome)) (other : ℕ) (o : Option (Task Outcome)) → option_map_or (is_ready board) o false ≡ true → option_map_or (λ task. is_run_by other task.state) o false ≡ false
ready_option board other None h = refl
ready_option board other (Some task) h = waiting_state other task.state (and_parts (is_waiting task.state) (has_done_deps board task) h).0

ready_runs : (board : List (Task Outcome)) (other task : ℕ) → is_ready_at board task ≡ true → state_at (is_run_by other) board task ≡ false
ready_runs board other task h = ready_option board other (slice_get board task) h

same_number : (m n : ℕ) → (m == n) ≡ (n == m)
same_number m n = elim (cases_eq m n) [
  | inl same ↦ eq-eqb m n same ∙ sym (eq-eqb n m (sym same))
  | inr other ↦ ne_eqb m n other ∙ sym (ne_eqb n m (λ e. other (sym e)))
]

-- a choice by a test, where both are the same
unchanged : (b x y : Bool) → (b ≡ true → y ≡ x) → cond b x y ≡ y
unchanged true x y same = sym (same refl)
unchanged false x y same = refl

cond_test : (b : Bool) → cond b true false ≡ b
cond_test true = refl
cond_test false = refl

cond_not_test : (b : Bool) → cond b false b ≡ false
cond_not_test true = refl
cond_not_test false = refl

kept_board : (cache : CacheState Listing) (board changed : List (Task Outcome)) (progress : ℕ → Progress) (worker : ℕ) (now : Progress) (keys bound : ℕ) → hand_of (progress worker) ≡ hand_of now → IsBoard changed
    → ((task : ℕ) → state_at (is_run_by worker) changed task ≡ runs now task) → ((other task : ℕ) → (worker == other) ≡ false → state_at (is_run_by other) changed task ≡ state_at (is_run_by other) board task)
    → IsKept cache board progress keys bound → IsKept cache changed (change progress worker now) keys (bound + 1)
kept_board cache board changed progress worker now keys bound same sound mine others s =
    record {
      sound = s.sound;
      clocked = omega (arith, s.clocked);
      entries = s.entries;
      drafts = s.drafts;
      pinned = by_worker progress worker now (λ v p. (k : ℕ) → pins_on v k cache.lines ≡ pins_due (hand_of p) k) (λ k. s.pinned worker k ∙ ap (λ (h : Hand). pins_due h k) same) (λ v e. s.pinned v);
      drafted = by_worker progress worker now (λ v p. (k : ℕ) → count_by (is_draft v k) cache.drafts ≡ drafts_due (hand_of p) k) (λ k. s.drafted worker k ∙ ap (λ (h : Hand). drafts_due h k) same) (λ v e. s.drafted v);
      put = by_worker progress worker now (λ v p. (k : ℕ) → puts_on v k cache.drafts ≡ puts_due (hand_of p) k) (λ k. s.put worker k ∙ ap (λ (h : Hand). puts_due h k) same) (λ v e. s.put v);
      board_is = sound;
      running = by_worker progress worker now (λ v p. (task : ℕ) → state_at (is_run_by v) changed task ≡ runs p task) mine (λ v e task. others v task e ∙ s.running v task);
    }

pub kept_claim : (cache : CacheState Listing) (board : List (Task Outcome)) (progress : ℕ → Progress) (worker : WorkerNo) (keys bound : ℕ) (task : TaskNo) → claim_of board ≡ Claimed task → progress worker.0 ≡ idle
    → IsKept cache board progress keys bound → IsKept cache (after_claim board worker) (change progress worker.0 (busy (new_block task))) keys (bound + 1)
kept_claim cache board progress worker keys bound task claimed at s =
    let ready : is_ready_at board task.0 ≡ true = (claim_is_least Outcome board task claimed).ready in
    let changes = (claim_changes_one Outcome board worker task claimed).states in
    let none : (k : ℕ) → state_at (is_run_by worker.0) board k ≡ false = λ k. s.running worker.0 k ∙ ap (λ (p : Progress). runs p k) at in
    kept_board cache board (after_claim board worker) progress worker.0 (busy (new_block task)) keys bound (ap hand_of at)
    (IsBoard-after_claim board worker s.board_is ((runs_none Outcome board worker.0).1 none))
    (λ k. changes (is_run_by worker.0) k
    ∙ ap (λ (b : Bool). cond (k == task.0) b (state_at (is_run_by worker.0) board k)) (eq-eqb worker.0 worker.0 refl)
    ∙ ap (λ (b : Bool). cond (k == task.0) true b) (none k) ∙ cond_test (k == task.0) ∙ same_number k task.0)
    (λ v k e. changes (is_run_by v) k
    ∙ unchanged (k == task.0) (worker.0 == v) (state_at (is_run_by v) board k) (λ h. ap (state_at (is_run_by v) board) (eqb-true k task.0 h) ∙ ready_runs board v task.0 ready ∙ sym e))
    s

pub kept_done : (cache : CacheState Listing) (board : List (Task Outcome)) (progress : ℕ → Progress) (worker : WorkerNo) (keys bound : ℕ) (task : TaskNo) (outcome : Outcome) (block : Block) → progress worker.0 ≡ busy block → block.task ≡ task → block.hand ≡ free
    → IsKept cache board progress keys bound → IsKept cache (after_done board worker task outcome) (change progress worker.0 idle) keys (bound + 1)
kept_done cache board progress worker keys bound task outcome block at this hand s =
    let was : (k : ℕ) → state_at (is_run_by worker.0) board k ≡ (task.0 == k) = λ k. s.running worker.0 k ∙ ap (λ (p : Progress). runs p k) at ∙ ap (λ (t : TaskNo). t.0 == k) this in
    let running : state_at (is_run_by worker.0) board task.0 ≡ true = was task.0 ∙ eq-eqb task.0 task.0 refl in
    let changes = (done_changes_one Outcome board worker task outcome running).states in
    kept_board cache board (after_done board worker task outcome) progress worker.0 idle keys bound (ap hand_of at ∙ hand)
    (IsBoard-after_done board worker task outcome s.board_is running)
    (λ k. changes (is_run_by worker.0) k ∙ ap (λ (b : Bool). cond (k == task.0) false b) (was k ∙ same_number task.0 k) ∙ cond_not_test (k == task.0))
    (λ v k e. changes (is_run_by v) k
    ∙ unchanged (k == task.0) false (state_at (is_run_by v) board k) (λ h. ap (state_at (is_run_by v) board) (eqb-true k task.0 h) ∙ one_runs board worker.0 v task.0 e running))
    s
