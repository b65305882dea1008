-- What a claim answers.
use Rattle.std.proofs.Common.{◌≡◌, ◌↔◌, ℕ, suc, not, inl, inr, ◌<◌, ◌≤◌, ◌&&◌, Bool, true, false, cond, nat_lt, Option, Some, None, List, [], ◌∷◌, All, Any, length, get_or, take, position, refl, sym, ap, subst, ◌∙◌, arith}
use Rattle.std.proofs.lemmas.Bool.{false≢true, both_ways, not_from_true, not_from_false, and_parts, and_from, cond-true, cond-false, cases_Bool, lt-ltb, le-ltb, ltb-false}
use Rattle.std.proofs.lemmas.List.{take_all}
use Rattle.std.proofs.lemmas.List.Folds.{list_any_at, list_any_none}
use Rattle.std.proofs.lemmas.List.Quantifiers.{position-Some}
use Rattle.std.proofs.lemmas.List.Sums.{position_or_len_is, fails_before_first}
use Rattle.std.specs.List.{list_any, list_all, position_or_len}
use Rattle.osb_tree.specs.declared.numbers.TaskNo.{TaskNo}
use Rattle.osb_board.specs.declared.tasks.Task.{Task}
use Rattle.osb_board.specs.declared.tasks.TaskState.TheVariants.{Waiting}
use Rattle.osb_board.specs.declared.tasks.Claim.{Claim}
use Rattle.osb_board.specs.declared.tasks.Claim.TheVariants.{Task as Claimed, Idle, Over}
use Rattle.osb_board.specs.Boards.{is_waiting, has_state, has_done_deps, is_ready, ready_claim, claim_of, is_idle}

-- A list of any items.

pub position_is : {X : Type 0} → (test : X → Bool) (xs : List X) (n : ℕ) (d : X) → n < length xs → ((k : ℕ) → k < n → test (get_or xs k d) ≡ false) → test (get_or xs n d) ≡ true → position test xs ≡ Some n
position_is test xs n d within before here =
    ap (λ i. cond (nat_lt i (length xs)) (Some i) None) (position_or_len_is test xs n d (omega arith) before (λ _. here)) ∙ cond-true _ _ _ (lt-ltb n (length xs) within)

pub position_none : {X : Type 0} → (test : X → Bool) (xs : List X) → All (λ x. test x ≡ false) xs → position test xs ≡ None
position_none test [] none = refl
position_none test (x ∷ xs) none =
    let n : ℕ = length (x ∷ xs) in
    let e : position_or_len test (x ∷ xs) ≡ n =
    position_or_len_is test (x ∷ xs) n x (omega arith) (λ k h. none k x h) (λ h. absurd (omega arith)) in
    ap (λ i. cond (nat_lt i n) (Some i) None) e ∙ cond-false _ _ _ (le-ltb n n (omega arith))

some_is_some : {X : Type 0} → (b : Bool) (x : X) → cond b (Some x) None ≡ None → b ≡ false
some_is_some true x e = cc
some_is_some false x e = refl

pub none_from_position : {X : Type 0} → (test : X → Bool) (xs : List X) → position test xs ≡ None → All (λ x. test x ≡ false) xs
none_from_position test xs e k d h =
    let past : length xs ≤ position_or_len test xs = ltb-false _ _ (some_is_some _ _ e) in
    fails_before_first test xs k d (omega arith)

pub none_from_list_any : {X : Type 0} → (test : X → Bool) (xs : List X) → list_any test xs ≡ false → All (λ x. test x ≡ false) xs
none_from_list_any test xs e k d h =
    elim (cases_Bool (test (get_or xs k d))) [
      | inl passes ↦ absurd (both_ways _ e (list_any_at test xs k d h passes))
      | inr fails ↦ fails
    ]

-- an element that fails
pub fails_from_list_all : {X : Type 0} → (test : X → Bool) (xs : List X) → list_all test xs ≡ false → Any (λ x. test x ≡ false) xs
fails_from_list_all test [] e = absurd (false≢true (sym e))
fails_from_list_all test (x ∷ xs) e =
    elim (cases_Bool (test x)) [
      | inl passes ↦
          let rest = fails_from_list_all test xs (sym (ap (λ b. b && list_all test xs) passes) ∙ e) in
          (suc rest.0, rest.1, omega (arith, rest.2), rest.3, rest.4)
      | inr fails ↦ (0, x, omega arith, refl, fails)
    ]

-- The answer.

-- none of the first tasks is ready
abbrev pub HasNoReady : {O : Type 0} → List (Task O) → ℕ → Type 0
HasNoReady {O} board n = (k : ℕ) (d : Task O) → k < n → is_ready board (get_or board k d) ≡ false

-- what a claim answers where no task is ready
abbrev pub unready_claim : Bool → Claim
unready_claim waits = cond waits Idle Over

pub claim_of-ready : {O : Type 0} → (board : List (Task O)) (n : ℕ) (d : Task O) → n < length board → HasNoReady board n → is_ready board (get_or board n d) ≡ true → claim_of board ≡ Claimed (record { 0 = n })
claim_of-ready {O} board n d within before ready =
    let waits : has_state is_waiting board ≡ true =
    list_any_at (λ (task : Task O). is_waiting task.state) board n d within (and_parts _ _ ready).0 in
    cond-true _ _ _ waits ∙ ap ready_claim (position_is (is_ready board) board n d within (λ k h. before k d h) ready)

pub claim_of-unready : {O : Type 0} → (board : List (Task O)) → All (λ task. is_ready board task ≡ false) board → claim_of board ≡ unready_claim (has_state is_waiting board)
claim_of-unready board unready = ap (λ found. cond (has_state is_waiting board) (ready_claim found) Over) (position_none (is_ready board) board unready)

-- the answer at the first task that is ready
pub claim_of-found : {O : Type 0} → (board : List (Task O)) (n : ℕ) (task : Task O) → n < length board → task ≡ get_or board n task → HasNoReady board n → is_waiting task.state ≡ true → has_done_deps board task ≡ true → Claimed (record { 0 = n }) ≡ claim_of board
claim_of-found {O} board n task within same before waits done =
    sym (claim_of-ready board n task within before (subst (λ (t : Task O). is_ready board t ≡ true) same (and_from _ _ waits done)))

-- the answer past the last task
pub claim_of-passed : {O : Type 0} → (board : List (Task O)) (n : ℕ) (claim : Claim) → length board ≤ n → HasNoReady board n → claim ≡ unready_claim (has_state is_waiting (take n board)) → claim ≡ claim_of board
claim_of-passed {O} board n claim past before same =
    same ∙ ap (λ (tasks : List (Task O)). unready_claim (has_state is_waiting tasks)) (take_all n board past) ∙ sym (claim_of-unready board (λ k d h. before k d (omega arith)))

-- Over comes exactly where no task waits.
claim_at_all : {O : Type 0} → (board : List (Task O)) (waits : Bool) → cond waits (ready_claim (position (is_ready board) board)) Over ≡ Over → waits ≡ false
claim_at_all board false e = refl
claim_at_all board true e = elim (position (is_ready board) board) as (λ found. ready_claim found ≡ Over → true ≡ false) [ None ↦ λ e. cc | Some n ↦ λ e. cc ] e

pub claim_of-Over : {O : Type 0} → (board : List (Task O)) → (claim_of board ≡ Over) ↔ All (λ task. is_waiting task.state ≡ false) board
claim_of-Over {O} board =
    let test : Task O → Bool = λ task. is_waiting task.state in (
      λ e. none_from_list_any test board (claim_at_all board _ e),
      λ none. cond-false _ _ _ (list_any_none test board none),
    )

-- An idle answer: some task waits, and none is ready.
pub record IsStuck {O : Type 0} (board : List (Task O)) : Type 0 where
  pub waits : has_state is_waiting board ≡ true
  pub unready : All (λ task. is_ready board task ≡ false) board

idle_parts : (waits : Bool) (found : Option ℕ) → cond waits (ready_claim found) Over ≡ Idle → (waits ≡ true) × (found ≡ None)
idle_parts false found e = cc
idle_parts true None e = (refl, refl)
idle_parts true (Some n) e = cc

pub claim_of-Idle : {O : Type 0} → (board : List (Task O)) → claim_of board ≡ Idle → IsStuck board
claim_of-Idle board e =
    let parts = idle_parts (has_state is_waiting board) (position (is_ready board) board) e in
    record { waits = parts.0; unready = none_from_position (is_ready board) board parts.1 }

abbrev pub is_idle_claim : Claim → Bool
is_idle_claim (Claimed task) = false
is_idle_claim Idle = true
is_idle_claim Over = false

pub not_idle : (claim : Claim) → (claim ≡ Idle → ⊥) → false ≡ is_idle_claim claim
not_idle (Claimed task) other = refl
not_idle Idle other = absurd (other refl)
not_idle Over other = refl

idle_tests : (waits ready : Bool) (found : Option ℕ) → (found ≡ None → ready ≡ false) → ((n : ℕ) → found ≡ Some n → ready ≡ true) → (waits && not ready) ≡ is_idle_claim (cond waits (ready_claim found) Over)
idle_tests false ready found none some = refl
idle_tests true ready None none some = not_from_false ready (none refl)
idle_tests true ready (Some n) none some = not_from_true ready (some n refl)

pub is_idle-claim_of : {O : Type 0} → (board : List (Task O)) → is_idle board ≡ is_idle_claim (claim_of board)
is_idle-claim_of {O} board =
    let d : Task O = record { deps = []; state = Waiting } in
    idle_tests (has_state is_waiting board) (list_any (is_ready board) board) (position (is_ready board) board)
    (λ e. list_any_none (is_ready board) board (none_from_position (is_ready board) board e))
    (λ n e. let at = position-Some (is_ready board) board n d e in list_any_at (is_ready board) board n d at.0 at.1)

-- A claimed task is the first that is ready.
pub record IsFirstReady {O : Type 0} (board : List (Task O)) (n : ℕ) : Type 0 where
  pub within : n < length board
  pub ready : (d : Task O) → is_ready board (get_or board n d) ≡ true
  pub before : HasNoReady board n

some_parts : (waits : Bool) (found : Option ℕ) (task : TaskNo) → cond waits (ready_claim found) Over ≡ Claimed task → found ≡ Some task.0
some_parts false found task e = cc
some_parts true None task e = cc
some_parts true (Some n) task e = let same : record { 0 = n } ≡ task = cc in ap (λ (t : TaskNo). Some t.0) same

pub claim_of-Claimed : {O : Type 0} → (board : List (Task O)) (task : TaskNo) → claim_of board ≡ Claimed task → IsFirstReady board task.0
claim_of-Claimed {O} board task e =
    let found : position (is_ready board) board ≡ Some task.0 = some_parts (has_state is_waiting board) _ task e in
    record {
      within = (position-Some (is_ready board) board task.0 (record { deps = []; state = Waiting }) found).0;
      ready = λ d. (position-Some (is_ready board) board task.0 d found).1;
      before = λ k d h. (position-Some (is_ready board) board task.0 d found).2 k h;
    }

pub Over-from_claim : {O : Type 0} → (board : List (Task O)) (claim : Claim) → claim ≡ claim_of board → (claim ≡ Over) ↔ All (λ task. is_waiting task.state ≡ false) board
Over-from_claim board claim same = (λ e. (claim_of-Over board).0 (sym same ∙ e), λ none. same ∙ (claim_of-Over board).1 none)
