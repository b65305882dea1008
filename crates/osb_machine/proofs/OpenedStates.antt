-- What holds of the shared state before the first action.
use Rattle.std.proofs.Common.{◌≡◌, ℕ, zero, suc, ◌+◌, ◌-◌, ◌<◌, ◌≤◌, ◌==◌, inl, inr, Bool, true, false, cond, nat_lt, List, [], ◌∷◌, length, map, take, All, find, get_or, sum_by, count_by, None, refl, sym, ap, subst, ◌∙◌, arith}
use Rattle.std.specs.List.{list_any, list_all}
use Rattle.std.proofs.lemmas.Bool.{false≢true, and_parts, cases_Bool, cases_lt, lt-ltb}
use Rattle.std.proofs.lemmas.List.{get_or-map, get_or_past, length-map}
use Rattle.std.proofs.lemmas.List.Elements.{All-nil, All-head, All-tail}
use Rattle.std.proofs.lemmas.List.Sums.{sum_by-cons, sum_by-le-sum_by, get_or-le-sum_by, count_by-le-length}
use Rattle.std.proofs.lemmas.Option.{slice_get-get_or}
use Rattle.osb_tree.specs.Trees.{Listing, weight, tree_size}
use Rattle.osb_tree.specs.Chunks.{AreOfATree}
use Rattle.osb_tree.specs.declared.numbers.Key.{Key}
use Rattle.osb_tree.specs.declared.numbers.TaskNo.{TaskNo}
use Rattle.osb_recipe.specs.declared.outcomes.Outcome.{Outcome}
use Rattle.osb_recipe.specs.declared.plans.Plan.{Plan}
use Rattle.osb_recipe.specs.declared.plans.Task.{Task as Planned}
use Rattle.osb_recipe.specs.Plans.{IsSound}
use Rattle.osb_board.specs.declared.tasks.Task.{Task}
use Rattle.osb_board.specs.declared.tasks.TaskState.{TaskState}
use Rattle.osb_board.specs.declared.tasks.TaskState.TheVariants.{Waiting}
use Rattle.osb_board.specs.Boards.{is_run_by, state_at, state_count, new_board, AreLower}
use Rattle.osb_board.proofs.Kept.{IsBoard-new_board}
use Rattle.osb_cache.specs.declared.answers.Stored.{Stored}
use Rattle.osb_cache.specs.Caches.{CacheState, Line, has_key, is_committed, chunks_at, counted, sizes, pins_in, pins_on, opening_line, opening_lines, opened, CanOpen}
use Rattle.osb_cache.proofs.Evicts.{All-evict, length-evict-le}
use Rattle.osb_cache.proofs.Openings.{length-opening_lines}
use Rattle.osb_cache.proofs.Firsts.{any_found, any_not_none}
use Rattle.osb_cache.proofs.Kept.{sound-opened}
use Rattle.osb_cache.proofs.Lists.{All-found}
use Rattle.osb_cache.proofs.Lookups.{chunks_found, chunks_none}
use Rattle.osb_cache.proofs.Sums.{found_or_none, sum_by-map}
use Rattle.osb_job.specs.declared.entries.Entry.{Entry}
use Rattle.osb_state.specs.Kept.{IsEntry, Valid}
use Rattle.osb_machine.specs.Owed.{IsShared, is_running, pin_count}
use Rattle.osb_state.specs.Openings.{opened_state}
use Rattle.osb_machine.proofs.KeptEntries.{opening_all, kept_count}
use Rattle.osb_machine.proofs.Owing.{pins_evict}

-- ---- the chunks of a tree are some, and weigh something

some_weight : (chunk : Listing) → 0 < length chunk → 1 ≤ tree_size chunk
some_weight [] some = absurd (omega (arith, some))
some_weight (entry ∷ rest) some = omega (arith, sum_by-cons weight entry rest)

some_chunks : (chunks : List Listing) → 0 < length (get_or chunks (length chunks - 1) []) → (0 < length chunks) × (1 ≤ sum_by tree_size chunks)
some_chunks [] last = absurd (omega (arith, last))
some_chunks (chunk ∷ chunks) last =
    let all : List Listing = chunk ∷ chunks in
    let place : ℕ = length all - 1 in
    (omega arith, omega (arith, some_weight (get_or all place []) last, get_or-le-sum_by tree_size all place [] (omega arith)))

below_is : (n : ℕ) → nat_lt 0 n ≡ true → 0 < n
below_is zero e = absurd (false≢true e)
below_is (suc n) e = omega arith

tree_has_chunks : (chunks : List Listing) → AreOfATree chunks → (0 < length chunks) × (1 ≤ sum_by tree_size chunks)
tree_has_chunks chunks tree =
    some_chunks chunks (below_is (length (get_or chunks (length chunks - 1) [])) (and_parts _ (list_all (λ (chunk : Listing). length chunk == 256) (take (length chunks - 1) chunks)) tree.cut).0)

-- so there are few entries
few_entries : (entries : List (Stored Listing)) → All (λ stored. AreOfATree stored.chunks) entries → length entries ≤ sum_by (λ stored. sum_by tree_size stored.chunks) entries
few_entries [] trees = omega arith
few_entries (stored ∷ entries) trees =
    let P : Stored Listing → Type 0 = λ s. AreOfATree s.chunks in
    let weighs : Stored Listing → ℕ = λ s. sum_by tree_size s.chunks in
    omega (arith, sum_by-cons weighs stored entries, (tree_has_chunks stored.chunks (All-head P stored entries trees)).1, few_entries entries (All-tail P stored entries trees))

-- ---- what holds of the entries of a cache that is opened

opened_all : (P : Line Listing → Type 0) (Q : Stored Listing → Type 0) → ((used : ℕ) (stored : Stored Listing) → Q stored → P (opening_line tree_size used stored)) → (limit : ℕ) (entries : List (Stored Listing)) → All Q entries → All P (opened tree_size limit entries).lines
opened_all P Q each limit entries all =
    let lines : List (Line Listing) = opening_lines tree_size 1 entries in
    All-evict P (sizes lines - limit) lines (opening_all P Q each 1 entries all)

no_pins : (first : ℕ) (entries : List (Stored Listing)) → pin_count (opening_lines tree_size first entries) ≡ 0
no_pins first [] = refl
no_pins first (stored ∷ entries) =
    let pins : Line Listing → ℕ = λ line. length line.pins in
    omega (arith, sum_by-cons pins (opening_line tree_size first stored) (opening_lines tree_size (first + 1) entries), no_pins (first + 1) entries)

opened_pins : (limit : ℕ) (entries : List (Stored Listing)) → pin_count (opened tree_size limit entries).lines ≡ 0
opened_pins limit entries =
    let lines : List (Line Listing) = opening_lines tree_size 1 entries in
    pins_evict (sizes lines - limit) lines ∙ no_pins 1 entries

part_le : (b : Bool) (n m : ℕ) → n ≤ m → cond b n 0 ≤ m
part_le true n m h = h
part_le false n m h = omega arith

pins_on-le : (worker key : ℕ) (lines : List (Line Listing)) → pins_on worker key lines ≤ pin_count lines
pins_on-le worker key lines =
    sum_by-le-sum_by (λ (line : Line Listing). cond (has_key key line) (pins_in worker line) 0) (λ (line : Line Listing). length line.pins) lines
    (λ line. part_le (has_key key line) (pins_in worker line) (length line.pins) (count_by-le-length (λ (pin : ℕ). pin == worker) line.pins))

-- ---- and of the board

none_passes : {O : Type 0} → (test : TaskState O → Bool) → test Waiting ≡ false → (deps : List (List TaskNo)) (task : ℕ) → state_at test (new_board deps) task ≡ false
none_passes test e [] task = refl
none_passes test e (list ∷ deps) zero = e
none_passes test e (list ∷ deps) (suc task) = none_passes test e deps task

none_runs : (deps : List (List TaskNo)) → state_count is_running (new_board {O = Outcome} deps) ≡ 0
none_runs [] = refl
none_runs (list ∷ deps) =
    let count : Task Outcome → ℕ = λ task. cond (is_running task.state) 1 0 in
    let task : Task Outcome = record { deps = list; state = Waiting } in
    omega (arith, sum_by-cons count task (new_board deps), none_runs deps)

pub plan_lower : (plan : Plan) → IsSound plan → AreLower (map (λ task. task.deps) plan.tasks)
plan_lower plan sound n =
    let deps_in : Planned → List TaskNo = λ task. task.deps in
    let d : Planned = record { chain = []; marked = []; deps = [] } in
    let P : List TaskNo → Type 0 = λ list. All (λ (dep : TaskNo). dep.0 < n) list in
    elim (cases_lt n (length plan.tasks)) [
      | inl within ↦ subst P (sym (get_or-map deps_in plan.tasks n d [] within)) (sound.tasks n (get_or plan.tasks n d) (slice_get-get_or plan.tasks n d within)).lower
      | inr past ↦ subst P (sym (get_or_past (map deps_in plan.tasks) n [] (omega (arith, past, length-map plan.tasks deps_in)))) (All-nil (λ (dep : TaskNo). dep.0 < n))
    ]

-- ---- the whole state

valid_opened : (plan : Plan) (limit : ℕ) (entries : List (Stored Listing)) → IsSound plan → CanOpen tree_size limit entries → All (λ stored. stored.key.0 < length plan.table.recipes) entries → All (λ stored. AreOfATree stored.chunks) entries → Valid (opened_state plan entries limit)
valid_opened plan limit entries sound can known trees =
    let deps : List (List TaskNo) = map (λ task. task.deps) plan.tasks in
    let keys : ℕ = length plan.table.recipes in
    let lines : List (Line Listing) = (opened tree_size limit entries).lines in
    let Q : Stored Listing → Type 0 = λ stored. (stored.key.0 < keys) × AreOfATree stored.chunks in
    record {
      sound = sound-opened tree_size limit entries can;
      clocked = omega arith;
      entries = opened_all (IsEntry keys) Q (λ used stored both. record { known = both.0; tree = both.1 }) limit entries (λ k d h. (known k d h, trees k d h));
      drafts = All-nil _;
      pinned = λ worker key. omega (arith, pins_on-le worker key lines, opened_pins limit entries);
      drafted = λ worker key. refl;
      put = λ worker key. refl;
      board_is = IsBoard-new_board Outcome deps (plan_lower plan sound);
      running = λ worker task. none_passes (is_run_by worker) refl deps task;
    }

pub shared_opened : (plan : Plan) (limit capacity : ℕ) (entries : List (Stored Listing)) → IsSound plan → CanOpen tree_size limit entries → All (λ stored. stored.key.0 < length plan.table.recipes) entries → All (λ stored. AreOfATree stored.chunks) entries → IsShared (opened_state plan entries limit) [] 0 capacity
shared_opened plan limit capacity entries sound can known trees =
    let lines : List (Line Listing) = (opened tree_size limit entries).lines in
    let all : List (Line Listing) = opening_lines tree_size 1 entries in
    let small = can.small in
    record {
      valid = valid_opened plan limit entries sound can known trees;
      staged = refl;
      due_is = omega (arith, none_runs (map (λ task. task.deps) plan.tasks), opened_pins limit entries);
      room = omega arith;
      opening = omega (arith, small, few_entries entries trees, length-evict-le (sizes all - limit) all, length-opening_lines tree_size 1 entries);
    }

-- ---- what is counted

none_any : {X : Type 0} → (p : X → Bool) (xs : List X) → find p xs ≡ None → list_any p xs ≡ false
none_any p xs none =
    elim (cases_Bool (list_any p xs)) [ inl some ↦ absurd (any_not_none p xs some none) | inr e ↦ e ]

has_chunks : (key : ℕ) (lines : List (Line Listing)) → All (λ line. 0 < length line.chunks) lines → nat_lt 0 (length (chunks_at key lines)) ≡ is_committed key lines
has_chunks key lines some =
    let test : List Listing → Bool = λ chunks. nat_lt 0 (length chunks) in
    found_or_none (find (has_key key) lines) (nat_lt 0 (length (chunks_at key lines)) ≡ is_committed key lines)
    (λ none. ap test (chunks_none key lines none) ∙ sym (none_any (has_key key) lines none))
    (λ line e. ap test (chunks_found key lines line e) ∙ lt-ltb 0 (length line.chunks) (All-found (λ (l : Line Listing). 0 < length l.chunks) (has_key key) lines line e some) ∙ sym (any_found (has_key key) lines line e))

kept_same : (lines : List (Line Listing)) → All (λ line. 0 < length line.chunks) lines → (entries : List (Stored Listing)) → count_by (λ key. nat_lt 0 (length (chunks_at key.0 lines))) (map (λ stored. stored.key) entries) ≡ count_by (λ stored. is_committed stored.key.0 lines) entries
kept_same lines some entries =
    let has : Key → ℕ = λ key. cond (nat_lt 0 (length (chunks_at key.0 lines))) 1 0 in
    let key_of : Stored Listing → Key = λ stored. stored.key in
    sum_by-map has key_of entries ∙ (λ i. sum_by (λ (stored : Stored Listing). cond (has_chunks stored.key.0 lines some i) 1 0) entries)

pub opened_same : (plan : Plan) (limit : ℕ) (entries : List (Stored Listing)) (cache : CacheState Listing) (board : List (Task Outcome)) (deps : List (List TaskNo)) (marked : List (List Key)) (keys kept bytes count : ℕ) (names : List Key) (log : List Entry) → CanOpen tree_size limit entries → All (λ stored. AreOfATree stored.chunks) entries → cache ≡ opened tree_size limit entries → board ≡ new_board deps → deps ≡ map (λ task. task.deps) plan.tasks → marked ≡ map (λ task. task.marked) plan.tasks → keys ≡ length plan.table.recipes → kept ≡ count_by (λ key. nat_lt 0 (length (chunks_at key.0 cache.lines))) names → names ≡ map (λ stored. stored.key) entries → bytes ≡ counted cache → count ≡ length names → log ≡ [] → record { cache = cache; board = board; marked = marked; keys = keys; opened = record { kept = kept; bytes = bytes; evicted = count - kept }; log = log } ≡ opened_state plan entries limit
opened_same plan limit entries cache board deps marked keys kept bytes count names log can trees c b d m k held n w l empty =
    let start : CacheState Listing = opened tree_size limit entries in
    let some : All (λ (line : Line Listing). 0 < length line.chunks) start.lines =
    opened_all (λ (line : Line Listing). 0 < length line.chunks) (λ (stored : Stored Listing). AreOfATree stored.chunks) (λ used stored tree. (tree_has_chunks stored.chunks tree).0) limit entries trees in
    let kept_is : kept ≡ length start.lines =
    held
    ∙ (λ i. count_by (λ (key : Key). nat_lt 0 (length (chunks_at key.0 (c i).lines))) (n i))
    ∙ kept_same start.lines some entries
    ∙ kept_count (sizes (opening_lines tree_size 1 entries) - limit) 1 entries can.apart in
    let tasks : board ≡ new_board (map (λ task. task.deps) plan.tasks) = b ∙ ap (λ (lists : List (List TaskNo)). new_board lists) d in
    let size : bytes ≡ counted start = w ∙ ap (λ (x : CacheState Listing). counted x) c in
    let key_of : Stored Listing → Key = λ stored. stored.key in
    let left : count - kept ≡ length entries - length start.lines = omega (arith, kept_is, l, ap (λ (xs : List Key). length xs) n, length-map entries key_of) in
    λ i. record { cache = c i; board = tasks i; marked = m i; keys = k i; opened = record { kept = kept_is i; bytes = size i; evicted = left i }; log = empty i }
