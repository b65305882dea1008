-- At the end of a run in which no task ends for want of memory, all that is marked of what ended with a tree stands in the
-- cache.
use Rattle.std.proofs.Common.{◌≡◌, ◌==◌, ◌&&◌, ℕ, ◌+◌, ◌-◌, ◌≤◌, Bool, true, false, not, List, [], ◌∷◌, ◌++◌, get_or, All, find, count_by, Option, Some, ◌⊎◌, inl, inr, refl, sym, ap, subst, ◌∙◌, append-nil, arith}
use Rattle.std.specs.List.{list_any}
use Rattle.std.specs.Option.{option_map}
use Rattle.std.proofs.lemmas.Bool.{false≢true, eqb-true, and_from, eq-eqb, or_left}
use Rattle.std.proofs.lemmas.List.Elements.{All-nil, All-cons, All-head, All-tail}
use Rattle.std.proofs.lemmas.List.Folds.{list_any_at}
use Rattle.std.proofs.lemmas.Option.{none-some}
use Rattle.osb_tree.specs.Trees.{Listing, tree_size}
use Rattle.osb_tree.specs.declared.numbers.Key.{Key}
use Rattle.osb_tree.specs.declared.numbers.TaskNo.{TaskNo}
use Rattle.osb_tree.specs.declared.numbers.WorkerNo.{WorkerNo}
use Rattle.osb_recipe.specs.Plans.{IsSound, has_key}
use Rattle.osb_recipe.specs.Tables.{IsTable}
use Rattle.osb_recipe.specs.declared.plans.Task.{Task}
use Rattle.osb_recipe.specs.declared.plans.Plan.{Plan}
use Rattle.osb_cache.specs.Caches.{Line, Draft, has_key as has_line_key, drafts_key, is_draft, sizes, opening_line, opening_lines}
use Rattle.osb_cache.specs.declared.answers.Stored.{Stored}
use Rattle.osb_cache.proofs.Evicts.{All-evict}
use Rattle.osb_cache.proofs.Firsts.{found_passes}
use Rattle.osb_cache.proofs.Lists.{All-found}
use Rattle.osb_cache.proofs.Sums.{found_or_none, sum_none, sum-remove_first}
use Rattle.osb_job.proofs.AgreeingRuns.{chunks_are}
use Rattle.osb_job.specs.declared.actions.Action.{Action}
use Rattle.osb_job.specs.declared.entries.Entry.{Entry}
use Rattle.osb_job.specs.Scripts.{Hand, free, Block, Progress, idle, busy, over, progress_of, chain_at, marked_at, chunks_meant, next}
use Rattle.osb_state.specs.States.{State, progress_in, hand_of, own, entries_of, after}
use Rattle.osb_state.specs.Kept.{drafts_due, progress_by}
use Rattle.osb_state.specs.Truth.{IsTrueState}
use Rattle.osb_state.specs.Openings.{opened_state}
use Rattle.osb_state.specs.Runs.{replay, IsRunFrom, change, is_done}
use Rattle.osb_state.specs.KeptLogs.{entry_at}
use Rattle.osb_state.specs.Filling.{key_no, may_stand, from_look, size_of_all, HasMemory, IsAtRest, RunsFill}
use Rattle.osb_state.proofs.FillingSteps.{ended_with_tree, IsFilling, snoc_not_nil, fills_on}
use Rattle.osb_state.proofs.SpoiledRuns.{IsSpoiled, spoiled_on, spoiled_more}
use Rattle.osb_state.proofs.TakenKeys.{one_if, IsTaken, taken_line}
use Rattle.osb_state.proofs.ToldActions.{entry_tells}
use Rattle.osb_state.proofs.TrueMoves.{true_stays}
use Rattle.osb_state.proofs.TrueOpenings.{IsMeantLine, true_opens}
use Rattle.osb_state.proofs.TrueParts.{named}
use Rattle.osb_state.proofs.TrueRuns.{runs_keep}

-- ---- at its opening

opening_lines_may : (may : ℕ → Bool) (first : ℕ) (entries : List (Stored Listing)) → All (λ stored. may stored.key.0 ≡ true) entries → All (λ line. may line.key ≡ true) (opening_lines tree_size first entries)
opening_lines_may may first [] all = All-nil (λ (line : Line Listing). may line.key ≡ true)
opening_lines_may may first (stored ∷ entries) all =
    let P : Stored Listing → Type 0 = λ one. may one.key.0 ≡ true in
    All-cons (λ (line : Line Listing). may line.key ≡ true) (opening_line tree_size first stored) (opening_lines tree_size (first + 1) entries) (All-head P stored entries all)
    (opening_lines_may may (first + 1) entries (All-tail P stored entries all))

stored_may : (plan : Plan) (opening : List (Stored Listing)) → All (λ stored. may_stand plan opening stored.key.0 ≡ true) opening
stored_may plan opening = λ place d within.
    let number : ℕ = (get_or opening place d).key.0 in
    or_left (list_any (λ (stored : Stored Listing). stored.key.0 == number) opening) (list_any (λ (task : Task). has_key task.marked (key_no number)) plan.tasks)
    (list_any_at (λ (stored : Stored Listing). stored.key.0 == number) opening place d within (eq-eqb number number refl))

opens_filling : (plan : Plan) (opening : List (Stored Listing)) (limit : ℕ) → size_of_all plan opening ≤ limit → IsFilling plan opening (opened_state plan opening limit)
opens_filling plan opening limit wide =
    let lines : List (Line Listing) = opening_lines tree_size 1 opening in
    let P : Line Listing → Type 0 = λ line. may_stand plan opening line.key ≡ true in
    record {
      all = record {
        lines = All-evict P (sizes lines - limit) lines (opening_lines_may (λ (number : ℕ). may_stand plan opening number) 1 opening (stored_may plan opening));
        drafts = All-nil (λ (draft : Draft Listing). may_stand plan opening draft.key ≡ true);
      };
      room = wide;
      asked = λ worker block at. absurd (cc);
      ended = λ before rest worker task block key split. absurd (snoc_not_nil before rest (ended_with_tree worker task) (sym split));
    }

-- ---- from one entry to the next

abbrev Fills : Plan → List (Stored Listing) → State → (ℕ → Bool) → Type 0
Fills plan opening state refused = IsSpoiled state refused ⊎ IsFilling plan opening state

fills_step : (plan : Plan) (opening : List (Stored Listing)) (state : State) (refused : ℕ → Bool) (entry : Entry) (action : Action) → IsSound plan → IsTable plan.table → IsTrueState plan state → next plan (progress_in state entry.worker) (refused entry.worker.0) ≡ Some action → entries_of state entry.worker action ≡ entry ∷ []
    → Fills plan opening state refused → Fills plan opening (after state entry.worker action) (change refused entry.worker (not (is_done action) && refused entry.worker.0))
fills_step plan opening state refused entry action sound table s is noted (inl spoiled) = inl (spoiled_on plan state refused entry action is noted spoiled)
fills_step plan opening state refused entry action sound table s is noted (inr filling) = by (refused entry.worker.0) (progress_in state entry.worker) refl refl
  where
    not_next : (progress : Progress) → progress_in state entry.worker ≡ progress → refused entry.worker.0 ≡ true → next plan progress true ≡ Some action
    not_next progress at off = ap (λ (p : Progress). next plan p true) (sym at) ∙ ap (next plan (progress_in state entry.worker)) (sym off) ∙ is

    by : (off : Bool) (progress : Progress) → refused entry.worker.0 ≡ off → progress_in state entry.worker ≡ progress → Fills plan opening (after state entry.worker action) (change refused entry.worker (not (is_done action) && refused entry.worker.0))
    by false progress fine at = inr (fills_on plan opening state entry action sound table s (ap (next plan (progress_in state entry.worker)) (sym fine) ∙ is) noted filling)
    by true idle off at = absurd (none-some action (not_next idle at off))
    by true (busy block) off at = inl (spoiled_on plan state refused entry action is noted (inl (record { worker = entry.worker.0; block = block; at = at; off = off })))
    by true over off at = absurd (none-some action (not_next over at off))

fills_more : (plan : Plan) (opening : List (Stored Listing)) (state : State) (refused : ℕ → Bool) (worker : WorkerNo) → Fills plan opening state refused → Fills plan opening state (change refused worker true)
fills_more plan opening state refused worker (inl spoiled) = inl (spoiled_more state refused worker spoiled)
fills_more plan opening state refused worker (inr filling) = inr filling

run_fills : (plan : Plan) (opening : List (Stored Listing)) (workers : ℕ) (state : State) (refused : ℕ → Bool) (log : List Entry) → IsSound plan → IsTable plan.table → IsTrueState plan state → IsRunFrom plan workers state refused log → Fills plan opening state refused
    → (last : ℕ → Bool) × Fills plan opening (replay plan state log) last
run_fills plan opening workers state refused log sound table s (IsRunFrom.ends at r) fills = (r, fills)
run_fills plan opening workers state refused log sound table s (IsRunFrom.goes_on at r action entry left few is noted runs) fills =
    let tells = entry_tells plan at entry (r entry.worker.0) action sound table s is noted in
    let stays = true_stays plan at entry.worker (r entry.worker.0) action sound table s is in
    let now = fills_step plan opening at r entry action sound table s is noted fills in
    subst (λ (a : Action). (last : ℕ → Bool) × Fills plan opening (replay plan (after at entry.worker a) left) last) (sym tells)
    (run_fills plan opening workers (after at entry.worker action) _ left sound table stays runs now)
run_fills plan opening workers state refused log sound table s (IsRunFrom.gives_up at r worker left runs) fills =
    run_fills plan opening workers at _ left sound table s runs (fills_more plan opening at r worker fills)

-- ---- at its end

rest_hand : (progress : Progress) → ((block : Block) → progress ≡ busy block → ⊥) → hand_of progress ≡ free
rest_hand idle rest = refl
rest_hand (busy block) rest = absurd (rest block refl)
rest_hand over rest = refl

-- nothing is staged where no worker is in a task
none_staged : (plan : Plan) (state : State) (key : ℕ) → IsTrueState plan state → IsAtRest state.log → count_by (drafts_key key) state.cache.drafts ≡ 0
none_staged plan state key s rest =
    let drafts : List (Draft Listing) = state.cache.drafts in
    found_or_none (find (drafts_key key) drafts) (count_by (drafts_key key) drafts ≡ 0)
    (λ missing. sum_none (λ (draft : Draft Listing). 1) (drafts_key key) drafts missing)
    (λ draft found. absurd (staged draft found))
  where
    staged : (draft : Draft Listing) → find (drafts_key key) state.cache.drafts ≡ Some draft → ⊥
    staged draft found =
        let mine : Draft Listing → ℕ = λ d. one_if (is_draft draft.worker key d) in
        let passes : is_draft draft.worker key draft ≡ true = and_from (draft.worker == draft.worker) (draft.key == key) (eq-eqb draft.worker draft.worker refl) (found_passes (drafts_key key) state.cache.drafts draft found) in
        let due = s.valid.drafted draft.worker key ∙ ap (λ (hand : Hand). drafts_due hand key) (rest_hand (progress_by state draft.worker) (rest draft.worker)) in
        omega (arith, due, sum-remove_first mine (drafts_key key) state.cache.drafts draft found, ap one_if passes)

-- a key that is taken then has its whole tree
stands_whole : (plan : Plan) (state : State) (key : Key) → IsTrueState plan state → IsAtRest state.log → IsTaken key.0 state.cache → entry_at state key.0 ≡ Some (chunks_meant plan key)
stands_whole plan state key s rest taken =
    let lines : List (Line Listing) = state.cache.lines in
    let there = taken_line key.0 state.cache (none_staged plan state key.0 s rest) taken in
    let meant : IsMeantLine plan there.0 = All-found (IsMeantLine plan) (has_line_key key.0) lines there.0 there.1 s.entries in
    let same : there.0.key ≡ key.0 = eqb-true there.0.key key.0 (found_passes (has_line_key key.0) lines there.0 there.1) in
    let chunks : there.0.chunks ≡ chunks_meant plan key = meant.all ∙ sym (chunks_are plan key meant.tree (named plan there.0.key key meant.tree same meant.means)) in
    ap (λ (found : Option (Line Listing)). option_map (λ line. line.chunks) found) there.1 ∙ ap (λ (all : List Listing). Some all) chunks

not_spoiled : (state : State) (refused : ℕ → Bool) → HasMemory state.log → IsAtRest state.log → IsSpoiled state refused → ⊥
not_spoiled state refused memory rest (inl had) = rest had.worker had.block had.at
not_spoiled state refused memory rest (inr lost) = false≢true (sym memory ∙ lost)

filled_at_end : (plan : Plan) (opening : List (Stored Listing)) (state : State) (refused : ℕ → Bool) → IsTrueState plan state → HasMemory state.log → IsAtRest state.log → Fills plan opening state refused
    → (before rest : List Entry) (worker : WorkerNo) (task : TaskNo) (block : Block) (key : Key) → state.log ≡ before ++ ended_with_tree worker task ∷ rest → progress_of (own worker.0 before) ≡ busy block
    → has_key (from_look block.looked (chain_at plan task)) key ≡ true → has_key (marked_at plan task) key ≡ true → entry_at state key.0 ≡ Some (chunks_meant plan key)
filled_at_end plan opening state refused s memory at_rest (inl spoiled) before rest worker task block key split at there marked = absurd (not_spoiled state refused memory at_rest spoiled)
filled_at_end plan opening state refused s memory at_rest (inr filling) before rest worker task block key split at there marked =
    stands_whole plan state key s at_rest (filling.ended before rest worker task block key split at there marked)

pub runs_fill : RunsFill
runs_fill plan opening limit workers log sound table can is runs wide memory at_rest before rest worker task block key split at there marked =
    let keeps = runs_keep plan opening limit workers log sound table can is runs in
    let end : State = replay plan (opened_state plan opening limit) log in
    let none_left : log ≡ log ++ [] = sym (append-nil log) in
    let logs : log ≡ end.log = sym (keeps.logs log [] none_left) in
    let filled = run_fills plan opening workers (opened_state plan opening limit) (λ (w : ℕ). false) log sound table (true_opens plan opening limit sound table can is) runs (inr (opens_filling plan opening limit wide)) in
    filled_at_end plan opening end filled.0 (keeps.front log [] none_left) (subst HasMemory logs memory) (subst IsAtRest logs at_rest) filled.1 before rest worker task block key (sym logs ∙ split) at there marked
