-- What the actions on the cache keep, over plain variables.
use Rattle.std.proofs.Common.{◌≡◌, ℕ, ◌+◌, ◌-◌, ◌==◌, ◌&&◌, ◌<◌, ◌≤◌, Bool, true, false, cond, List, [], ◌∷◌, ◌++◌, length, map, All, find, count_by, Option, Some, IsSomeAnd, refl, sym, ap, subst, ◌∙◌, arith}
use Rattle.std.specs.Option.{option_to_list}
use Rattle.std.proofs.lemmas.Bool.{eqb-true, eq-eqb, and_parts}
use Rattle.std.proofs.lemmas.List.{length-append}
use Rattle.std.proofs.lemmas.List.Elements.{All-push, All-nil, All-append}
use Rattle.std.proofs.lemmas.List.Sums.{sum_by_push}
use Rattle.osb_tree.specs.Trees.{Listing, tree_size}
use Rattle.osb_tree.specs.Chunks.{AreOfATree}
use Rattle.osb_tree.specs.declared.numbers.Key.{Key}
use Rattle.osb_recipe.specs.declared.outcomes.Outcome.{Outcome}
use Rattle.osb_board.specs.Boards.{is_run_by, state_at}
use Rattle.osb_board.specs.declared.tasks.Task.{Task}
use Rattle.osb_cache.specs.Caches.{CacheState, Line, Draft, has_key, is_draft, pins_on, touched, touch, look_reply, after_look, unpinned, after_unpin, counted, reserve_reply, after_reserve, new_draft, with_chunk, after_put, line_of_draft, after_commit, after_drop, HasRoom, IsWhole, IsSound}
use Rattle.osb_cache.specs.Edits.{remove_first, update_first}
use Rattle.osb_cache.specs.Laws.{own as marks}
use Rattle.osb_cache.specs.declared.answers.Look.TheVariants.{Hit}
use Rattle.osb_cache.specs.declared.answers.Reserve.TheVariants.{Room}
use Rattle.osb_cache.proofs.Evicts.{All-evict}
use Rattle.osb_cache.proofs.Firsts.{found_passes, any_found}
use Rattle.osb_cache.proofs.Lists.{All-remove_first, All-update_first, All-found}
use Rattle.osb_cache.proofs.Stays.{sound-look, sound-unpin, sound-reserve, sound-put, sound-commit, sound-drop, pins-look, pins-unpin, pins-reserve, pins-commit}
use Rattle.osb_cache.proofs.Sums.{sum-remove_first, sum-update_first, sum-update_first_same, sum_no_count, found_or_none, found_by_sum}
use Rattle.osb_job.specs.Scripts.{Hand, free, reads, fills, Progress}
use Rattle.osb_state.specs.States.{hand_of}
use Rattle.osb_state.specs.Kept.{pins_due, drafts_due, puts_due, runs, puts_on, IsEntry, IsKept}
use Rattle.osb_state.proofs.Changes.{change, by_worker}

-- the worker runs what it ran; in hand it had one thing, and has another now
pub record Hands (progress : ℕ → Progress) (worker : ℕ) (now : Progress) (had has : Hand) : Type 0 where
  pub before : hand_of (progress worker) ≡ had
  pub here : hand_of now ≡ has
  pub runs_on : (task : ℕ) → runs now task ≡ runs (progress worker) task

-- numbers by worker and key that were due for what the worker had, and are for what it has
record IsTurned (worker : ℕ) (due : Hand → ℕ → ℕ) (before now : ℕ → ℕ → ℕ) (had has : Hand) : Type 0 where
  mine : (key : ℕ) → before worker key ≡ due had key → now worker key ≡ due has key
  others : (other key : ℕ) → (worker == other) ≡ false → now other key ≡ before other key

unturned : (worker : ℕ) (due : Hand → ℕ → ℕ) (before now : ℕ → ℕ → ℕ) (had has : Hand) → ((key : ℕ) → due had key ≡ due has key) → ((other key : ℕ) → now other key ≡ before other key) → IsTurned worker due before now had has
unturned worker due before now had has same stays =
    record { mine = λ key e. stays worker key ∙ e ∙ same key; others = λ other key e. stays other key }

turned : (progress : ℕ → Progress) (worker : ℕ) (now : Progress) (had has : Hand) (due : Hand → ℕ → ℕ) (F G : ℕ → ℕ → ℕ) → Hands progress worker now had has → IsTurned worker due F G had has → ((other key : ℕ) → F other key ≡ due (hand_of (progress other)) key)
    → (other key : ℕ) → G other key ≡ due (hand_of (change progress worker now other)) key
turned progress worker now had has due F G hands turns was =
    by_worker progress worker now (λ v p. (key : ℕ) → G v key ≡ due (hand_of p) key)
    (λ key. turns.mine key (was worker key ∙ ap (λ (h : Hand). due h key) hands.before) ∙ ap (λ (h : Hand). due h key) (sym hands.here))
    (λ v e key. turns.others v key e ∙ was v key)

abbrev if_so : Bool → ℕ → ℕ
if_so b n = cond b n 0

mine_is : (worker key name n : ℕ) → if_so ((worker == worker) && (key == name)) n ≡ if_so (key == name) n
mine_is worker key name n = ap (λ (b : Bool). if_so (b && (key == name)) n) (eq-eqb worker worker refl)

others_none : (worker other key name n : ℕ) → (worker == other) ≡ false → if_so ((worker == other) && (key == name)) n ≡ 0
others_none worker other key name n e = ap (λ (b : Bool). if_so (b && (key == name)) n) e

this_one : (key n : ℕ) → if_so (key == key) n ≡ n
this_one key n = ap (λ (b : Bool). if_so b n) (eq-eqb key key refl)

-- what a changed cache has to show
record IsStep (cache now : CacheState Listing) (worker : ℕ) (had has : Hand) (keys bound : ℕ) : Type 0 where
  sound : IsSound tree_size now
  clocked : now.clock ≤ bound + 1
  entries : All (IsEntry keys) now.lines
  drafts : All (λ draft. draft.key < keys) now.drafts
  pinned : IsTurned worker pins_due (λ v k. pins_on v k cache.lines) (λ v k. pins_on v k now.lines) had has
  drafted : IsTurned worker drafts_due (λ v k. count_by (is_draft v k) cache.drafts) (λ v k. count_by (is_draft v k) now.drafts) had has
  put : IsTurned worker puts_due (λ v k. puts_on v k cache.drafts) (λ v k. puts_on v k now.drafts) had has

kept_step : (cache changed : CacheState Listing) (board : List (Task Outcome)) (progress : ℕ → Progress) (worker : ℕ) (now : Progress) (had has : Hand) (keys bound : ℕ) → Hands progress worker now had has → IsStep cache changed worker had has keys bound
    → IsKept cache board progress keys bound → IsKept changed board (change progress worker now) keys (bound + 1)
kept_step cache changed board progress worker now had has keys bound hands step s =
    record {
      sound = step.sound;
      clocked = step.clocked;
      entries = step.entries;
      drafts = step.drafts;
      pinned = turned progress worker now had has pins_due _ _ hands step.pinned s.pinned;
      drafted = turned progress worker now had has drafts_due _ _ hands step.drafted s.drafted;
      put = turned progress worker now had has puts_due _ _ hands step.put s.put;
      board_is = s.board_is;
      running = by_worker progress worker now (λ v p. (task : ℕ) → state_at (is_run_by v) board task ≡ runs p task) (λ task. s.running worker task ∙ sym (hands.runs_on task)) (λ v e. s.running v);
    }

-- ---- the cache stays as it is

pub kept_still : (cache : CacheState Listing) (board : List (Task Outcome)) (progress : ℕ → Progress) (worker : ℕ) (now : Progress) (had has : Hand) (keys bound : ℕ) → Hands progress worker now had has
    → ((key : ℕ) → pins_due had key ≡ pins_due has key) → ((key : ℕ) → drafts_due had key ≡ drafts_due has key) → ((key : ℕ) → puts_due had key ≡ puts_due has key)
    → IsKept cache board progress keys bound → IsKept cache board (change progress worker now) keys (bound + 1)
kept_still cache board progress worker now had has keys bound hands pins drafts puts s =
    kept_step cache cache board progress worker now had has keys bound hands
    (record {
      sound = s.sound;
      clocked = omega (arith, s.clocked);
      entries = s.entries;
      drafts = s.drafts;
      pinned = unturned worker pins_due _ _ had has pins (λ v k. refl);
      drafted = unturned worker drafts_due _ _ had has drafts (λ v k. refl);
      put = unturned worker puts_due _ _ had has puts (λ v k. refl);
    }) s

-- ---- pins

entry_as : (keys : ℕ) (line changed : Line Listing) → changed.key ≡ line.key → changed.chunks ≡ line.chunks → IsEntry keys line → IsEntry keys changed
entry_as keys line changed key chunks e =
    record { known = subst (λ (k : ℕ). k < keys) (sym key) e.known; tree = subst AreOfATree (sym chunks) e.tree }

entries_touched : (keys clock worker key : ℕ) (lines : List (Line Listing)) → All (IsEntry keys) lines → All (IsEntry keys) (touch clock worker key lines)
entries_touched keys clock worker key lines all =
    let rest : List (Line Listing) = remove_first (has_key key) lines in
    let left : All (IsEntry keys) rest = All-remove_first (IsEntry keys) (has_key key) lines all in
    let P : Option (Line Listing) → Type 0 = λ o. All (IsEntry keys) (rest ++ map (touched clock worker) (option_to_list o)) in
    found_or_none (find (has_key key) lines) (P (find (has_key key) lines))
    (λ e. subst P (sym e) (All-append (IsEntry keys) rest [] left (All-nil (IsEntry keys))))
    (λ line e. subst P (sym e) (All-push (IsEntry keys) rest (touched clock worker line) left (entry_as keys line (touched clock worker line) refl refl (All-found (IsEntry keys) (has_key key) lines line e all))))

pub kept_hit : (cache : CacheState Listing) (board : List (Task Outcome)) (progress : ℕ → Progress) (worker : ℕ) (now : Progress) (keys bound : ℕ) (marked : List Key) (place count : ℕ) (key : Key) → look_reply cache marked ≡ Hit place key count
    → Hands progress worker now free (reads key 0) → IsKept cache board progress keys bound → IsKept (after_look cache worker (Hit place key count)) board (change progress worker now) keys (bound + 1)
kept_hit cache board progress worker now keys bound marked place count key hit hands s =
    let changed : CacheState Listing = after_look cache worker (Hit place key count) in
    let pins : (v k : ℕ) → pins_on v k changed.lines ≡ pins_on v k cache.lines + marks worker key.0 v k = λ v k. ap (λ r. pins_on v k (after_look cache worker r).lines) (sym hit) ∙ pins-look cache worker marked place count key hit v k in
    kept_step cache changed board progress worker now free (reads key 0) keys bound hands
    (record {
      sound = subst (λ r. IsSound tree_size (after_look cache worker r)) hit (sound-look tree_size cache worker marked s.sound);
      clocked = omega (arith, s.clocked);
      entries = entries_touched keys (cache.clock + 1) worker key.0 cache.lines s.entries;
      drafts = s.drafts;
      pinned = record {
        mine = λ k e. omega (arith, e, pins worker k, mine_is worker key.0 k 1);
        others = λ v k e. omega (arith, pins v k, others_none worker v key.0 k 1 e);
      };
      drafted = unturned worker drafts_due _ _ free (reads key 0) (λ k. refl) (λ v k. refl);
      put = unturned worker puts_due _ _ free (reads key 0) (λ k. refl) (λ v k. refl);
    }) s

pub kept_unpin : (cache : CacheState Listing) (board : List (Task Outcome)) (progress : ℕ → Progress) (worker : ℕ) (now : Progress) (keys bound : ℕ) (key : Key) (count : ℕ)
    → Hands progress worker now (reads key count) free → IsKept cache board progress keys bound → IsKept (after_unpin cache worker key.0) board (change progress worker now) keys (bound + 1)
kept_unpin cache board progress worker now keys bound key count hands s =
    let changed : CacheState Listing = after_unpin cache worker key.0 in
    let due : pins_on worker key.0 cache.lines ≡ if_so (key.0 == key.0) 1 = s.pinned worker key.0 ∙ ap (λ (h : Hand). pins_due h key.0) hands.before in
    let pins : (v k : ℕ) → pins_on v k changed.lines + marks worker key.0 v k ≡ pins_on v k cache.lines = pins-unpin tree_size cache worker key.0 s.sound (omega (arith, due, this_one key.0 1)) in
    kept_step cache changed board progress worker now (reads key count) free keys bound hands
    (record {
      sound = sound-unpin tree_size cache worker key.0 s.sound;
      clocked = omega (arith, s.clocked);
      entries = All-update_first (IsEntry keys) (has_key key.0) (unpinned worker) (λ line e. entry_as keys line (unpinned worker line) refl refl e) cache.lines s.entries;
      drafts = s.drafts;
      pinned = record {
        mine = λ k e. omega (arith, e, pins worker k, mine_is worker key.0 k 1);
        others = λ v k e. omega (arith, pins v k, others_none worker v key.0 k 1 e);
      };
      drafted = unturned worker drafts_due _ _ (reads key count) free (λ k. refl) (λ v k. refl);
      put = unturned worker puts_due _ _ (reads key count) free (λ k. refl) (λ v k. refl);
    }) s

-- ---- what is staged

-- the draft of one worker and key, by another test of the kind
same_test : (worker key other name : ℕ) (draft : Draft Listing) → is_draft worker key draft ≡ true → is_draft other name draft ≡ ((worker == other) && (key == name))
same_test worker key other name draft e =
    let parts = and_parts (draft.worker == worker) (draft.key == key) e in
    ap (λ (n : ℕ). (n == other) && (draft.key == name)) (eqb-true draft.worker worker parts.0)
    ∙ ap (λ (n : ℕ). (worker == other) && (n == name)) (eqb-true draft.key key parts.1)

-- what this draft adds to the sums
adds : (worker key other name : ℕ) (draft : Draft Listing) (n : ℕ) → is_draft worker key draft ≡ true → if_so (is_draft other name draft) n ≡ if_so ((worker == other) && (key == name)) n
adds worker key other name draft n e = ap (λ (b : Bool). if_so b n) (same_test worker key other name draft e)

-- a worker has the draft that is due
draft_due : (cache : CacheState Listing) (worker key : ℕ) → count_by (is_draft worker key) cache.drafts ≡ if_so (key == key) 1 → (draft : Draft Listing) × (find (is_draft worker key) cache.drafts ≡ Some draft)
draft_due cache worker key due = found_by_sum (λ draft. 1) (is_draft worker key) cache.drafts (omega (arith, due, this_one key 1))

one_of : ℕ → ℕ → Draft Listing → ℕ
one_of worker key draft = if_so (is_draft worker key draft) 1

chunks_in : ℕ → ℕ → Draft Listing → ℕ
chunks_in worker key draft = if_so (is_draft worker key draft) (length draft.chunks)

none_of_none : (b : Bool) → if_so b 0 ≡ 0
none_of_none true = refl
none_of_none false = refl

reserved_drafts : (drafts : List (Draft Listing)) (worker size count : ℕ) (key : Key) → IsTurned worker drafts_due (λ v k. count_by (is_draft v k) drafts) (λ v k. count_by (is_draft v k) (drafts ++ new_draft worker key.0 size count ∷ [])) free (fills key 0)
unfolding one_of
reserved_drafts drafts worker size count key =
    let more = λ (v k : ℕ). sum_by_push (one_of v k) drafts (new_draft worker key.0 size count) in
    record {
      mine = λ k e. omega (arith, e, more worker k, mine_is worker key.0 k 1);
      others = λ v k e. omega (arith, more v k, others_none worker v key.0 k 1 e);
    }

reserved_puts : (drafts : List (Draft Listing)) (worker size count : ℕ) (key : Key) → IsTurned worker puts_due (λ v k. puts_on v k drafts) (λ v k. puts_on v k (drafts ++ new_draft worker key.0 size count ∷ [])) free (fills key 0)
unfolding chunks_in
reserved_puts drafts worker size count key =
    let more = λ (v k : ℕ). sum_by_push (chunks_in v k) drafts (new_draft worker key.0 size count) in
    record {
      mine = λ k e. omega (arith, e, more worker k, none_of_none ((worker == worker) && (key.0 == k)), none_of_none (key.0 == k));
      others = λ v k e. omega (arith, more v k, none_of_none ((worker == v) && (key.0 == k)));
    }

pub kept_room : (cache : CacheState Listing) (board : List (Task Outcome)) (progress : ℕ → Progress) (worker : ℕ) (now : Progress) (keys bound : ℕ) (key : Key) (size count evicted : ℕ) → key.0 < keys → reserve_reply cache key.0 size ≡ Room evicted
    → Hands progress worker now free (fills key 0) → IsKept cache board progress keys bound → IsKept (after_reserve cache worker key.0 size count (Room evicted)) board (change progress worker now) keys (bound + 1)
kept_room cache board progress worker now keys bound key size count evicted known room hands s =
    let changed : CacheState Listing = after_reserve cache worker key.0 size count (Room evicted) in
    kept_step cache changed board progress worker now free (fills key 0) keys bound hands
    (record {
      sound = subst (λ r. IsSound tree_size (after_reserve cache worker key.0 size count r)) room (sound-reserve tree_size cache worker key.0 size count s.sound);
      clocked = omega (arith, s.clocked);
      entries = All-evict (IsEntry keys) (counted cache + size - cache.limit) cache.lines s.entries;
      drafts = All-push (λ draft. draft.key < keys) cache.drafts (new_draft worker key.0 size count) s.drafts known;
      pinned = unturned worker pins_due _ _ free (fills key 0) (λ k. refl) (pins-reserve cache size);
      drafted = reserved_drafts cache.drafts worker size count key;
      put = reserved_puts cache.drafts worker size count key;
    }) s

put_step : (b : Bool) (count n sum more : ℕ) → sum ≡ if_so b count → more + if_so b n ≡ sum + if_so b (n + 1) → more ≡ if_so b (count + 1)
put_step true count n sum more e h = omega (arith, e, h)
put_step false count n sum more e h = omega (arith, e, h)

filled_puts : (drafts : List (Draft Listing)) (worker count : ℕ) (key : Key) (chunk : Listing) (draft : Draft Listing) → find (is_draft worker key.0) drafts ≡ Some draft → IsTurned worker puts_due (λ v k. puts_on v k drafts) (λ v k. puts_on v k (update_first (is_draft worker key.0) (with_chunk chunk) drafts)) (fills key count) (fills key (count + 1))
unfolding chunks_in
filled_puts drafts worker count key chunk draft found =
    let n : ℕ = length draft.chunks in
    let passes = found_passes (is_draft worker key.0) drafts draft found in
    let long : length (draft.chunks ++ chunk ∷ []) ≡ n + 1 = length-append draft.chunks (chunk ∷ []) in
    let more = λ (v k : ℕ). sum-update_first (chunks_in v k) (is_draft worker key.0) (with_chunk chunk) drafts draft found in
    let was = λ (v k : ℕ). adds worker key.0 v k draft n passes in
    let is = λ (v k : ℕ). ap (λ (m : ℕ). if_so (is_draft v k draft) m) long ∙ adds worker key.0 v k draft (n + 1) passes in
    record {
      mine = λ k e. put_step (key.0 == k) count n (puts_on worker k drafts) (puts_on worker k (update_first (is_draft worker key.0) (with_chunk chunk) drafts)) e
          (omega (arith, more worker k, was worker k, is worker k, mine_is worker key.0 k n, mine_is worker key.0 k (n + 1)));
      others = λ v k e. omega (arith, more v k, was v k, is v k, others_none worker v key.0 k n e, others_none worker v key.0 k (n + 1) e);
    }

pub kept_put : (cache : CacheState Listing) (board : List (Task Outcome)) (progress : ℕ → Progress) (worker : ℕ) (now : Progress) (keys bound : ℕ) (key : Key) (count : ℕ) (chunk : Listing) (draft : Draft Listing) → find (is_draft worker key.0) cache.drafts ≡ Some draft → HasRoom tree_size chunk draft
    → Hands progress worker now (fills key count) (fills key (count + 1)) → IsKept cache board progress keys bound → IsKept (after_put cache worker key.0 chunk) board (change progress worker now) keys (bound + 1)
kept_put cache board progress worker now keys bound key count chunk draft found room hands s =
    kept_step cache (after_put cache worker key.0 chunk) board progress worker now (fills key count) (fills key (count + 1)) keys bound hands
    (record {
      sound = sound-put tree_size cache worker key.0 chunk s.sound (subst (λ o. IsSomeAnd o (HasRoom tree_size chunk)) (sym found) room);
      clocked = omega (arith, s.clocked);
      entries = s.entries;
      drafts = All-update_first (λ draft. draft.key < keys) (is_draft worker key.0) (with_chunk chunk) (λ x h. h) cache.drafts s.drafts;
      pinned = unturned worker pins_due _ _ (fills key count) (fills key (count + 1)) (λ k. refl) (λ v k. refl);
      drafted = unturned worker drafts_due _ _ (fills key count) (fills key (count + 1)) (λ k. refl) (λ v k. sum-update_first_same (λ d. cond (is_draft v k d) 1 0) (is_draft worker key.0) (with_chunk chunk) (λ x _. refl) cache.drafts);
      put = filled_puts cache.drafts worker count key chunk draft found;
    }) s

ended_drafts : (drafts : List (Draft Listing)) (worker count : ℕ) (key : Key) (draft : Draft Listing) → find (is_draft worker key.0) drafts ≡ Some draft → IsTurned worker drafts_due (λ v k. count_by (is_draft v k) drafts) (λ v k. count_by (is_draft v k) (remove_first (is_draft worker key.0) drafts)) (fills key count) free
unfolding one_of
ended_drafts drafts worker count key draft found =
    let less = λ (v k : ℕ). sum-remove_first (one_of v k) (is_draft worker key.0) drafts draft found in
    let was = λ (v k : ℕ). adds worker key.0 v k draft 1 (found_passes (is_draft worker key.0) drafts draft found) in
    record {
      mine = λ k e. omega (arith, e, less worker k, was worker k, mine_is worker key.0 k 1);
      others = λ v k e. omega (arith, less v k, was v k, others_none worker v key.0 k 1 e);
    }

-- where its worker has one draft
ended_puts : (drafts : List (Draft Listing)) (worker count : ℕ) (key : Key) (draft : Draft Listing) → find (is_draft worker key.0) drafts ≡ Some draft → ((k : ℕ) → count_by (is_draft worker k) drafts ≡ if_so (key.0 == k) 1)
    → IsTurned worker puts_due (λ v k. puts_on v k drafts) (λ v k. puts_on v k (remove_first (is_draft worker key.0) drafts)) (fills key count) free
unfolding chunks_in
ended_puts drafts worker count key draft found single =
    let n : ℕ = length draft.chunks in
    let less = λ (v k : ℕ). sum-remove_first (chunks_in v k) (is_draft worker key.0) drafts draft found in
    let was = λ (v k : ℕ). adds worker key.0 v k draft n (found_passes (is_draft worker key.0) drafts draft found) in
    record {
      mine = λ k e. sum_no_count (λ d. length d.chunks) (is_draft worker k) (remove_first (is_draft worker key.0) drafts) ((ended_drafts drafts worker count key draft found).mine k (single k));
      others = λ v k e. omega (arith, less v k, was v k, others_none worker v key.0 k n e);
    }

due_drafts : (cache : CacheState Listing) (board : List (Task Outcome)) (progress : ℕ → Progress) (worker : ℕ) (now : Progress) (has : Hand) (keys bound : ℕ) (key : Key) (count : ℕ) → Hands progress worker now (fills key count) has → IsKept cache board progress keys bound
    → (k : ℕ) → count_by (is_draft worker k) cache.drafts ≡ if_so (key.0 == k) 1
due_drafts cache board progress worker now has keys bound key count hands s k = s.drafted worker k ∙ ap (λ (h : Hand). drafts_due h k) hands.before

pub kept_drop : (cache : CacheState Listing) (board : List (Task Outcome)) (progress : ℕ → Progress) (worker : ℕ) (now : Progress) (keys bound : ℕ) (key : Key) (count : ℕ)
    → Hands progress worker now (fills key count) free → IsKept cache board progress keys bound → IsKept (after_drop cache worker key.0) board (change progress worker now) keys (bound + 1)
kept_drop cache board progress worker now keys bound key count hands s =
    let due = due_drafts cache board progress worker now free keys bound key count hands s in
    let found = draft_due cache worker key.0 (due key.0) in
    kept_step cache (after_drop cache worker key.0) board progress worker now (fills key count) free keys bound hands
    (record {
      sound = sound-drop tree_size cache worker key.0 s.sound (any_found (is_draft worker key.0) cache.drafts found.0 found.1);
      clocked = omega (arith, s.clocked);
      entries = s.entries;
      drafts = All-remove_first (λ draft. draft.key < keys) (is_draft worker key.0) cache.drafts s.drafts;
      pinned = unturned worker pins_due _ _ (fills key count) free (λ k. refl) (λ v k. refl);
      drafted = ended_drafts cache.drafts worker count key found.0 found.1;
      put = ended_puts cache.drafts worker count key found.0 found.1 due;
    }) s

pub kept_commit : (cache : CacheState Listing) (board : List (Task Outcome)) (progress : ℕ → Progress) (worker : ℕ) (now : Progress) (keys bound : ℕ) (key : Key) (count : ℕ) (draft : Draft Listing) → find (is_draft worker key.0) cache.drafts ≡ Some draft → IsWhole tree_size draft → AreOfATree draft.chunks
    → Hands progress worker now (fills key count) free → IsKept cache board progress keys bound → IsKept (after_commit cache worker key.0) board (change progress worker now) keys (bound + 1)
kept_commit cache board progress worker now keys bound key count draft found whole tree hands s =
    let due = due_drafts cache board progress worker now free keys bound key count hands s in
    let last : Line Listing = line_of_draft (cache.clock + 1) draft in
    let known : draft.key < keys = All-found (λ draft. draft.key < keys) (is_draft worker key.0) cache.drafts draft found s.drafts in
    kept_step cache (after_commit cache worker key.0) board progress worker now (fills key count) free keys bound hands
    (record {
      sound = sound-commit tree_size cache worker key.0 s.sound (subst (λ o. IsSomeAnd o (IsWhole tree_size)) (sym found) whole);
      clocked = omega (arith, s.clocked);
      entries = subst (λ (o : Option (Draft Listing)). All (IsEntry keys) (cache.lines ++ map (line_of_draft (cache.clock + 1)) (option_to_list o))) (sym found) (All-push (IsEntry keys) cache.lines last s.entries (record { known = known; tree = tree }));
      drafts = All-remove_first (λ draft. draft.key < keys) (is_draft worker key.0) cache.drafts s.drafts;
      pinned = unturned worker pins_due _ _ (fills key count) free (λ k. refl) (pins-commit cache worker key.0);
      drafted = ended_drafts cache.drafts worker count key draft found;
      put = ended_puts cache.drafts worker count key draft found due;
    }) s
