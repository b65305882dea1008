-- An action leaves the own parts of other workers as they are.
use Rattle.std.proofs.Common.{◌≡◌, ◌==◌, ◌&&◌, ℕ, ◌<◌, Bool, cond, List, find, Option, Some, refl, sym, ap, subst, ◌∙◌, arith}
use Rattle.std.specs.Option.{option_map}
use Rattle.std.proofs.lemmas.Bool.{cond-true, eq-eqb, ne_eqb}
use Rattle.osb_tree.specs.Trees.{Listing, tree_size}
use Rattle.osb_tree.specs.declared.numbers.Key.{Key}
use Rattle.osb_tree.specs.declared.numbers.TaskNo.{TaskNo}
use Rattle.osb_tree.specs.declared.numbers.WorkerNo.{WorkerNo}
use Rattle.osb_cache.specs.declared.answers.Look.{Look}
use Rattle.osb_cache.specs.declared.answers.Look.TheVariants as looks
use Rattle.osb_cache.specs.declared.answers.Reserve.{Reserve}
use Rattle.osb_cache.specs.declared.answers.Reserve.TheVariants as reserves
use Rattle.osb_cache.specs.Caches.{CacheState, Line, is_draft, chunks_at, pins_on, look_reply, after_look, after_unpin, after_reserve, reserve_reply, after_put, after_commit, after_drop, IsSound}
use Rattle.osb_cache.specs.Laws.{own as pin_of}
use Rattle.osb_cache.proofs.Lookups.{found_pinned, chunks_found}
use Rattle.osb_cache.proofs.Stays.{pins-look, pins-unpin, pins-reserve, pins-commit, chunks-look, chunks-unpin, chunks-reserve, chunks-commit, drafts-reserve, drafts-put, drafts-drop}
use Rattle.osb_job.specs.declared.actions.Action.{Action}
use Rattle.osb_job.specs.declared.actions.Action.TheVariants as actions
use Rattle.osb_job.specs.declared.entries.Entry.{Entry}
use Rattle.osb_job.specs.Scripts.{Hand, free, reads, fills, progress_of}
use Rattle.osb_job.specs.Allowed.{Part, IsBusy}
use Rattle.osb_job.specs.Moves.{event_of, puts_of}
use Rattle.osb_state.specs.States.{State, own, progress_in, hand_of, draft_for, chunks_for, part, Allows, gives, cache_after, marked_for, marked_in, after}
use Rattle.osb_state.specs.Kept.{pins_due, Valid}
use Rattle.osb_state.specs.Laws.{PartStays}
use Rattle.osb_state.proofs.Entries.{own-other}
use Rattle.osb_state.proofs.Boards.{deps_stay}

-- what a change of the cache leaves to the worker of this number
record Leaves (number : ℕ) (cache now : CacheState Listing) : Type 0 where
  drafts : (key : ℕ) → find (is_draft number key) now.drafts ≡ find (is_draft number key) cache.drafts
  pinned : (key : ℕ) → 0 < pins_on number key cache.lines → 0 < pins_on number key now.lines
  chunks : (key : ℕ) → 0 < pins_on number key cache.lines → chunks_at key now.lines ≡ chunks_at key cache.lines

leaves_all : (number : ℕ) (cache : CacheState Listing) → Leaves number cache cache
leaves_all number cache = record { drafts = λ key. refl; pinned = λ key h. h; chunks = λ key h. refl }

leaves_look : (number worker : ℕ) (cache : CacheState Listing) (keys : List Key) → IsSound tree_size cache → (look : Look) → look_reply cache keys ≡ look → Leaves number cache (after_look cache worker look)
leaves_look number worker cache keys s looks.Miss e = leaves_all number cache
leaves_look number worker cache keys s (looks.Hit place key count) e =
    let now : Look → List (Line Listing) = λ look. (after_look cache worker look).lines in
    record {
      drafts = λ name. refl;
      pinned = λ name h. subst (λ (look : Look). 0 < pins_on number name (now look)) e (omega (arith, h, pins-look cache worker keys place count key e number name));
      chunks = λ name h. subst (λ (look : Look). chunks_at name (now look) ≡ chunks_at name cache.lines) e (chunks-look tree_size cache worker keys s name);
    }

none_of : (worker key other name : ℕ) → (worker ≡ other → ⊥) → pin_of worker key other name ≡ 0
none_of worker key other name ne = ap (λ (b : Bool). cond (b && (key == name)) 1 0) (ne_eqb worker other ne)

leaves_unpin : (number worker key : ℕ) (cache : CacheState Listing) → (worker ≡ number → ⊥) → IsSound tree_size cache → 0 < pins_on worker key cache.lines → Leaves number cache (after_unpin cache worker key)
leaves_unpin number worker key cache ne s some =
    record {
      drafts = λ name. refl;
      pinned = λ name h. omega (arith, h, none_of worker key number name ne, pins-unpin tree_size cache worker key s some number name);
      chunks = λ name h. chunks-unpin cache worker key name;
    }

leaves_reserve : (number worker key size count : ℕ) (cache : CacheState Listing) → (worker ≡ number → ⊥) → IsSound tree_size cache → (reply : Reserve) → Leaves number cache (after_reserve cache worker key size count reply)
leaves_reserve number worker key size count cache ne s (reserves.Room evicted) =
    record {
      drafts = λ name. drafts-reserve cache worker key size count number name (λ same _. ne same);
      pinned = λ name h. omega (arith, h, pins-reserve cache size number name);
      chunks = λ name h. chunks-reserve tree_size cache size number name s h;
    }
leaves_reserve number worker key size count cache ne s reserves.Already = leaves_all number cache
leaves_reserve number worker key size count cache ne s reserves.TooLarge = leaves_all number cache
leaves_reserve number worker key size count cache ne s reserves.Full = leaves_all number cache

leaves_put : (number worker key : ℕ) (chunk : Listing) (cache : CacheState Listing) → (worker ≡ number → ⊥) → Leaves number cache (after_put cache worker key chunk)
leaves_put number worker key chunk cache ne =
    record {
      drafts = λ name. drafts-put cache worker key chunk number name (λ same _. ne same);
      pinned = λ name h. h;
      chunks = λ name h. refl;
    }

leaves_commit : (number worker key : ℕ) (cache : CacheState Listing) → (worker ≡ number → ⊥) → Leaves number cache (after_commit cache worker key)
leaves_commit number worker key cache ne =
    record {
      drafts = λ name. drafts-drop cache worker key number name (λ same _. ne same);
      pinned = λ name h. omega (arith, h, pins-commit cache worker key number name);
      chunks = λ name h. chunks-commit cache worker key number name h;
    }

leaves_drop : (number worker key : ℕ) (cache : CacheState Listing) → (worker ≡ number → ⊥) → Leaves number cache (after_drop cache worker key)
leaves_drop number worker key cache ne =
    record {
      drafts = λ name. drafts-drop cache worker key number name (λ same _. ne same);
      pinned = λ name h. h;
      chunks = λ name h. refl;
    }

-- what a worker in a block has in hand
pub busy_hand : (part : Part) (task : TaskNo) (hand : Hand) → IsBusy part task hand → hand_of (progress_of part.mine) ≡ hand
busy_hand part task hand busy = ap hand_of busy.at ∙ busy.hand_is

-- a worker that reads has a pin
pin_due : (hand : Hand) (key : Key) (count : ℕ) → hand ≡ reads key count → pins_due hand key.0 ≡ 1
pin_due hand key count e =
    ap (λ (h : Hand). pins_due h key.0) e ∙ cond-true (key.0 == key.0) 1 0 (eq-eqb key.0 key.0 refl)

pub reading_pinned : (state : State) (worker : WorkerNo) (key : Key) (count : ℕ) → Valid state → hand_of (progress_in state worker) ≡ reads key count → 0 < pins_on worker.0 key.0 state.cache.lines
reading_pinned state worker key count valid e =
    let due : pins_due (hand_of (progress_in state worker)) key.0 ≡ 1 = pin_due (hand_of (progress_in state worker)) key count e in
    omega (arith, due, valid.pinned worker.0 key.0)

leaves : (state : State) (worker other : WorkerNo) (action : Action) → Valid state → Allows state worker action → (worker.0 ≡ other.0 → ⊥) → Leaves other.0 state.cache (cache_after state.cache (marked_for state action) worker action)
leaves state worker other actions.Claim valid can ne = leaves_all other.0 state.cache
leaves state worker other (actions.Fetch dep) valid can ne = leaves_all other.0 state.cache
leaves state worker other (actions.Look task) valid can ne = leaves_look other.0 worker.0 state.cache (marked_in state task) valid.sound (look_reply state.cache (marked_in state task)) refl
leaves state worker other (actions.Read key place) valid can ne = leaves_all other.0 state.cache
leaves state worker other (actions.Unpin key) valid can ne =
    leaves_unpin other.0 worker.0 key.0 state.cache ne valid.sound (reading_pinned state worker key can.count valid (busy_hand (part state worker) can.task (reads key can.count) can.busy))
leaves state worker other (actions.Reserve key size count) valid can ne = leaves_reserve other.0 worker.0 key.0 size count state.cache ne valid.sound (reserve_reply state.cache key.0 size)
leaves state worker other (actions.Put key chunk) valid can ne = leaves_put other.0 worker.0 key.0 chunk state.cache ne
leaves state worker other (actions.Commit key) valid can ne = leaves_commit other.0 worker.0 key.0 state.cache ne
leaves state worker other (actions.Drop key) valid can ne = leaves_drop other.0 worker.0 key.0 state.cache ne
leaves state worker other (actions.Done task outcome) valid can ne = leaves_all other.0 state.cache

-- a pinned entry is found
pub pinned_chunks : (number : ℕ) (key : Key) (count : ℕ) (lines : List (Line Listing)) → 0 < pins_on number key.0 lines → chunks_for (reads key count) lines ≡ Some (chunks_at key.0 lines)
pinned_chunks number key count lines some =
    let found = found_pinned number key.0 lines some in
    ap (λ (o : Option (Line Listing)). option_map (λ line. line.chunks) o) found.1 ∙ ap (λ (chunks : List Listing). Some chunks) (sym (chunks_found key.0 lines found.0 found.1))

draft_stays : (other : WorkerNo) (hand : Hand) (cache now : CacheState Listing) → Leaves other.0 cache now → draft_for other hand now.drafts ≡ draft_for other hand cache.drafts
draft_stays other free cache now l = refl
draft_stays other (reads key count) cache now l = refl
draft_stays other (fills key count) cache now l = l.drafts key.0

chunks_stay : (number : ℕ) (hand : Hand) (cache now : CacheState Listing) → ((key : ℕ) → pins_on number key cache.lines ≡ pins_due hand key) → Leaves number cache now → chunks_for hand now.lines ≡ chunks_for hand cache.lines
chunks_stay number free cache now pinned l = refl
chunks_stay number (reads key count) cache now pinned l =
    let due : pins_due (reads key count) key.0 ≡ 1 = pin_due (reads key count) key count refl in
    let some : 0 < pins_on number key.0 cache.lines = omega (arith, due, pinned key.0) in
    pinned_chunks number key count now.lines (l.pinned key.0 some) ∙ ap (λ (chunks : List Listing). Some chunks) (l.chunks key.0 some) ∙ sym (pinned_chunks number key count cache.lines some)
chunks_stay number (fills key count) cache now pinned l = refl

pub part_stays : PartStays
part_stays state worker other action valid can ne =
    let apart : worker.0 ≡ other.0 → ⊥ = λ e. ne (λ i. record { 0 = sym e i }) in
    let left : Leaves other.0 state.cache (after state worker action).cache = leaves state worker other action valid can apart in
    let mine : own other.0 (after state worker action).log ≡ own other.0 state.log =
    own-other other.0 worker state.log (event_of (puts_of (part state worker)) action (gives state worker action)) apart in
    let hand : hand_of (progress_in (after state worker action) other) ≡ hand_of (progress_in state other) = ap (λ (entries : List Entry). hand_of (progress_of entries)) mine in
    let deps = deps_stay state.board worker action in
    let draft : (part (after state worker action) other).draft ≡ (part state other).draft =
    ap (λ (h : Hand). draft_for other h (after state worker action).cache.drafts) hand ∙ draft_stays other (hand_of (progress_in state other)) state.cache (after state worker action).cache left in
    let chunks : (part (after state worker action) other).chunks ≡ (part state other).chunks =
    ap (λ (h : Hand). chunks_for h (after state worker action).cache.lines) hand ∙ chunks_stay other.0 (hand_of (progress_in state other)) state.cache (after state worker action).cache (valid.pinned other.0) left in
    λ i. record { deps = deps i; keys = state.keys; mine = mine i; draft = draft i; chunks = chunks i }
