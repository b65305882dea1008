-- The entries that a look finds and that a worker has pinned.
use Rattle.std.proofs.Common.{◌≡◌, ℕ, zero, suc, ◌<◌, List, [], ◌∷◌, length, find, position, Option, Some, None, refl, sym, ap, ◌∙◌, arith}
use Rattle.std.specs.Prelude.{slice_get, map}
use Rattle.std.specs.Option.{option_map, option_map_or}
use Rattle.std.specs.List.{slice_index_or}
use Rattle.std.proofs.lemmas.Bool.{false≢true}
use Rattle.std.proofs.lemmas.List.Quantifiers.{position-Some}
use Rattle.std.proofs.lemmas.Option.{none-some, same_Some, slice_get-get_or}
use Rattle.osb_tree.specs.Trees.{Listing}
use Rattle.osb_tree.specs.Chunks.{AreOfATree}
use Rattle.osb_tree.specs.declared.numbers.Key.{Key}
use Rattle.osb_tree.specs.declared.numbers.TaskNo.{TaskNo}
use Rattle.osb_tree.specs.declared.numbers.WorkerNo.{WorkerNo}
use Rattle.osb_recipe.specs.declared.plans.Task.{Task}
use Rattle.osb_recipe.specs.declared.plans.Plan.{Plan}
use Rattle.osb_cache.specs.Caches.{Line, has_key, is_committed, chunks_at, key_at}
use Rattle.osb_cache.proofs.Firsts.{found_any}
use Rattle.osb_cache.proofs.Lookups.{chunks_found}
use Rattle.osb_job.specs.Scripts.{Hand, reads, marked_at}
use Rattle.osb_job.specs.Allowed.{IsReading}
use Rattle.osb_state.specs.States.{State, chunks_for, part, marked_in}
use Rattle.osb_state.proofs.OtherParts.{busy_hand}

-- the entry of this key has these chunks
pub record IsEntryOf (lines : List (Line Listing)) (key : Key) (chunks : List Listing) : Type 0 where
  pub line : Line Listing
  pub found : find (has_key key.0) lines ≡ Some line
  pub are : line.chunks ≡ chunks
  pub at : chunks_at key.0 lines ≡ chunks

mapped : (lines : List (Line Listing)) (key : Key) (chunks : List Listing) (found : Option (Line Listing)) → find (has_key key.0) lines ≡ found → option_map (λ line. line.chunks) found ≡ Some chunks → IsEntryOf lines key chunks
mapped lines key chunks None here e = absurd (none-some chunks e)
mapped lines key chunks (Some line) here e =
    let are : line.chunks ≡ chunks = same_Some line.chunks chunks e in
    record { line = line; found = here; are = are; at = chunks_found key.0 lines line here ∙ are }

-- what a worker reads is an entry
pub pinned_entry : (state : State) (worker : WorkerNo) (key : Key) (chunks : List Listing) → IsReading (part state worker) key → (part state worker).chunks ≡ Some chunks → IsEntryOf state.cache.lines key chunks
pinned_entry state worker key chunks reading pinned =
    let hand = busy_hand (part state worker) reading.task (reads key reading.count) reading.busy in
    mapped state.cache.lines key chunks (find (has_key key.0) state.cache.lines) refl (sym (ap (λ (h : Hand). chunks_for h state.cache.lines) hand) ∙ pinned)

-- what a look finds is an entry, of a key at its place
pub record IsFound (lines : List (Line Listing)) (keys : List Key) (place : ℕ) : Type 0 where
  pub key : slice_get keys place ≡ Some (key_at keys place)
  pub line : Line Listing
  pub entry : IsEntryOf lines (key_at keys place) line.chunks

pub found_entry : (lines : List (Line Listing)) (keys : List Key) (place : ℕ) → position (λ key. is_committed key.0 lines) keys ≡ Some place → IsFound lines keys place
found_entry lines keys place e =
    let none : Key = record { 0 = 0 } in
    let at = position-Some (λ (key : Key). is_committed key.0 lines) keys place none e in
    let key : Key = key_at keys place in
    let found = found_any (has_key key.0) lines at.1 in
    record {
      key = slice_get-get_or keys place none at.0;
      line = found.0;
      entry = record { line = found.0; found = found.1; are = refl; at = chunks_found key.0 lines found.0 found.1 };
    }

-- a tree has chunks
pub some_chunks : (chunks : List Listing) → AreOfATree chunks → 0 < length chunks
some_chunks [] tree = absurd (false≢true tree.cut)
some_chunks (chunk ∷ chunks) tree = omega arith

marked_by_number : (tasks : List Task) (number : ℕ) → slice_index_or (map (λ (t : Task). t.marked) tasks) number [] ≡ option_map_or (λ (t : Task). t.marked) (slice_get tasks number) []
marked_by_number [] number = refl
marked_by_number (task ∷ tasks) zero = refl
marked_by_number (task ∷ tasks) (suc number) = marked_by_number tasks number

-- the keys that are looked for are those of the plan
pub marked_are : (plan : Plan) (state : State) (task : TaskNo) → state.marked ≡ map (λ task. task.marked) plan.tasks → marked_in state task ≡ marked_at plan task
marked_are plan state task same =
    ap (λ (marked : List (List Key)). slice_index_or marked task.0 []) same ∙ marked_by_number plan.tasks task.0
