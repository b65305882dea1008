-- What the shared state replies fits, whatever the cache began with.
use Rattle.std.proofs.Common.{◌≡◌, ℕ, ◌+◌, ◌<◌, List, [], ◌∷◌, ◌++◌, length, map, take, All, position, IfSome, Option, Some, None, refl, sym, ap, subst, ◌∙◌, arith}
use Rattle.std.specs.Prelude.{slice_get}
use Rattle.std.specs.List.{slice_index_or}
use Rattle.std.proofs.lemmas.List.{take_all, length-append, length-map}
use Rattle.std.proofs.lemmas.Option.{slice_get-get_or}
use Rattle.osb_tree.specs.Trees.{Listing}
use Rattle.osb_tree.specs.Chunks.{AreOfATree}
use Rattle.osb_tree.specs.declared.numbers.Key.{Key}
use Rattle.osb_tree.specs.declared.numbers.WorkerNo.{WorkerNo}
use Rattle.osb_recipe.specs.declared.outcomes.Outcome.{Outcome}
use Rattle.osb_recipe.specs.declared.plans.Plan.{Plan}
use Rattle.osb_board.specs.declared.tasks.Task.{Task}
use Rattle.osb_board.specs.declared.tasks.Claim.{Claim}
use Rattle.osb_board.specs.declared.tasks.Claim.TheVariants as claims
use Rattle.osb_board.specs.Boards.{claim_of}
use Rattle.osb_board.proofs.Claims.{claim_of-Claimed}
use Rattle.osb_cache.specs.Caches.{Line, is_committed, chunks_at, look_at, key_at}
use Rattle.osb_cache.proofs.Lists.{All-found}
use Rattle.osb_cache.proofs.Lookups.{some_says}
use Rattle.osb_job.specs.declared.actions.Action.{Action}
use Rattle.osb_job.specs.declared.actions.Action.TheVariants as actions
use Rattle.osb_job.specs.declared.actions.Reply.TheVariants as replies
use Rattle.osb_job.specs.declared.places.Setup.{Setup}
use Rattle.osb_job.specs.declared.places.Place.{Place}
use Rattle.osb_job.specs.declared.places.Place.TheVariants.{Outside, Looking, Reading, Filling}
use Rattle.osb_job.specs.Scripts.{marked_at}
use Rattle.osb_job.specs.Allowed.{Allowed}
use Rattle.osb_job.specs.Jobs.{wants, asked, Fits}
use Rattle.osb_job.proofs.Wanting.{wants_what_is_allowed}
use Rattle.osb_state.specs.States.{State, part, marked_in, gives}
use Rattle.osb_state.specs.Kept.{IsEntry, Valid}
use Rattle.osb_state.specs.Replies.{IsOfPlan, RepliesFit}
use Rattle.osb_state.proofs.ReadParts.{HasRead, ReadsFirst, first_more, lives_read}
use Rattle.osb_state.proofs.Pinned.{IsEntryOf, pinned_entry, found_entry, some_chunks, marked_are}

-- a claimed task is on the board
claim_fits : (plan : Plan) (board : List (Task Outcome)) (claim : Claim) → map (λ task. task.deps) board ≡ map (λ task. task.deps) plan.tasks → claim_of board ≡ claim → Fits plan Outside (replies.Claimed claim)
claim_fits plan board (claims.Task task) deps e =
    let many : length board ≡ length plan.tasks = sym (length-map board (λ task. task.deps)) ∙ ap length deps ∙ length-map plan.tasks (λ task. task.deps) in
    omega (arith, many, (claim_of-Claimed board task e).within)
claim_fits plan board claims.Idle deps e = tt
claim_fits plan board claims.Over deps e = tt

entry_tree : (keys : ℕ) (lines : List (Line Listing)) (key : Key) (chunks : List Listing) → All (IsEntry keys) lines → IsEntryOf lines key chunks → AreOfATree chunks
entry_tree keys lines key chunks all entry =
    subst AreOfATree entry.are (All-found (IsEntry keys) _ lines entry.line entry.found all).tree

look_fits : (plan : Plan) (lines : List (Line Listing)) (bound : ℕ) (setup : Setup) (keys : List Key) → keys ≡ marked_at plan setup.task → All (IsEntry bound) lines → (found : Option ℕ) → position (λ key. is_committed key.0 lines) keys ≡ found
    → Fits plan (Looking setup) (replies.Looked (look_at lines keys found))
look_fits plan lines bound setup keys same all None e = tt
look_fits plan lines bound setup keys same all (Some place) e =
    let found = found_entry lines keys place e in
    let some : 0 < length found.line.chunks = some_chunks found.line.chunks (entry_tree bound lines (key_at keys place) found.line.chunks all found.entry) in
    (ap (λ (ks : List Key). slice_get ks place) (sym same) ∙ found.key, omega (arith, some, ap length found.entry.at))

-- the last chunk makes the whole entry
read_fits : (plan : Plan) (lines : List (Line Listing)) (bound : ℕ) (setup : Setup) (key : Key) (count : ℕ) (chunks parts : List Listing) → All (IsEntry bound) lines → IsEntryOf lines key chunks → length chunks ≡ count → parts ≡ take (length parts) chunks
    → Fits plan (Reading setup key count parts) (replies.Chunk (slice_index_or (chunks_at key.0 lines) (length parts) []))
read_fits plan lines bound setup key count chunks parts all entry long first full =
    let chunk : Listing = slice_index_or (chunks_at key.0 lines) (length parts) [] in
    let more : List Listing = parts ++ chunk ∷ [] in
    let one_more : length more ≡ length parts + 1 = length-append parts (chunk ∷ []) in
    let at : slice_get chunks (length parts) ≡ Some chunk =
    slice_get-get_or chunks (length parts) [] (omega arith) ∙ ap (λ (xs : List Listing). Some (slice_index_or xs (length parts) [])) (sym entry.at) in
    let same : more ≡ chunks = first_more chunks parts chunk at first ∙ take_all (length more) chunks (omega arith) in
    subst AreOfATree (sym same) (entry_tree bound lines key chunks all entry)

module _ (plan : Plan) (state : State) (worker : WorkerNo) (valid : Valid state) (of : IsOfPlan plan state) where
  looks_fit : (setup : Setup) → Fits plan (Looking setup) (gives state worker (actions.Look setup.task))
  looks_fit setup =
      let keys : List Key = marked_in state setup.task in
      look_fits plan state.cache.lines state.keys setup keys (marked_are plan state setup.task of.marked) valid.entries (position (λ (key : Key). is_committed key.0 state.cache.lines) keys) refl

  reads_fit : (setup : Setup) (key : Key) (count : ℕ) (parts : List Listing) → HasRead (part state worker) count parts → Allowed (part state worker) (actions.Read key (length parts))
      → Fits plan (Reading setup key count parts) (gives state worker (actions.Read key (length parts)))
  reads_fit setup key count parts has can =
      let entry = pinned_entry state worker key has.chunks can.reading has.pinned in
      read_fits plan state.cache.lines state.keys setup key count has.chunks parts valid.entries entry has.long has.first

  fits_at : (place : Place) → ReadsFirst (part state worker) place → ((action : Action) → wants place ≡ Some action → Allowed (part state worker) action) → IfSome (wants place) (λ action. Fits plan (asked place) (gives state worker action))
  fits_at Outside has can = claim_fits plan state.board (claim_of state.board) of.deps refl
  fits_at (Looking setup) has can = looks_fit setup
  fits_at (Reading setup key count parts) has can = reads_fit setup key count parts has (can (actions.Read key (length parts)) refl)
  fits_at (Filling setup key tree run []) has can = tt
  fits_at (Filling setup key tree run (chunk ∷ left)) has can = tt
  fits_at place has can = tt

pub replies_fit : RepliesFit
replies_fit plan state worker place action sound table valid of lives is =
    let can = λ (wanted : Action) (e : wants place ≡ Some wanted). wants_what_is_allowed plan worker place (part state worker) wanted sound table lives e in
    some_says (wants place) action (λ wanted. Fits plan (asked place) (gives state worker wanted)) is
    (fits_at plan state worker valid of place (lives_read plan worker place (part state worker) sound lives) can)
