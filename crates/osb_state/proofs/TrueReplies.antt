-- What a true state replies is what the plan means.
use Rattle.std.proofs.Common.{◌≡◌, ℕ, inr, List, [], ◌∷◌, length, All, position, IfSome, Option, Some, None, refl, sym, ap, ◌∙◌}
use Rattle.std.specs.Prelude.{slice_get}
use Rattle.std.specs.Option.{option_map_or}
use Rattle.std.specs.List.{slice_index_or}
use Rattle.std.proofs.lemmas.Bool.{eqb-true}
use Rattle.std.proofs.lemmas.Option.{slice_get-get_or}
use Rattle.osb_tree.specs.Trees.{Listing}
use Rattle.osb_tree.specs.Chunks.{chunks_of}
use Rattle.osb_tree.specs.declared.numbers.Key.{Key}
use Rattle.osb_tree.specs.declared.numbers.TaskNo.{TaskNo}
use Rattle.osb_tree.specs.declared.numbers.WorkerNo.{WorkerNo}
use Rattle.osb_recipe.specs.Meanings.{meant}
use Rattle.osb_recipe.specs.declared.outcomes.Outcome.{Outcome}
use Rattle.osb_recipe.specs.declared.outcomes.Outcome.TheVariants as outcomes
use Rattle.osb_recipe.specs.declared.plans.Plan.{Plan}
use Rattle.osb_board.specs.Boards.{outcome_at}
use Rattle.osb_cache.specs.Caches.{Line, has_key, is_committed, look_at, key_at}
use Rattle.osb_cache.proofs.Firsts.{found_passes}
use Rattle.osb_cache.proofs.Lists.{All-found}
use Rattle.osb_cache.proofs.Lookups.{some_says}
use Rattle.osb_job.specs.declared.actions.Action.{Action}
use Rattle.osb_job.specs.declared.actions.Action.TheVariants as actions
use Rattle.osb_job.specs.declared.actions.Reply.TheVariants as replies
use Rattle.osb_job.specs.declared.places.Setup.{Setup}
use Rattle.osb_job.specs.declared.places.Place.{Place}
use Rattle.osb_job.specs.declared.places.Place.TheVariants.{Fetching, Looking, Reading, Filling}
use Rattle.osb_job.specs.Scripts.{chunks_meant, chain_at}
use Rattle.osb_job.specs.Allowed.{MayRead, Allowed}
use Rattle.osb_job.specs.Jobs.{wants, asked}
use Rattle.osb_job.specs.Moves.{IsToldOf, IsTrue}
use Rattle.osb_job.proofs.Wanting.{wants_what_is_allowed}
use Rattle.osb_state.specs.States.{State, part, marked_in, gives}
use Rattle.osb_state.specs.Truth.{AreMeant, IsEnd, IsTrueState}
use Rattle.osb_state.specs.Replies.{RepliesAreTrue}
use Rattle.osb_state.proofs.Pinned.{IsEntryOf, pinned_entry, found_entry}

-- the chunks of an entry are those of the tree that its key means
entry_meant : (plan : Plan) (lines : List (Line Listing)) (key : Key) (chunks : List Listing) → All (λ line. AreMeant plan line.key line.chunks) lines → IsEntryOf lines key chunks → chunks ≡ chunks_meant plan key
entry_meant plan lines key chunks all entry =
    let are = All-found (λ (line : Line Listing). AreMeant plan line.key line.chunks) (has_key key.0) lines entry.line entry.found all in
    let same : entry.line.key ≡ key.0 = eqb-true entry.line.key key.0 (found_passes (has_key key.0) lines entry.line entry.found) in
    sym entry.are ∙ are.all ∙ sym (ap (λ (tree : Option Listing). option_map_or chunks_of tree []) are.means)
    ∙ ap (λ (number : ℕ). chunks_meant plan (record { 0 = number })) same

told_truly : (plan : Plan) (dep : TaskNo) (outcome : Option Outcome) → ((ended : Outcome) → outcome ≡ Some ended → IsEnd plan dep.0 ended) → IsToldOf (meant plan.table (chain_at plan dep)) (option_map_or (λ ended. ended) outcome outcomes.NoMemory)
told_truly plan dep None ends = inr refl
told_truly plan dep (Some ended) ends = ends ended refl

look_is_true : (plan : Plan) (lines : List (Line Listing)) (setup : Setup) (keys : List Key) → All (λ line. AreMeant plan line.key line.chunks) lines → (found : Option ℕ) → position (λ key. is_committed key.0 lines) keys ≡ found
    → IsTrue plan (Looking setup) (replies.Looked (look_at lines keys found))
look_is_true plan lines setup keys all None e = tt
look_is_true plan lines setup keys all (Some place) e =
    let found = found_entry lines keys place e in
    ap length (found.entry.at ∙ entry_meant plan lines (key_at keys place) found.line.chunks all found.entry)

module _ (plan : Plan) (state : State) (worker : WorkerNo) (true_state : IsTrueState plan state) where
  -- the chunk at its place of the entry
  read_is_true : (setup : Setup) (key : Key) (count : ℕ) (parts : List Listing) → MayRead (part state worker) key (length parts) → IsTrue plan (Reading setup key count parts) (gives state worker (actions.Read key (length parts)))
  read_is_true setup key count parts can =
      let lines : List (Line Listing) = state.cache.lines in
      let entry = pinned_entry state worker key can.chunks can.reading can.pinned in
      let meant_are : can.chunks ≡ chunks_meant plan key = entry_meant plan lines key can.chunks true_state.entries entry in
      ap (λ (xs : List Listing). slice_get xs (length parts)) (sym meant_are)
      ∙ slice_get-get_or can.chunks (length parts) [] can.within
      ∙ ap (λ (xs : List Listing). Some (slice_index_or xs (length parts) [])) (sym entry.at)

  true_at : (place : Place) → ((action : Action) → wants place ≡ Some action → Allowed (part state worker) action) → IfSome (wants place) (λ action. IsTrue plan (asked place) (gives state worker action))
  true_at (Fetching task dep got) can = told_truly plan dep (outcome_at state.board dep.0) (true_state.ends dep.0)
  true_at (Looking setup) can =
      let keys : List Key = marked_in state setup.task in
      look_is_true plan state.cache.lines setup keys true_state.entries (position (λ (key : Key). is_committed key.0 state.cache.lines) keys) refl
  true_at (Reading setup key count parts) can = read_is_true setup key count parts (can (actions.Read key (length parts)) refl)
  true_at (Filling setup key tree run []) can = tt
  true_at (Filling setup key tree run (chunk ∷ left)) can = tt
  true_at place can = tt

pub replies_are_true : RepliesAreTrue
replies_are_true plan state worker place action sound table true_state lives is =
    let can = λ (wanted : Action) (e : wants place ≡ Some wanted). wants_what_is_allowed plan worker place (part state worker) wanted sound table lives e in
    some_says (wants place) action (λ wanted. IsTrue plan (asked place) (gives state worker wanted)) is (true_at plan state worker true_state place can)
