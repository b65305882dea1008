-- What a job has read of a pinned entry are its first chunks, whatever it was replied.
use Rattle.std.proofs.Common.{◌≡◌, ℕ, ◌+◌, ◌<◌, List, [], ◌∷◌, ◌++◌, map, length, take, IfSome, Option, Some, None, refl, sym, ap, subst, ◌∙◌}
use Rattle.std.specs.Prelude.{nat_lt, slice_get}
use Rattle.std.specs.Option.{option_and_then}
use Rattle.std.proofs.lemmas.Bool.{cond_both}
use Rattle.std.proofs.lemmas.List.{take_more, length-append}
use Rattle.std.proofs.lemmas.Option.{none-some, slice_get_within, get_or_from_slice_get}
use Rattle.osb_tree.specs.Trees.{Listing, empty_tree}
use Rattle.osb_tree.specs.Chunks.{pairs_of}
use Rattle.osb_tree.specs.declared.numbers.Key.{Key}
use Rattle.osb_tree.specs.declared.numbers.TaskNo.{TaskNo}
use Rattle.osb_tree.specs.declared.numbers.WorkerNo.{WorkerNo}
use Rattle.osb_recipe.specs.Plans.{IsSound}
use Rattle.osb_recipe.specs.declared.outcomes.Outcome.{Outcome}
use Rattle.osb_recipe.specs.declared.plans.Plan.{Plan}
use Rattle.osb_board.specs.declared.tasks.Claim.TheVariants as claims
use Rattle.osb_cache.specs.declared.answers.Look.TheVariants as looks
use Rattle.osb_cache.specs.declared.answers.Reserve.TheVariants as reserves
use Rattle.osb_job.specs.declared.actions.Action.TheVariants as actions
use Rattle.osb_job.specs.declared.actions.Reply.{Reply}
use Rattle.osb_job.specs.declared.actions.Reply.TheVariants as replies
use Rattle.osb_job.specs.declared.entries.Event.TheVariants as events
use Rattle.osb_job.specs.declared.places.Setup.{Setup}
use Rattle.osb_job.specs.declared.places.Place.{Place}
use Rattle.osb_job.specs.declared.places.Place.TheVariants.{Outside, Fetching, Looking, Reading, Holding, Reserving, Filling, Putting, Unpinning, Dropping, Ending, Ended}
use Rattle.osb_job.specs.Scripts.{new_block, chain_at}
use Rattle.osb_job.specs.Allowed.{Part}
use Rattle.osb_job.specs.Jobs.{run_from, fetched, place_behind, wants, asked, taken, refused, Fits}
use Rattle.osb_job.specs.Moves.{Moves, Lives, begins, goes_on, gives_up, breaks_off}
use Rattle.osb_job.proofs.Knowing.{Stands, run_stands, fetched_stands}

-- so many chunks are pinned, of which these are the first
pub record HasRead (part : Part) (count : ℕ) (parts : List Listing) : Type 0 where
  pub chunks : List Listing
  pub pinned : part.chunks ≡ Some chunks
  pub long : length chunks ≡ count
  pub first : parts ≡ take (length parts) chunks

abbrev pub ReadsFirst : Part → Place → Type 0
ReadsFirst part (Reading setup key count parts) = HasRead part count parts
ReadsFirst part place = Unit {0}

-- ---- where stages are run or outcomes fetched, nothing is read

-- a worker's part where it has just claimed a task
abbrev claimed : Plan → WorkerNo → TaskNo → Part
claimed plan worker task = record {
  deps = map (λ task. task.deps) plan.tasks;
  keys = length plan.table.recipes;
  mine = record { worker = worker; event = events.Claim task } ∷ [];
  draft = None;
  chunks = None;
}

-- a place where such a worker can stand is no reading
reads_none : (plan : Plan) (worker : WorkerNo) (task : TaskNo) (part : Part) (place : Place) → Stands (claimed plan worker task) place → ReadsFirst part place
reads_none plan worker task part (Reading setup key count parts) stands = absurd (none-some stands.chunks stands.pinned)
reads_none plan worker task part place stands = tt

module _ (plan : Plan) (worker : WorkerNo) (part : Part) (sound : IsSound plan) where
  reads_from : (setup : Setup) (run : ℕ) (tree : Listing) → ReadsFirst part (run_from plan setup run tree).place
  reads_from setup run tree =
      let bare : Part = claimed plan worker setup.task in
      reads_none plan worker setup.task part (run_from plan setup run tree).place
      (run_stands plan bare (record { deps = refl; keys = refl }) setup run tree sound (record { block = new_block setup.task; at = refl; task_is = refl; hand_is = refl }))

  reads_fetched : (task : TaskNo) (got : List Outcome) → ReadsFirst part (fetched plan task got).place
  reads_fetched task got =
      let bare : Part = claimed plan worker task in
      reads_none plan worker task part (fetched plan task got).place
      (fetched_stands plan bare (record { deps = refl; keys = refl }) task got sound (record { block = new_block task; at = refl; task_is = refl; hand_is = refl }))

-- ---- one more chunk

chunk_at : (pinned : Option (List Listing)) (chunks : List Listing) (place : ℕ) (chunk : Listing) → pinned ≡ Some chunks → option_and_then (λ xs. slice_get xs place) pinned ≡ Some chunk → slice_get chunks place ≡ Some chunk
chunk_at pinned chunks place chunk same at = ap (λ (o : Option (List Listing)). option_and_then (λ xs. slice_get xs place) o) (sym same) ∙ at

-- the next chunk, behind the first ones
pub first_more : (chunks parts : List Listing) (chunk : Listing) → slice_get chunks (length parts) ≡ Some chunk → parts ≡ take (length parts) chunks → parts ++ chunk ∷ [] ≡ take (length (parts ++ chunk ∷ [])) chunks
first_more chunks parts chunk at first =
    let within : length parts < length chunks = slice_get_within chunks (length parts) chunk at in
    let long : length (parts ++ chunk ∷ []) ≡ length parts + 1 = length-append parts (chunk ∷ []) in
    ap (λ (xs : List Listing). xs ++ chunk ∷ []) first
    ∙ ap (λ (c : Listing). take (length parts) chunks ++ c ∷ []) (sym (get_or_from_slice_get chunks (length parts) chunk [] at))
    ∙ sym (take_more chunks (length parts) [] within)
    ∙ ap (λ (n : ℕ). take n chunks) (sym long)

module _ (plan : Plan) (worker : WorkerNo) (part part' : Part) (sound : IsSound plan) where
  reads_one : (setup : Setup) (key : Key) (count : ℕ) (parts : List Listing) (chunk : Listing) → HasRead part count parts → Moves worker (actions.Read key (length parts)) (replies.Chunk chunk) part part'
      → ReadsFirst part' (taken plan (Reading setup key count parts) (replies.Chunk chunk)).place
  reads_one setup key count parts chunk has moves =
      let more : List Listing = parts ++ chunk ∷ [] in
      let at = chunk_at part.chunks has.chunks (length parts) chunk has.pinned moves.holds.read in
      let now : HasRead part' count more = record { chunks = has.chunks; pinned = moves.holds.chunks ∙ has.pinned; long = has.long; first = first_more has.chunks parts chunk at has.first } in
      cond_both (nat_lt (length more) count) (Reading setup key count more) (Holding setup key (pairs_of more)) (ReadsFirst part') (λ _. now) (λ _. tt)

  reads_taken : (place : Place) (reply : Reply) → ReadsFirst part place → IfSome (wants place) (λ action. Moves worker action reply part part') → Fits plan (asked place) reply → ReadsFirst part' (taken plan (asked place) reply).place
  reads_taken Outside (replies.Claimed (claims.Task task)) has moves fits = reads_fetched plan worker part' sound task []
  reads_taken Outside (replies.Claimed claims.Idle) has moves fits = tt
  reads_taken Outside (replies.Claimed claims.Over) has moves fits = tt
  reads_taken (Fetching task dep got) (replies.Fetched outcome) has moves fits = reads_fetched plan worker part' sound task (got ++ outcome ∷ [])
  reads_taken (Looking setup) (replies.Looked (looks.Hit place key count)) has moves fits =
      record { chunks = moves.holds.pinned; pinned = moves.holds.chunks; long = moves.holds.count_is; first = refl }
  reads_taken (Looking setup) (replies.Looked looks.Miss) has moves fits = reads_from plan worker part' sound setup 0 empty_tree
  reads_taken (Reading setup key count parts) (replies.Chunk chunk) has moves fits = reads_one setup key count parts chunk has moves
  reads_taken (Holding setup key tree) replies.Plain has moves fits = reads_from plan worker part' sound setup (place_behind key (chain_at plan setup.task)) tree
  reads_taken (Reserving setup key tree run) (replies.Reserved (reserves.Room evicted)) has moves fits = tt
  reads_taken (Reserving setup key tree run) (replies.Reserved reserves.Already) has moves fits = reads_from plan worker part' sound setup run tree
  reads_taken (Reserving setup key tree run) (replies.Reserved reserves.TooLarge) has moves fits = reads_from plan worker part' sound setup run tree
  reads_taken (Reserving setup key tree run) (replies.Reserved reserves.Full) has moves fits = reads_from plan worker part' sound setup run tree
  reads_taken (Filling setup key tree run []) replies.Plain has moves fits = reads_from plan worker part' sound setup run tree
  reads_taken (Filling setup key tree run (chunk ∷ left)) replies.Plain has moves fits = tt
  reads_taken (Putting setup key tree run parts) replies.Plain has moves fits = tt
  reads_taken (Unpinning task key) replies.Plain has moves fits = tt
  reads_taken (Dropping task key) replies.Plain has moves fits = tt
  reads_taken (Ending task outcome) replies.Plain has moves fits = tt
  reads_taken Ended replies.Plain has moves fits = tt
  reads_taken place reply has moves fits = absurd fits

-- ---- whatever was replied

reads_refused : (part : Part) (place : Place) → ReadsFirst part (refused place)
reads_refused part Outside = tt
reads_refused part place = tt

pub lives_read : (plan : Plan) (worker : WorkerNo) (place : Place) (part : Part) → IsSound plan → Lives plan worker place part → ReadsFirst part place
lives_read plan worker place part sound (begins part' new) = tt
lives_read plan worker place part sound (goes_on before after was now action reply lives is moves fits same whole) =
    let moved = subst (λ wanted. IfSome wanted (λ action. Moves worker action reply was now)) (sym is) moves in
    subst (ReadsFirst now) (sym same) (reads_taken plan worker was now sound before reply (lives_read plan worker before was sound lives) moved fits)
lives_read plan worker place part sound (gives_up before after was lives same) = subst (ReadsFirst was) (sym same) (reads_refused was before)
lives_read plan worker place part sound (breaks_off before after was now action reply lives is moves fits same) =
    subst (ReadsFirst now) (sym same) (reads_refused now (taken plan (asked before) reply).place)
