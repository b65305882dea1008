-- What a job knows stays known after an action and its reply.
use Rattle.std.proofs.Common.{◌≡◌, ℕ, ◌+◌, List, [], ◌∷◌, ◌++◌, length, Some, refl, sym, ap, subst, ◌∙◌, append_assoc}
use Rattle.std.specs.Prelude.{nat_lt, option_map}
use Rattle.std.proofs.lemmas.Bool.{cond_both}
use Rattle.std.proofs.lemmas.Option.{none-some, same_Some}
use Rattle.osb_tree.specs.Trees.{Listing, tree_size, empty_tree}
use Rattle.osb_tree.specs.Chunks.{chunk_count, pairs_of}
use Rattle.osb_tree.specs.declared.numbers.Key.{Key}
use Rattle.osb_tree.specs.declared.numbers.TaskNo.{TaskNo}
use Rattle.osb_tree.specs.declared.numbers.WorkerNo.{WorkerNo}
use Rattle.osb_tree.proofs.ChunkLaws.{chunks_add_up, chunks_stand_by_number}
use Rattle.osb_recipe.specs.Plans.{IsSound}
use Rattle.osb_recipe.specs.declared.outcomes.Outcome.{Outcome}
use Rattle.osb_recipe.specs.declared.plans.Plan.{Plan}
use Rattle.osb_board.specs.declared.tasks.Claim.TheVariants as claims
use Rattle.osb_cache.specs.Caches.{new_draft, with_chunk}
use Rattle.osb_cache.specs.declared.answers.Look.TheVariants as looks
use Rattle.osb_cache.specs.declared.answers.Reserve.{Reserve}
use Rattle.osb_cache.specs.declared.answers.Reserve.TheVariants as reserves
use Rattle.osb_job.specs.declared.actions.Action.{Action}
use Rattle.osb_job.specs.declared.actions.Action.TheVariants as actions
use Rattle.osb_job.specs.declared.actions.Reply.{Reply}
use Rattle.osb_job.specs.declared.actions.Reply.TheVariants as replies
use Rattle.osb_job.specs.declared.entries.Event.TheVariants as events
use Rattle.osb_job.specs.declared.places.Setup.{Setup}
use Rattle.osb_job.specs.declared.places.Place.{Place}
use Rattle.osb_job.specs.declared.places.Place.TheVariants.{Outside, Gone, Fetching, Looking, Reading, Holding, Reserving, Filling, Putting, Unpinning, Dropping, Ending, Ended}
use Rattle.osb_job.specs.Scripts.{free, reads, fills, new_block, word_of, chain_at}
use Rattle.osb_job.specs.Allowed.{Part, IsBusy}
use Rattle.osb_job.specs.Jobs.{wants, asked, run_from, place_behind, reserved, taken, Fits}
use Rattle.osb_job.specs.Moves.{reserve_event, puts_of, Moves}
use Rattle.osb_job.proofs.Blocks.{hand_after, GoesOn, progress_on, busy_on}
use Rattle.osb_job.proofs.Knowing.{IsBeside, HasDep, IsPinning, HasPinned, HasKey, IsStaging, HasStaged, Stands, run_stands, fetched_stands}

module _ (plan : Plan) (worker : WorkerNo) (part part' : Part) (sound : IsSound plan) (beside : IsBeside plan part') where
  from_outside : (reply : Reply) → Moves worker actions.Claim reply part part' → Fits plan Outside reply → Stands part' (taken plan Outside reply).place
  from_outside (replies.Claimed (claims.Task task)) moves fits =
      let at = progress_on worker actions.Claim (replies.Claimed (claims.Task task)) part part' (events.Claim task) refl moves in
      fetched_stands plan part' beside task [] sound (record { block = new_block task; at = at; task_is = refl; hand_is = refl })
  from_outside (replies.Claimed claims.Idle) moves fits = absurd (none-some moves.event moves.is)
  from_outside (replies.Claimed claims.Over) moves fits = tt
  from_outside reply moves fits = absurd fits

  from_fetching : (task dep : TaskNo) (got : List Outcome) (reply : Reply) → HasDep part task dep → Moves worker (actions.Fetch dep) reply part part' → Fits plan (Fetching task dep got) reply → Stands part' (taken plan (Fetching task dep got) reply).place
  from_fetching task dep got (replies.Fetched outcome) stands moves fits =
      let busy = busy_on worker (actions.Fetch dep) (replies.Fetched outcome) part part' (events.Fetch dep (word_of outcome)) task free refl tt moves stands.busy in
      fetched_stands plan part' beside task (got ++ outcome ∷ []) sound busy
  from_fetching task dep got reply stands moves fits = absurd fits

  from_looking : (setup : Setup) (reply : Reply) → IsBusy part setup.task free → Moves worker (actions.Look setup.task) reply part part' → Fits plan (Looking setup) reply → Stands part' (taken plan (Looking setup) reply).place
  from_looking setup (replies.Looked (looks.Hit place key count)) stands moves fits =
      let busy = busy_on worker (actions.Look setup.task) (replies.Looked (looks.Hit place key count)) part part' (events.Hit key) setup.task free refl tt moves stands in
      record { pins = record { count = 0; busy = busy }; chunks = moves.holds.pinned; pinned = moves.holds.chunks; long = moves.holds.count_is }
  from_looking setup (replies.Looked looks.Miss) stands moves fits =
      let busy = busy_on worker (actions.Look setup.task) (replies.Looked looks.Miss) part part' events.Miss setup.task free refl tt moves stands in
      run_stands plan part' beside setup 0 empty_tree sound busy
  from_looking setup reply stands moves fits = absurd fits

  from_reading : (setup : Setup) (key : Key) (count : ℕ) (parts : List Listing) (reply : Reply) → HasPinned part setup.task key count → Moves worker (actions.Read key (length parts)) reply part part' → Fits plan (Reading setup key count parts) reply
      → Stands part' (taken plan (Reading setup key count parts) reply).place
  from_reading setup key count parts (replies.Chunk chunk) stands moves fits =
      let read = parts ++ chunk ∷ [] in
      let busy = busy_on worker (actions.Read key (length parts)) (replies.Chunk chunk) part part' (events.Read key (length parts)) setup.task (reads key stands.pins.count) refl tt moves stands.pins.busy in
      let pins : IsPinning part' setup.task key = record { count = stands.pins.count + 1; busy = busy } in
      cond_both (nat_lt (length read) count) (Reading setup key count read) (Holding setup key (pairs_of read)) (Stands part')
      (λ _. record { pins = pins; chunks = stands.chunks; pinned = moves.holds.chunks ∙ stands.pinned; long = stands.long }) (λ _. pins)
  from_reading setup key count parts reply stands moves fits = absurd fits

  from_holding : (setup : Setup) (key : Key) (tree : Listing) (reply : Reply) → IsPinning part setup.task key → Moves worker (actions.Unpin key) reply part part' → Fits plan (Holding setup key tree) reply → Stands part' (taken plan (Holding setup key tree) reply).place
  from_holding setup key tree replies.Plain stands moves fits =
      let busy = busy_on worker (actions.Unpin key) replies.Plain part part' (events.Unpin key) setup.task (reads key stands.count) refl tt moves stands.busy in
      run_stands plan part' beside setup (place_behind key (chain_at plan setup.task)) tree sound busy
  from_holding setup key tree reply stands moves fits = absurd fits

  from_reserving : (setup : Setup) (key : Key) (tree : Listing) (run : ℕ) (reply : Reply) → HasKey part setup.task key → Moves worker (actions.Reserve key (tree_size tree) (chunk_count tree)) reply part part' → Fits plan (Reserving setup key tree run) reply
      → Stands part' (taken plan (Reserving setup key tree run) reply).place
  from_reserving setup key tree run (replies.Reserved reserve) stands moves fits = by reserve moves
    where
      asks : Action
      asks = actions.Reserve key (tree_size tree) (chunk_count tree)

      goes : (answer : Reserve) → Moves worker asks (replies.Reserved answer) part part' → hand_after (reserve_event key answer) free ≡ free → GoesOn (reserve_event key answer) → Stands part' (run_from plan setup run tree).place
      goes answer moves same on =
          let busy = busy_on worker asks (replies.Reserved answer) part part' (reserve_event key answer) setup.task free refl on moves stands.busy in
          run_stands plan part' beside setup run tree sound (subst (IsBusy part' setup.task) same busy)

      by : (answer : Reserve) → Moves worker asks (replies.Reserved answer) part part' → Stands part' (reserved plan setup key tree run answer).place
      by (reserves.Room evicted) moves =
          let busy = busy_on worker asks (replies.Reserved (reserves.Room evicted)) part part' (events.Room key evicted) setup.task free refl tt moves stands.busy in
          record {
            stages = record { count = 0; busy = busy };
            draft = new_draft worker.0 key.0 (tree_size tree) (chunk_count tree);
            own = moves.holds.draft_is;
            front = record { size = sym (chunks_add_up tree); count = sym (chunks_stand_by_number tree).0; split = refl };
          }
      by reserves.Already moves = goes reserves.Already moves refl tt
      by reserves.TooLarge moves = goes reserves.TooLarge moves refl tt
      by reserves.Full moves = goes reserves.Full moves refl tt
  from_reserving setup key tree run reply stands moves fits = absurd fits

  from_filled : (setup : Setup) (key : Key) (tree : Listing) (run : ℕ) (reply : Reply) → HasStaged part setup.task key tree [] → Moves worker (actions.Commit key) reply part part' → Fits plan (Filling setup key tree run []) reply
      → Stands part' (taken plan (Filling setup key tree run []) reply).place
  from_filled setup key tree run replies.Plain stands moves fits =
      let busy = busy_on worker (actions.Commit key) replies.Plain part part' (events.Commit key) setup.task (fills key stands.stages.count) refl tt moves stands.stages.busy in
      run_stands plan part' beside setup run tree sound busy
  from_filled setup key tree run reply stands moves fits = absurd fits

  from_putting : (setup : Setup) (key : Key) (tree : Listing) (run : ℕ) (chunk : Listing) (left : List Listing) (reply : Reply) → HasStaged part setup.task key tree (chunk ∷ left) → Moves worker (actions.Put key chunk) reply part part'
      → Fits plan (Putting setup key tree run left) reply → Stands part' (taken plan (Putting setup key tree run left) reply).place
  from_putting setup key tree run chunk left replies.Plain stands moves fits =
      let busy = busy_on worker (actions.Put key chunk) replies.Plain part part' (events.Put key (puts_of part)) setup.task (fills key stands.stages.count) refl tt moves stands.stages.busy in
      record {
        stages = record { count = stands.stages.count + 1; busy = busy };
        draft = with_chunk chunk stands.draft;
        own = moves.holds.draft_is ∙ ap (option_map (with_chunk chunk)) stands.own;
        front = record { size = stands.front.size; count = stands.front.count; split = append_assoc stands.draft.chunks (chunk ∷ []) left ∙ stands.front.split };
      }
  from_putting setup key tree run chunk left reply stands moves fits = absurd fits

  from_unpinning : (task : TaskNo) (key : Key) (reply : Reply) → IsPinning part task key → Moves worker (actions.Unpin key) reply part part' → Fits plan (Unpinning task key) reply → Stands part' (taken plan (Unpinning task key) reply).place
  from_unpinning task key replies.Plain stands moves fits = busy_on worker (actions.Unpin key) replies.Plain part part' (events.Unpin key) task (reads key stands.count) refl tt moves stands.busy
  from_unpinning task key reply stands moves fits = absurd fits

  from_dropping : (task : TaskNo) (key : Key) (reply : Reply) → IsStaging part task key → Moves worker (actions.Drop key) reply part part' → Fits plan (Dropping task key) reply → Stands part' (taken plan (Dropping task key) reply).place
  from_dropping task key replies.Plain stands moves fits = busy_on worker (actions.Drop key) replies.Plain part part' (events.Drop key) task (fills key stands.count) refl tt moves stands.busy
  from_dropping task key reply stands moves fits = absurd fits

  from_ending : (task : TaskNo) (outcome : Outcome) (reply : Reply) → Moves worker (actions.Done task outcome) reply part part' → Fits plan Ended reply → Stands part' (taken plan Ended reply).place
  from_ending task outcome replies.Plain moves fits = progress_on worker (actions.Done task outcome) replies.Plain part part' (events.Done task (word_of outcome)) refl moves
  from_ending task outcome reply moves fits = absurd fits

  -- the action is the one that is wanted
  wanted : (wants action : Action) (reply : Reply) → Some wants ≡ Some action → Moves worker action reply part part' → Moves worker wants reply part part'
  wanted wants action reply is moves = subst (λ a. Moves worker a reply part part') (sym (same_Some wants action is)) moves

  pub stands_on : (place : Place) (action : Action) (reply : Reply) → Stands part place → wants place ≡ Some action → Moves worker action reply part part' → Fits plan (asked place) reply → Stands part' (taken plan (asked place) reply).place
  stands_on Outside action reply stands is moves fits = from_outside reply (wanted actions.Claim action reply is moves) fits
  stands_on Gone action reply stands is moves fits = absurd (none-some action is)
  stands_on (Fetching task dep got) action reply stands is moves fits = from_fetching task dep got reply stands (wanted (actions.Fetch dep) action reply is moves) fits
  stands_on (Looking setup) action reply stands is moves fits = from_looking setup reply stands (wanted (actions.Look setup.task) action reply is moves) fits
  stands_on (Reading setup key count parts) action reply stands is moves fits = from_reading setup key count parts reply stands (wanted (actions.Read key (length parts)) action reply is moves) fits
  stands_on (Holding setup key tree) action reply stands is moves fits = from_holding setup key tree reply stands (wanted (actions.Unpin key) action reply is moves) fits
  stands_on (Reserving setup key tree run) action reply stands is moves fits = from_reserving setup key tree run reply stands (wanted (actions.Reserve key (tree_size tree) (chunk_count tree)) action reply is moves) fits
  stands_on (Filling setup key tree run []) action reply stands is moves fits = from_filled setup key tree run reply stands (wanted (actions.Commit key) action reply is moves) fits
  stands_on (Filling setup key tree run (chunk ∷ left)) action reply stands is moves fits = from_putting setup key tree run chunk left reply stands (wanted (actions.Put key chunk) action reply is moves) fits
  stands_on (Putting setup key tree run parts) action reply stands is moves fits = absurd stands
  stands_on (Unpinning task key) action reply stands is moves fits = from_unpinning task key reply stands (wanted (actions.Unpin key) action reply is moves) fits
  stands_on (Dropping task key) action reply stands is moves fits = from_dropping task key reply stands (wanted (actions.Drop key) action reply is moves) fits
  stands_on (Ending task outcome) action reply stands is moves fits = from_ending task outcome reply (wanted (actions.Done task outcome) action reply is moves) fits
  stands_on Ended action reply stands is moves fits = absurd stands
