-- Where a reply, or refused memory, takes a job: it can be asked again, and keeps its plan.
use Rattle.std.proofs.Common.{◌≡◌, ℕ, ◌==◌, true, false, cond, List, [], ◌∷◌, ◌++◌, length, drop, Option, Some, None, nat_lt, refl, sym, ap, ◌∙◌}
use Rattle.std.specs.Prelude.{slice_get, not}
use Rattle.std.specs.List.{list_any}
use Rattle.std.proofs.lemmas.Bool.{cond_both, false≢true}
use Rattle.std.proofs.lemmas.Option.{none-some, same_Some}
use Rattle.osb_tree.specs.Trees.{Listing, empty_tree}
use Rattle.osb_tree.specs.Chunks.{pairs_of}
use Rattle.osb_tree.specs.declared.numbers.Key.{Key}
use Rattle.osb_tree.specs.declared.numbers.TaskNo.{TaskNo}
use Rattle.osb_recipe.specs.declared.outcomes.Outcome.{Outcome}
use Rattle.osb_recipe.specs.declared.outcomes.Outcome.TheVariants as outcomes
use Rattle.osb_recipe.specs.declared.plans.Plan.{Plan}
use Rattle.osb_board.specs.declared.tasks.Claim.TheVariants as claims
use Rattle.osb_cache.specs.declared.answers.Look.TheVariants as looks
use Rattle.osb_cache.specs.declared.answers.Reserve.{Reserve}
use Rattle.osb_cache.specs.declared.answers.Reserve.TheVariants as reserves
use Rattle.osb_job.specs.declared.actions.Action.{Action}
use Rattle.osb_job.specs.declared.actions.Action.TheVariants as actions
use Rattle.osb_job.specs.declared.actions.Reply.{Reply}
use Rattle.osb_job.specs.declared.actions.Reply.TheVariants as replies
use Rattle.osb_job.specs.declared.places.Setup.{Setup}
use Rattle.osb_job.specs.declared.places.Place.{Place}
use Rattle.osb_job.specs.declared.places.Place.TheVariants.{Outside, Fetching, Looking, Reading, Holding, Reserving, Filling, Putting, Unpinning, Dropping, Ending, Ended}
use Rattle.osb_job.specs.Scripts.{word_of, is_tree, is_no_memory, chain_at, marked_at, deps_at}
use Rattle.osb_job.specs.Jobs.{Turn, wants, asked, still, run_from, place_behind, trees_of, begun, gathered, fetching, fetched, read, reserved, taken, refused, Fits, HasTrees, IsOf}
use Rattle.osb_state.specs.States.{is_refusable}
use Rattle.osb_state.proofs.StagePlaces.{Asks, run_on_asks, length-trees_of}

-- ---- what is asked

pub asked_of : (plan : Plan) (place : Place) → IsOf plan place → IsOf plan (asked place)
asked_of plan (Filling setup key tree run (chunk ∷ chunks)) same = same
asked_of plan (Ending task outcome) same = tt
asked_of plan place same = same

not_refusable : {A : Type 0} (wanted action : Action) → is_refusable wanted ≡ false → Some wanted ≡ Some action → is_refusable action ≡ true → A
not_refusable wanted action sure is may = absurd (false≢true (sym sure ∙ ap is_refusable (same_Some wanted action is) ∙ may))

-- nothing is handed out with an action that memory may be refused to
pub asked_refusable : (place : Place) (action : Action) → wants place ≡ Some action → is_refusable action ≡ true → asked place ≡ place
asked_refusable (Filling setup key tree run (chunk ∷ chunks)) action is may = not_refusable (actions.Put key chunk) action refl is may
asked_refusable (Ending task outcome) action is may = not_refusable (actions.Done task outcome) action refl is may
asked_refusable place action is may = refl

-- nor where nothing is wanted
pub asked_nothing : (place : Place) → wants place ≡ None → asked place ≡ place
asked_nothing (Filling setup key tree run (chunk ∷ chunks)) is = absurd (none-some _ (sym is))
asked_nothing (Ending task outcome) is = absurd (none-some _ (sym is))
asked_nothing place is = refl

-- ---- where memory is refused

pub refused_asks : (plan : Plan) (place : Place) → Asks plan place → Asks plan (refused place)
refused_asks plan (Putting setup key tree run parts) asks = absurd asks.can
refused_asks plan Ended asks = absurd asks.can
refused_asks plan place asks = record { can = tt; same = tt }

-- ---- after a reply

module _ (plan : Plan) where
  run_asks : (setup : Setup) (run : ℕ) (tree : Listing) → HasTrees plan setup → Asks plan (run_from plan setup run tree).place
  run_asks setup run tree has = run_on_asks plan setup run tree (drop run (chain_at plan setup.task)) has

  begun_asks : (setup : Setup) → HasTrees plan setup → Asks plan (begun plan setup).place
  begun_asks setup has =
      cond_both (length (marked_at plan setup.task) == 0) (run_from plan setup 0 empty_tree) (still (Looking setup)) (λ turn. Asks plan turn.place) (λ _. run_asks setup 0 empty_tree has) (λ _. record { can = tt; same = has })

  gathered_asks : (task : TaskNo) (got : List Outcome) → Asks plan (gathered plan task got).place
  gathered_asks task got =
      let setup : Setup = record { task = task; trees = trees_of plan (deps_at plan task) got } in
      let has : HasTrees plan setup = length-trees_of plan (deps_at plan task) got in
      let blocked : Turn = cond (list_any (λ outcome. not (is_tree (word_of outcome))) got) (still (Ending task outcomes.Blocked)) (begun plan setup) in
      cond_both (list_any (λ outcome. is_no_memory (word_of outcome)) got) (still (Ending task outcomes.NoMemory)) blocked (λ turn. Asks plan turn.place) (λ _. record { can = tt; same = tt })
      (λ _. cond_both (list_any (λ outcome. not (is_tree (word_of outcome))) got) (still (Ending task outcomes.Blocked)) (begun plan setup) (λ turn. Asks plan turn.place) (λ _. record { can = tt; same = tt }) (λ _. begun_asks setup has))

  fetching_asks : (task : TaskNo) (got : List Outcome) (dep : Option TaskNo) → Asks plan (fetching plan task got dep).place
  fetching_asks task got None = gathered_asks task got
  fetching_asks task got (Some dep) = record { can = tt; same = tt }

  fetched_asks : (task : TaskNo) (got : List Outcome) → Asks plan (fetched plan task got).place
  fetched_asks task got = fetching_asks task got (slice_get (deps_at plan task) (length got))

  read_asks : (setup : Setup) (key : Key) (count : ℕ) (parts : List Listing) → HasTrees plan setup → Asks plan (read setup key count parts).place
  read_asks setup key count parts has =
      cond_both (nat_lt (length parts) count) (Reading setup key count parts) (Holding setup key (pairs_of parts)) (λ place. Asks plan place) (λ _. record { can = tt; same = has }) (λ _. record { can = tt; same = has })

  reserved_asks : (setup : Setup) (key : Key) (tree : Listing) (run : ℕ) (reserve : Reserve) → HasTrees plan setup → Asks plan (reserved plan setup key tree run reserve).place
  reserved_asks setup key tree run (reserves.Room evicted) has = record { can = tt; same = has }
  reserved_asks setup key tree run reserves.Already has = run_asks setup run tree has
  reserved_asks setup key tree run reserves.TooLarge has = run_asks setup run tree has
  reserved_asks setup key tree run reserves.Full has = run_asks setup run tree has

  pub taken_asks : (place : Place) (reply : Reply) → IsOf plan place → Fits plan place reply → Asks plan (taken plan place reply).place
  taken_asks Outside (replies.Claimed (claims.Task task)) same fits = fetched_asks task []
  taken_asks Outside (replies.Claimed claims.Idle) same fits = record { can = tt; same = tt }
  taken_asks Outside (replies.Claimed claims.Over) same fits = record { can = tt; same = tt }
  taken_asks (Fetching task dep got) (replies.Fetched outcome) same fits = fetched_asks task (got ++ outcome ∷ [])
  taken_asks (Looking setup) (replies.Looked (looks.Hit place key count)) same fits = record { can = tt; same = same }
  taken_asks (Looking setup) (replies.Looked looks.Miss) same fits = run_asks setup 0 empty_tree same
  taken_asks (Reading setup key count parts) (replies.Chunk chunk) same fits = read_asks setup key count (parts ++ chunk ∷ []) same
  taken_asks (Holding setup key tree) replies.Plain same fits = run_asks setup (place_behind key (chain_at plan setup.task)) tree same
  taken_asks (Reserving setup key tree run) (replies.Reserved reserve) same fits = reserved_asks setup key tree run reserve same
  taken_asks (Filling setup key tree run []) replies.Plain same fits = run_asks setup run tree same
  taken_asks (Putting setup key tree run parts) replies.Plain same fits = record { can = tt; same = same }
  taken_asks (Unpinning task key) replies.Plain same fits = record { can = tt; same = tt }
  taken_asks (Dropping task key) replies.Plain same fits = record { can = tt; same = tt }
  taken_asks Ended replies.Plain same fits = record { can = tt; same = tt }
  taken_asks place reply same fits = absurd fits
