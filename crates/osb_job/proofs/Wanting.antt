-- Whatever a job was replied, it knows enough for what it wants.
use Rattle.std.proofs.Common.{◌≡◌, ℕ, ◌<◌, List, [], ◌∷◌, length, Some, sym, ap, subst, ◌∙◌, append-nil, arith}
use Rattle.std.proofs.lemmas.Option.{none-some, same_Some}
use Rattle.osb_tree.specs.Trees.{Listing}
use Rattle.osb_tree.specs.Chunks.{chunks_of, AreOfATree}
use Rattle.osb_tree.specs.declared.numbers.Key.{Key}
use Rattle.osb_tree.specs.declared.numbers.TaskNo.{TaskNo}
use Rattle.osb_tree.specs.declared.numbers.WorkerNo.{WorkerNo}
use Rattle.osb_tree.proofs.ChunkLaws.{chunks_give_the_tree}
use Rattle.osb_recipe.specs.Plans.{IsSound}
use Rattle.osb_recipe.specs.declared.plans.Plan.{Plan}
use Rattle.osb_job.specs.declared.actions.Action.{Action}
use Rattle.osb_job.specs.declared.actions.Action.TheVariants as actions
use Rattle.osb_job.specs.declared.places.Place.{Place}
use Rattle.osb_job.specs.declared.places.Place.TheVariants.{Outside, Gone, Fetching, Looking, Reading, Holding, Reserving, Filling, Putting, Unpinning, Dropping, Ending, Ended}
use Rattle.osb_job.specs.Scripts.{free, progress_of}
use Rattle.osb_job.specs.Allowed.{Part, IsReading, IsFilling, MayRead, MayPut, MayCommit, Allowed}
use Rattle.osb_job.specs.Jobs.{wants, asked, taken, IsWhole, IsPlace}
use Rattle.osb_job.specs.Moves.{Lives, begins, goes_on, gives_up, breaks_off}
use Rattle.osb_job.specs.Laws.{WantsWhatIsAllowed}
use Rattle.osb_job.proofs.Drafts.{room_for_next, whole_at_end}
use Rattle.osb_job.proofs.Knowing.{IsBeside, IsPinning, HasPinned, IsStaging, HasStaged, Stands, Knows, refused_stands, refused_is}
use Rattle.osb_job.proofs.KnownMoves.{stands_on}

-- ---- what is known is enough

is_reading : (part : Part) (task : TaskNo) (key : Key) → IsPinning part task key → IsReading part key
is_reading part task key pins = record { task = task; count = pins.count; busy = pins.busy }

is_filling : (part : Part) (task : TaskNo) (key : Key) → IsStaging part task key → IsFilling part key
is_filling part task key stages = record { task = task; count = stages.count; busy = stages.busy }

may_read : (part : Part) (task : TaskNo) (key : Key) (count place : ℕ) → HasPinned part task key count → place < count → MayRead part key place
may_read part task key count place has within =
    record { reading = is_reading part task key has.pins; chunks = has.chunks; pinned = has.pinned; within = omega (arith, has.long) }

may_put : (part : Part) (task : TaskNo) (key : Key) (tree chunk : Listing) (left : List Listing) → HasStaged part task key tree (chunk ∷ left) → MayPut part key chunk
may_put part task key tree chunk left has =
    record {
      filling = is_filling part task key has.stages;
      draft = has.draft;
      own = has.own;
      room = room_for_next has.draft chunk left (chunks_of tree) has.front;
    }

may_commit : (part : Part) (task : TaskNo) (key : Key) (tree : Listing) → HasStaged part task key tree [] → IsWhole tree → MayCommit part key
may_commit part task key tree has whole =
    record {
      filling = is_filling part task key has.stages;
      draft = has.draft;
      own = has.own;
      whole = whole_at_end has.draft (chunks_of tree) has.front;
      tree = subst AreOfATree (sym (sym (append-nil has.draft.chunks) ∙ has.front.split)) (chunks_give_the_tree tree whole.tree_is whole.limits);
    }

as_wanted : (part : Part) (wanted action : Action) → Some wanted ≡ Some action → Allowed part wanted → Allowed part action
as_wanted part wanted action is allowed = subst (Allowed part) (same_Some wanted action is) allowed

allowed_at : (part : Part) (place : Place) (action : Action) → IsPlace place → Stands part place → wants place ≡ Some action → Allowed part action
allowed_at part Outside action whole stands is = as_wanted part actions.Claim action is stands
allowed_at part Gone action whole stands is = absurd (none-some action is)
allowed_at part (Fetching task dep got) action whole stands is = as_wanted part (actions.Fetch dep) action is (record { task = task; hand = free; busy = stands.busy; waits = stands.waits })
allowed_at part (Looking setup) action whole stands is = as_wanted part (actions.Look setup.task) action is stands
allowed_at part (Reading setup key count parts) action whole stands is = as_wanted part (actions.Read key (length parts)) action is (may_read part setup.task key count (length parts) stands whole)
allowed_at part (Holding setup key tree) action whole stands is = as_wanted part (actions.Unpin key) action is (is_reading part setup.task key stands)
allowed_at part (Reserving setup key tree run) action whole stands is = as_wanted part (actions.Reserve key _ _) action is (record { task = setup.task; busy = stands.busy; known = stands.known })
allowed_at part (Filling setup key tree run []) action whole stands is = as_wanted part (actions.Commit key) action is (may_commit part setup.task key tree stands whole)
allowed_at part (Filling setup key tree run (chunk ∷ left)) action whole stands is = as_wanted part (actions.Put key chunk) action is (may_put part setup.task key tree chunk left stands)
allowed_at part (Putting setup key tree run parts) action whole stands is = absurd stands
allowed_at part (Unpinning task key) action whole stands is = as_wanted part (actions.Unpin key) action is (is_reading part task key stands)
allowed_at part (Dropping task key) action whole stands is = as_wanted part (actions.Drop key) action is (is_filling part task key stands)
allowed_at part (Ending task outcome) action whole stands is = as_wanted part (actions.Done task outcome) action is stands
allowed_at part Ended action whole stands is = absurd stands

-- ---- whatever was replied

lives_know : (plan : Plan) (worker : WorkerNo) (place : Place) (part : Part) → IsSound plan → Lives plan worker place part → Knows plan part place
lives_know plan worker place part sound (begins part' new) =
    record { beside = record { deps = new.deps; keys = new.keys }; is = tt; stands = ap progress_of new.mine }
lives_know plan worker place part sound (goes_on before after was now action reply lives is moves fits same whole) =
    let known = lives_know plan worker before was sound lives in
    let beside : IsBeside plan now = record { deps = moves.deps ∙ known.beside.deps; keys = moves.keys ∙ known.beside.keys } in
    record {
      beside = beside;
      is = whole;
      stands = subst (Stands now) (sym same) (stands_on plan worker was now sound beside before action reply known.stands is moves fits);
    }
lives_know plan worker place part sound (gives_up before after was lives same) =
    let known = lives_know plan worker before was sound lives in
    record {
      beside = known.beside;
      is = subst IsPlace (sym same) (refused_is before);
      stands = subst (Stands was) (sym same) (refused_stands was before known.stands);
    }
lives_know plan worker place part sound (breaks_off before after was now action reply lives is moves fits same) =
    let known = lives_know plan worker before was sound lives in
    let beside : IsBeside plan now = record { deps = moves.deps ∙ known.beside.deps; keys = moves.keys ∙ known.beside.keys } in
    let next : Place = (taken plan (asked before) reply).place in
    record {
      beside = beside;
      is = subst IsPlace (sym same) (refused_is next);
      stands = subst (Stands now) (sym same) (refused_stands now next (stands_on plan worker was now sound beside before action reply known.stands is moves fits));
    }

pub wants_what_is_allowed : WantsWhatIsAllowed
wants_what_is_allowed plan worker place part action sound table lives is =
    let known = lives_know plan worker place part sound lives in
    allowed_at part place action known.is known.stands is
