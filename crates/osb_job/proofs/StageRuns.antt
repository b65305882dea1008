-- Running the stages of a chain, one after another, and where that can be cut off.
use Rattle.std.proofs.Common.{◌≡◌, ℕ, ◌+◌, ◌<◌, ◌≤◌, inr, Bool, true, false, List, [], ◌∷◌, length, drop, Option, Some, None, refl, sym, ap, ◌∙◌, subst, arith}
use Rattle.std.specs.Prelude.{◌==◌, not, slice_get, if◌then◌else◌}
use Rattle.std.specs.List.{list_any}
use Rattle.std.proofs.lemmas.List.{drop_more}
use Rattle.osb_tree.specs.Trees.{Listing, empty_tree}
use Rattle.osb_tree.specs.declared.numbers.Key.{Key}
use Rattle.osb_tree.specs.declared.numbers.TaskNo.{TaskNo}
use Rattle.osb_recipe.specs.Plans.{has_key}
use Rattle.osb_recipe.specs.declared.outcomes.Outcome.{Outcome}
use Rattle.osb_recipe.specs.declared.outcomes.Outcome.TheVariants as outcomes
use Rattle.osb_recipe.specs.declared.plans.Plan.{Plan}
use Rattle.osb_tasks.specs.Stages.{made_at, steps_at}
use Rattle.osb_tasks.specs.declared.stages.Made.{Made}
use Rattle.osb_tasks.specs.declared.stages.Made.TheVariants as made
use Rattle.osb_tasks.proofs.ChainStages.{key_at}
use Rattle.osb_job.specs.declared.places.Setup.{Setup}
use Rattle.osb_job.specs.declared.places.Place.{Place}
use Rattle.osb_job.specs.declared.places.Place.TheVariants.{Looking, Reserving, Ending}
use Rattle.osb_job.specs.Scripts.{word_of, is_tree, is_no_memory, chain_at, marked_at, deps_at}
use Rattle.osb_job.specs.Jobs.{Turn, still, after_stage, run_on, run_from, trees_of, begun, gathered, fetching, fetched, refused, IsTaken}

-- ---- memory that is refused while stages run ends the task

stage_refused : (setup : Setup) (run : ℕ) (key : Key) (marked : Bool) (rest : Listing → Turn) (made : Made) → ((next : Listing) → refused (rest next).place ≡ Ending setup.task outcomes.NoMemory)
    → refused (after_stage setup.task run (λ next. if marked then still (Reserving setup key next (run + 1)) else rest next) made).place ≡ Ending setup.task outcomes.NoMemory
stage_refused setup run key true rest (made.Tree next) later = refl
stage_refused setup run key false rest (made.Tree next) later = later next
stage_refused setup run key marked rest (made.Fault fault) later = refl
stage_refused setup run key marked rest made.Blocked later = refl

pub run_refused : (plan : Plan) (setup : Setup) (run : ℕ) (tree : Listing) (keys : List Key) → refused (run_on plan setup run tree keys).place ≡ Ending setup.task outcomes.NoMemory
run_refused plan setup run tree [] = refl
run_refused plan setup run tree (key ∷ keys) =
    stage_refused setup run key (has_key (marked_at plan setup.task) key) (λ next. run_on plan setup (run + 1) next keys) (made_at setup.trees plan.table key tree)
    (λ next. run_refused plan setup (run + 1) next keys)

-- ---- a run that has come so far

-- what is left of a turn, and the steps from its first to the last so far
pub record IsSoFar (whole left : Turn) (old steps : ℕ) : Type 0 where
  pub place : left.place ≡ whole.place
  pub count : steps + left.steps ≡ old + whole.steps
  pub more : old ≤ steps

pub all_left : (whole : Turn) (steps : ℕ) → IsSoFar whole whole steps steps
all_left whole steps = record { place = refl; count = refl; more = omega arith }

-- the turn behind a stage that made this
abbrev pub behind : Plan → Setup → ℕ → Key → List Key → Made → Turn
behind plan setup run key keys made =
    after_stage setup.task run (λ next. if has_key (marked_at plan setup.task) key then still (Reserving setup key next (run + 1)) else run_on plan setup (run + 1) next keys) made

pub one_run : (plan : Plan) (setup : Setup) (run : ℕ) (tree : Listing) (key : Key) (keys : List Key) (made : Made) (whole : Turn) (old before steps : ℕ)
    → IsSoFar whole (run_on plan setup run tree (key ∷ keys)) old before → made ≡ made_at setup.trees plan.table key tree → steps ≡ before + steps_at setup.trees plan.table key
    → IsSoFar whole (behind plan setup run key keys made) old steps
one_run plan setup run tree key keys made whole old before steps so is count =
    subst (λ (m : Made). IsSoFar whole (behind plan setup run key keys m) old steps) (sym is) (record { place = so.place; count = omega arith; more = omega arith })

-- what is left at a place of a chain
left_at : (plan : Plan) (setup : Setup) (run : ℕ) (tree : Listing) (keys : List Key) (i : ℕ) (whole : Turn) (old steps : ℕ) → i < length keys
    → IsSoFar whole (run_on plan setup run tree (drop i keys)) old steps → IsSoFar whole (run_on plan setup run tree (key_at keys i ∷ drop (i + 1) keys)) old steps
left_at plan setup run tree keys i whole old steps within so =
    subst (λ (rest : List Key). IsSoFar whole (run_on plan setup run tree rest) old steps) (drop_more keys i (record { 0 = 0 }) within) so

-- one more stage is run
pub one_more : (plan : Plan) (setup : Setup) (from : ℕ) (tree next : Listing) (keys : List Key) (i : ℕ) (whole : Turn) (old before steps : ℕ) → i < length keys
    → IsSoFar whole (run_on plan setup (from + i) tree (drop i keys)) old before → made.Tree next ≡ made_at setup.trees plan.table (key_at keys i) tree → steps ≡ before + steps_at setup.trees plan.table (key_at keys i)
    → has_key (marked_at plan setup.task) (key_at keys i) ≡ false → IsSoFar whole (run_on plan setup (from + (i + 1)) next (drop (i + 1) keys)) old steps
one_more plan setup from tree next keys i whole old before steps within so is count unmarked =
    let key = key_at keys i in
    let rest = drop (i + 1) keys in
    let here = left_at plan setup (from + i) tree keys i whole old before within so in
    let ran = one_run plan setup (from + i) tree key rest (made.Tree next) whole old before steps here is count in
    let one : from + i + 1 ≡ from + (i + 1) = omega arith in
    subst (λ (run : ℕ). IsSoFar whole (run_on plan setup run next rest) old steps) one
    (subst (λ (marked : Bool). IsSoFar whole (if marked then still (Reserving setup key next (from + i + 1)) else run_on plan setup (from + i + 1) next rest) old steps) unmarked ran)

-- or memory is refused to it
pub cut_off : (plan : Plan) (setup : Setup) (run : ℕ) (tree : Listing) (keys : List Key) (i : ℕ) (whole : Turn) (old before steps : ℕ) (place : Place) → i < length keys
    → IsSoFar whole (run_on plan setup run tree (drop i keys)) old before → before ≤ steps → steps ≤ before + steps_at setup.trees plan.table (key_at keys i) → place ≡ Ending setup.task outcomes.NoMemory → IsTaken whole old steps place
cut_off plan setup run tree keys i whole old before steps place within so more most at =
    let here = left_at plan setup run tree keys i whole old before within so in
    inr (at ∙ sym (run_refused plan setup run tree (key_at keys i ∷ drop (i + 1) keys)) ∙ ap refused here.place, record { more = omega arith; most = omega arith })

-- ---- memory that is refused before any stage runs

pub cut_at_once : (next : Turn) (steps : ℕ) (place : Place) → place ≡ refused next.place → IsTaken next steps steps place
cut_at_once next steps place is = inr (is, record { more = omega arith; most = omega arith })

begun_refused : (plan : Plan) (setup : Setup) → refused (begun plan setup).place ≡ Ending setup.task outcomes.NoMemory
begun_refused plan setup = by (length (marked_at plan setup.task) == 0)
  where
    by : (none : Bool) → refused (if none then run_from plan setup 0 empty_tree else still (Looking setup)).place ≡ Ending setup.task outcomes.NoMemory
    by true = run_refused plan setup 0 empty_tree (chain_at plan setup.task)
    by false = refl

pub gathered_refused : (plan : Plan) (task : TaskNo) (got : List Outcome) → refused (gathered plan task got).place ≡ Ending task outcomes.NoMemory
gathered_refused plan task got = by (list_any (λ outcome. is_no_memory (word_of outcome)) got) (list_any (λ outcome. not (is_tree (word_of outcome))) got)
  where
    setup : Setup
    setup = record { task = task; trees = trees_of plan (deps_at plan task) got }

    by : (lost failed : Bool) → refused (if lost then still (Ending task outcomes.NoMemory) else if failed then still (Ending task outcomes.Blocked) else begun plan setup).place ≡ Ending task outcomes.NoMemory
    by true failed = refl
    by false true = refl
    by false false = begun_refused plan setup

pub fetched_refused : (plan : Plan) (task : TaskNo) (got : List Outcome) → refused (fetched plan task got).place ≡ Ending task outcomes.NoMemory
fetched_refused plan task got = by (slice_get (deps_at plan task) (length got))
  where
    by : (next : Option TaskNo) → refused (fetching plan task got next).place ≡ Ending task outcomes.NoMemory
    by (Some dep) = refl
    by None = gathered_refused plan task got
