-- A job whose task is claimed, or to which an outcome comes, is where the script goes on.
use Rattle.std.proofs.Common.{◌≡◌, ◌==◌, ◌&&◌, ◌||◌, Bool, true, false, not, List, [], ◌∷◌, length, map, find, Option, Some, None, refl, ap, ◌∙◌}
use Rattle.std.specs.Prelude.{slice_get, is_none, if◌then◌else◌}
use Rattle.std.specs.List.{list_any}
use Rattle.std.proofs.lemmas.List.{length-map}
use Rattle.osb_tree.specs.Trees.{empty_tree}
use Rattle.osb_tree.specs.declared.numbers.Key.{Key}
use Rattle.osb_tree.specs.declared.numbers.TaskNo.{TaskNo}
use Rattle.osb_recipe.specs.Tables.{IsTable}
use Rattle.osb_recipe.specs.Plans.{IsSound}
use Rattle.osb_recipe.specs.declared.references.TreeRef.TheVariants.{Empty}
use Rattle.osb_recipe.specs.declared.outcomes.Outcome.{Outcome}
use Rattle.osb_recipe.specs.declared.outcomes.Outcome.TheVariants as outcomes
use Rattle.osb_recipe.specs.declared.plans.Plan.{Plan}
use Rattle.osb_job.specs.declared.entries.Word.{Word}
use Rattle.osb_job.specs.declared.places.Setup.{Setup}
use Rattle.osb_job.specs.declared.places.Place.TheVariants.{Looking, Ending}
use Rattle.osb_job.specs.Scripts.{free, busy, chain_at, marked_at, deps_at, word_of, is_tree, is_no_memory, left_after, is_to_keep, next}
use Rattle.osb_job.specs.Jobs.{still, fetching, fetched, gathered, begun, run_from, trees_of}
use Rattle.osb_job.proofs.ChainRests.{rest_at_start}
use Rattle.osb_job.proofs.PlanTasks.{IsKnown, known}
use Rattle.osb_job.proofs.FetchedTrees.{AreTold, have_trees, stages-can_run}
use Rattle.osb_job.proofs.AgreeingPlaces.{block_at, IsReady, IsPrepared, IsEnding, Agrees}
use Rattle.osb_job.proofs.AgreeingRuns.{run_from_agrees}

list_any-map : {X Y : Type 0} (p : Y → Bool) (f : X → Y) (xs : List X) → list_any p (map f xs) ≡ list_any (λ x. p (f x)) xs
list_any-map p f [] = refl
list_any-map p f (x ∷ xs) = ap (λ (b : Bool). p (f x) || b) (list_any-map p f xs)

-- a chain is begun from the empty tree
pub from_start : (plan : Plan) (setup : Setup) (words : List Word) (found : Option (Option Key)) → IsTable plan.table → IsPrepared plan setup words → (not (length (marked_at plan setup.task) == 0) && is_none found) ≡ false
    → left_after found (chain_at plan setup.task) ≡ chain_at plan setup.task → Agrees plan (run_from plan setup 0 empty_tree).place (busy (block_at setup.task words found [] free)) false
from_start plan setup words found is prepared seen all =
    run_from_agrees plan setup words found [] 0 empty_tree Empty (chain_at plan setup.task) is (record {
      prepared = prepared;
      here = refl;
      at = rest_at_start plan.table setup.trees (chain_at plan setup.task) prepared.known.linked prepared.stages;
      untried = λ key there. refl;
      left = λ more. ap (find (is_to_keep plan (block_at setup.task words found more free))) all;
      seen = seen;
    })

begun_agrees : (plan : Plan) (setup : Setup) (words : List Word) → IsTable plan.table → IsPrepared plan setup words → Agrees plan (begun plan setup).place (busy (block_at setup.task words None [] free)) false
begun_agrees plan setup words is prepared = by (length (marked_at plan setup.task) == 0) refl
  where
    by : (b : Bool) → (length (marked_at plan setup.task) == 0) ≡ b → Agrees plan (if b then run_from plan setup 0 empty_tree else still (Looking setup)).place (busy (block_at setup.task words None [] free)) false
    by true none = from_start plan setup words None is prepared (ap (λ (b : Bool). not b && true) none) refl
    by false some = record { words = words; at = refl; fine = refl; prepared = prepared; some = some }

no_memory : (plan : Plan) (task : TaskNo) (words : List Word) → slice_get (deps_at plan task) (length words) ≡ None → list_any is_no_memory words ≡ true → IsEnding plan task outcomes.NoMemory (busy (block_at task words None [] free)) false
no_memory plan task words all memory = record { words = words; looked = None; tried = []; at = refl; ends = rw (all, memory) }

blocked : (plan : Plan) (task : TaskNo) (words : List Word) → slice_get (deps_at plan task) (length words) ≡ None → list_any is_no_memory words ≡ false → list_any (λ word. not (is_tree word)) words ≡ true → IsEnding plan task outcomes.Blocked (busy (block_at task words None [] free)) false
blocked plan task words all memory trees = record { words = words; looked = None; tried = []; at = refl; ends = rw (all, memory, trees) }

gathered_agrees : (plan : Plan) (task : TaskNo) (got : List Outcome) → IsSound plan → IsTable plan.table → IsKnown plan task → AreTold plan (deps_at plan task) got → slice_get (deps_at plan task) (length got) ≡ None
    → Agrees plan (gathered plan task got).place (busy (block_at task (map word_of got) None [] free)) false
gathered_agrees plan task got sound is known told all =
    by (list_any (λ outcome. is_no_memory (word_of outcome)) got) (list_any (λ outcome. not (is_tree (word_of outcome))) got) refl refl
  where
    setup : Setup
    setup = record { task = task; trees = trees_of plan (deps_at plan task) got }

    ended : slice_get (deps_at plan task) (length (map word_of got)) ≡ None
    ended = ap (slice_get (deps_at plan task)) (length-map got word_of) ∙ all

    by : (memory trees : Bool) → list_any (λ outcome. is_no_memory (word_of outcome)) got ≡ memory → list_any (λ outcome. not (is_tree (word_of outcome))) got ≡ trees
        → Agrees plan (if memory then still (Ending task outcomes.NoMemory) else if trees then still (Ending task outcomes.Blocked) else begun plan (record { task = task; trees = trees_of plan (deps_at plan task) got })).place (busy (block_at task (map word_of got) None [] free)) false
    by true trees memory_is trees_is = no_memory plan task (map word_of got) ended (list_any-map is_no_memory word_of got ∙ memory_is)
    by false true memory_is trees_is = blocked plan task (map word_of got) ended (list_any-map is_no_memory word_of got ∙ memory_is) (list_any-map (λ word. not (is_tree word)) word_of got ∙ trees_is)
    by false false memory_is trees_is =
        let ready : IsReady plan task (map word_of got) = record { fetched = ended; memory = list_any-map is_no_memory word_of got ∙ memory_is; trees = list_any-map (λ word. not (is_tree word)) word_of got ∙ trees_is } in
        begun_agrees plan setup (map word_of got) is (record { ready = ready; known = known; stages = stages-can_run plan task got sound is known (have_trees plan (deps_at plan task) got told all trees_is) })

pub fetched_agrees : (plan : Plan) (task : TaskNo) (got : List Outcome) → IsSound plan → IsTable plan.table → IsKnown plan task → AreTold plan (deps_at plan task) got
    → Agrees plan (fetched plan task got).place (busy (block_at task (map word_of got) None [] free)) false
fetched_agrees plan task got sound is known told = by (slice_get (deps_at plan task) (length got)) refl
  where
    by : (there : Option TaskNo) → slice_get (deps_at plan task) (length got) ≡ there → Agrees plan (fetching plan task got there).place (busy (block_at task (map word_of got) None [] free)) false
    by (Some dep) next = record { at = refl; fine = refl; known = known; next = next; told = told }
    by None all = gathered_agrees plan task got sound is known told all
