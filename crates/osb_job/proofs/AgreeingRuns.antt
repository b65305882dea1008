-- A job that runs stages comes to where the script goes on.
use Rattle.std.proofs.Common.{◌≡◌, ◌==◌, ◌&&◌, arith, ℕ, ◌+◌, ◌<◌, Bool, true, false, not, List, [], ◌∷◌, ◌++◌, length, drop, find, Option, Some, None, Result, Ok, Err, refl, sym, ap, ap₂, ◌∙◌, subst, append_assoc, append-nil}
use Rattle.std.specs.Prelude.{is_none, is_some, if◌then◌else◌}
use Rattle.std.specs.Option.{option_map_or}
use Rattle.std.specs.Result.{result_ok}
use Rattle.std.proofs.lemmas.Bool.{or_left, or_right, or_from, cond-false, cond-true}
use Rattle.std.proofs.lemmas.Bool.Decides.{nat_tests}
use Rattle.std.proofs.lemmas.List.{drop-drop}
use Rattle.std.proofs.lemmas.List.Folds.{list_any-append}
use Rattle.osb_tree.specs.Trees.{Listing, tree_size}
use Rattle.osb_tree.specs.Chunks.{chunk_count, chunks_of}
use Rattle.osb_tree.specs.declared.numbers.Key.{Key}
use Rattle.osb_tree.specs.declared.faults.StageFault.{StageFault}
use Rattle.osb_tree.proofs.ChunkLaws.{chunks_stand_by_number}
use Rattle.osb_recipe.specs.Works.{does}
use Rattle.osb_recipe.specs.Tables.{IsTable, IsChainFrom}
use Rattle.osb_recipe.specs.Meanings.{tree_at, meanings, meaning, meant}
use Rattle.osb_recipe.specs.Plans.{has_key}
use Rattle.osb_recipe.specs.declared.references.TreeRef.{TreeRef}
use Rattle.osb_recipe.specs.declared.references.TreeRef.TheVariants.{Of}
use Rattle.osb_recipe.specs.declared.outcomes.Outcome.TheVariants as outcomes
use Rattle.osb_recipe.specs.declared.plans.Plan.{Plan}
use Rattle.osb_tasks.specs.Stages.{made_of}
use Rattle.osb_tasks.specs.declared.stages.Made.{Made}
use Rattle.osb_job.specs.declared.actions.Action.TheVariants as actions
use Rattle.osb_job.specs.declared.entries.Word.{Word}
use Rattle.osb_job.specs.declared.places.Setup.{Setup}
use Rattle.osb_job.specs.declared.places.Place.TheVariants.{Reserving, Ending}
use Rattle.osb_job.specs.Scripts.{free, Block, busy, chain_at, marked_at, chunks_meant, size_meant, left_after, is_to_keep, keeping, going_on}
use Rattle.osb_job.specs.Jobs.{Turn, still, after_stage, run_on, run_from}
use Rattle.osb_job.proofs.AlikeStages.{has_key-self}
use Rattle.osb_job.proofs.ChainRests.{rises, key_means_nothing, rest-made_at, rest-means, rest-next, rest-fault}
use Rattle.osb_job.proofs.AgreeingPlaces.{block_at, IsReady, IsOnWay, Agrees}

-- ---- the next key to keep

no_mark : (a b c : Bool) → a ≡ false → (a && b && c) ≡ false
no_mark a b c e = ap (λ (x : Bool). x && b && c) e

no_tree : (a b c : Bool) → b ≡ false → (a && b && c) ≡ false
no_tree true b c e = ap (λ (x : Bool). true && x && c) e
no_tree false b c e = refl

is_tried : (a b c : Bool) → c ≡ true → (a && b && not c) ≡ false
is_tried true true c e = ap not e
is_tried true false c e = refl
is_tried false b c e = refl

is_kept : (a b c : Bool) → a ≡ true → b ≡ true → c ≡ false → (a && b && not c) ≡ true
is_kept a b c one two three = rw (one, two, three)

-- where no key of the rest has a tree
none_to_keep : (plan : Plan) (block : Block) (base : TreeRef) (rest : List Key) → IsTable plan.table → IsChainFrom plan.table base rest → tree_at (meanings plan.table) base ≡ None → find (is_to_keep plan block) rest ≡ None
none_to_keep plan block base [] is linked none = refl
none_to_keep plan block base (key ∷ keys) is linked none =
    let nothing = key_means_nothing plan.table base key linked.0.0 is linked.0.1 linked.0.2 none in
    let out = no_tree (has_key (marked_at plan block.task) key) (is_some (meaning plan.table key)) (not (has_key block.tried key)) (ap (λ (tree : Option Listing). is_some tree) nothing) in
    cond-false (is_to_keep plan block key) (Some key) (find (is_to_keep plan block) keys) out ∙ none_to_keep plan block (Of key) keys is linked.1 nothing

-- all is fetched, and what is to be looked for was
working_on : (plan : Plan) (block : Block) → IsReady plan block.task block.words → (not (length (marked_at plan block.task) == 0) && is_none block.looked) ≡ false
    → going_on plan block free ≡ keeping plan block (find (is_to_keep plan block) (left_after block.looked (chain_at plan block.task)))
working_on plan block ready seen = rw (ready.fetched, ready.memory, ready.trees, seen)

-- ---- on the way

way-goes_on : (plan : Plan) (setup : Setup) (words : List Word) (looked : Option (Option Key)) (tried : List Key) (run : ℕ) (tree : Listing) (base : TreeRef) (rest : List Key) → IsOnWay plan setup words looked tried run tree base rest
    → going_on plan (block_at setup.task words looked tried free) free ≡ keeping plan (block_at setup.task words looked tried free) (find (is_to_keep plan (block_at setup.task words looked tried free)) rest)
way-goes_on plan setup words looked tried run tree base rest way =
    let block = block_at setup.task words looked tried free in
    let Alike : List Key → Type 0 = λ keys. find (is_to_keep plan (block_at setup.task words looked keys free)) (left_after looked (chain_at plan setup.task)) ≡ find (is_to_keep plan (block_at setup.task words looked keys free)) rest in
    working_on plan block way.prepared.ready way.seen ∙ ap (keeping plan block) (subst Alike (append-nil tried) (way.left []))

pub next_place : (chain : List Key) (run : ℕ) (key : Key) (keys : List Key) → drop run chain ≡ key ∷ keys → drop (run + 1) chain ≡ keys
next_place chain run key keys here = sym (drop-drop 1 run chain) ∙ ap (drop 1) here

-- behind an unmarked key
way-unmarked : (plan : Plan) (setup : Setup) (words : List Word) (looked : Option (Option Key)) (tried : List Key) (run : ℕ) (tree : Listing) (base : TreeRef) (key : Key) (keys : List Key) (way : IsOnWay plan setup words looked tried run tree base (key ∷ keys)) → IsTable plan.table
    → (next : Listing) → does way.at.stages.0.value tree ≡ Ok next → has_key (marked_at plan setup.task) key ≡ false → IsOnWay plan setup words looked tried (run + 1) next (Of key) keys
way-unmarked plan setup words looked tried run tree base key keys way is next made unmarked = record {
  prepared = way.prepared;
  here = next_place (chain_at plan setup.task) run key keys way.here;
  at = rest-next plan.table setup.trees (meant plan.table (chain_at plan setup.task)) run tree base key keys way.at is next made;
  untried = λ k there. way.untried k (or_right (key.0 == k.0) (has_key keys k) there);
  left = λ more.
      let test : Key → Bool = is_to_keep plan (block_at setup.task words looked (tried ++ more) free) in
      way.left more ∙ cond-false (test key) (Some key) (find test keys) (no_mark (has_key (marked_at plan setup.task) key) (is_some (meaning plan.table key)) (not (has_key (tried ++ more) key)) unmarked);
  seen = way.seen;
}

-- and behind a marked one, for which room was asked
has_key-added : (tried more : List Key) (key : Key) → has_key ((tried ++ key ∷ []) ++ more) key ≡ true
has_key-added tried more key =
    let of : Key → Bool = λ held. held.0 == key.0 in
    list_any-append of (tried ++ key ∷ []) more
    ∙ or_left (has_key (tried ++ key ∷ []) key) (has_key more key) (list_any-append of tried (key ∷ []) ∙ or_right (has_key tried key) (has_key (key ∷ []) key) (has_key-self key))

not_added : (tried : List Key) (key other : Key) → has_key tried other ≡ false → key.0 < other.0 → has_key (tried ++ key ∷ []) other ≡ false
not_added tried key other out below =
    list_any-append (λ (held : Key). held.0 == other.0) tried (key ∷ []) ∙ or_from (has_key tried other) (has_key (key ∷ []) other) out (grind (arith, nat_tests))

way-marked : (plan : Plan) (setup : Setup) (words : List Word) (looked : Option (Option Key)) (tried : List Key) (run : ℕ) (tree : Listing) (base : TreeRef) (key : Key) (keys : List Key) (way : IsOnWay plan setup words looked tried run tree base (key ∷ keys)) → IsTable plan.table
    → (next : Listing) → does way.at.stages.0.value tree ≡ Ok next → IsOnWay plan setup words looked (tried ++ key ∷ []) (run + 1) next (Of key) keys
way-marked plan setup words looked tried run tree base key keys way is next made = record {
  prepared = way.prepared;
  here = next_place (chain_at plan setup.task) run key keys way.here;
  at = rest-next plan.table setup.trees (meant plan.table (chain_at plan setup.task)) run tree base key keys way.at is next made;
  untried = λ k there. not_added tried key k (way.untried k (or_right (key.0 == k.0) (has_key keys k) there)) (rises plan.table key keys is way.at.linked.1 k there);
  left = λ more.
      let Alike : List Key → Type 0 = λ tries. find (is_to_keep plan (block_at setup.task words looked tries free)) (left_after looked (chain_at plan setup.task)) ≡ find (is_to_keep plan (block_at setup.task words looked tries free)) (key ∷ keys) in
      let tries = (tried ++ key ∷ []) ++ more in
      let test : Key → Bool = is_to_keep plan (block_at setup.task words looked tries free) in
      subst Alike (sym (append_assoc tried (key ∷ []) more)) (way.left (key ∷ more))
      ∙ cond-false (test key) (Some key) (find test keys) (is_tried (has_key (marked_at plan setup.task) key) (is_some (meaning plan.table key)) (has_key tries key) (has_key-added tried more key));
  seen = way.seen;
}

-- ---- where a run ends

end_agrees : (plan : Plan) (setup : Setup) (words : List Word) (looked : Option (Option Key)) (tried : List Key) (run : ℕ) (tree : Listing) (base : TreeRef) → IsOnWay plan setup words looked tried run tree base []
    → Agrees plan (run_on plan setup run tree []).place (busy (block_at setup.task words looked tried free)) false
end_agrees plan setup words looked tried run tree base way = record {
  words = words;
  looked = looked;
  tried = tried;
  at = refl;
  ends = ap Some (way-goes_on plan setup words looked tried run tree base [] way ∙ ap (actions.Done setup.task) (sym way.at.whole));
}

fault_agrees : (plan : Plan) (setup : Setup) (words : List Word) (looked : Option (Option Key)) (tried : List Key) (run : ℕ) (tree : Listing) (base : TreeRef) (key : Key) (keys : List Key) (way : IsOnWay plan setup words looked tried run tree base (key ∷ keys)) → IsTable plan.table
    → (fault : StageFault) → does way.at.stages.0.value tree ≡ Err fault → Agrees plan (Ending setup.task (outcomes.Fault run fault)) (busy (block_at setup.task words looked tried free)) false
fault_agrees plan setup words looked tried run tree base key keys way is fault made =
    let block = block_at setup.task words looked tried free in
    let means = meant plan.table (chain_at plan setup.task) in
    let none : meaning plan.table key ≡ None = rest-means plan.table setup.trees means run tree base key keys way.at is ∙ ap result_ok made in
    let out = no_tree (has_key (marked_at plan setup.task) key) (is_some (meaning plan.table key)) (not (has_key tried key)) (ap (λ (t : Option Listing). is_some t) none) in
    let found = cond-false (is_to_keep plan block key) (Some key) (find (is_to_keep plan block) keys) out ∙ none_to_keep plan block (Of key) keys is way.at.linked.1 none in
    record {
      words = words;
      looked = looked;
      tried = tried;
      at = refl;
      ends = ap Some (way-goes_on plan setup words looked tried run tree base (key ∷ keys) way ∙ ap (keeping plan block) found ∙ ap (actions.Done setup.task) (rest-fault plan.table setup.trees means run tree base key keys way.at fault made));
    }

size_is : (plan : Plan) (key : Key) (tree : Listing) → meaning plan.table key ≡ Some tree → size_meant plan key ≡ tree_size tree
size_is plan key tree means = ap (λ (t : Option Listing). option_map_or tree_size t 0) means

pub chunks_are : (plan : Plan) (key : Key) (tree : Listing) → meaning plan.table key ≡ Some tree → chunks_meant plan key ≡ chunks_of tree
chunks_are plan key tree means = ap (λ (t : Option Listing). option_map_or chunks_of t []) means

reserving_agrees : (plan : Plan) (setup : Setup) (words : List Word) (looked : Option (Option Key)) (tried : List Key) (run : ℕ) (tree : Listing) (base : TreeRef) (key : Key) (keys : List Key) (way : IsOnWay plan setup words looked tried run tree base (key ∷ keys)) → IsTable plan.table
    → (next : Listing) → does way.at.stages.0.value tree ≡ Ok next → has_key (marked_at plan setup.task) key ≡ true → Agrees plan (Reserving setup key next (run + 1)) (busy (block_at setup.task words looked tried free)) false
reserving_agrees plan setup words looked tried run tree base key keys way is next made marked =
    let block = block_at setup.task words looked tried free in
    let has : meaning plan.table key ≡ Some next = rest-means plan.table setup.trees (meant plan.table (chain_at plan setup.task)) run tree base key keys way.at is ∙ ap result_ok made in
    let new = way.untried key (or_left (key.0 == key.0) (has_key keys key) (grind (arith, nat_tests))) in
    let kept = is_kept (has_key (marked_at plan setup.task) key) (is_some (meaning plan.table key)) (has_key tried key) marked (ap (λ (t : Option Listing). is_some t) has) new in
    let found = cond-true (is_to_keep plan block key) (Some key) (find (is_to_keep plan block) keys) kept in
    let count : length (chunks_meant plan key) ≡ chunk_count next = ap length (chunks_are plan key next has) ∙ (chunks_stand_by_number next).0 in
    record {
      words = words;
      looked = looked;
      tried = tried;
      base = Of key;
      rest = keys;
      at = refl;
      fine = refl;
      means = has;
      asks = ap Some (way-goes_on plan setup words looked tried run tree base (key ∷ keys) way ∙ ap (keeping plan block) found ∙ ap₂ (actions.Reserve key) (size_is plan key next has) count);
      way = way-marked plan setup words looked tried run tree base key keys way is next made;
    }

-- ---- a run

abbrev later : Plan → Setup → ℕ → Key → List Key → Listing → Turn
later plan setup run key keys = λ next. if has_key (marked_at plan setup.task) key then still (Reserving setup key next (run + 1)) else run_on plan setup (run + 1) next keys

choice_agrees : (plan : Plan) (setup : Setup) (run : ℕ) (key : Key) (keys : List Key) (next : Listing) (block : Block) (b : Bool) → has_key (marked_at plan setup.task) key ≡ b
    → (has_key (marked_at plan setup.task) key ≡ true → Agrees plan (Reserving setup key next (run + 1)) (busy block) false)
    → (has_key (marked_at plan setup.task) key ≡ false → Agrees plan (run_on plan setup (run + 1) next keys).place (busy block) false)
    → Agrees plan (if b then still (Reserving setup key next (run + 1)) else run_on plan setup (run + 1) next keys).place (busy block) false
choice_agrees plan setup run key keys next block true is kept past = kept is
choice_agrees plan setup run key keys next block false is kept past = past is

pub run_agrees : (plan : Plan) (setup : Setup) (words : List Word) (looked : Option (Option Key)) (tried : List Key) (run : ℕ) (tree : Listing) (base : TreeRef) (rest : List Key) → IsTable plan.table → IsOnWay plan setup words looked tried run tree base rest
    → Agrees plan (run_on plan setup run tree rest).place (busy (block_at setup.task words looked tried free)) false
run_agrees plan setup words looked tried run tree base [] is way = end_agrees plan setup words looked tried run tree base way
run_agrees plan setup words looked tried run tree base (key ∷ keys) is way =
    subst (λ (made : Made). Agrees plan (after_stage setup.task run (later plan setup run key keys) made).place (busy (block_at setup.task words looked tried free)) false)
    (sym (rest-made_at plan.table setup.trees (meant plan.table (chain_at plan setup.task)) run tree base key keys way.at))
    (by (does way.at.stages.0.value tree) refl (λ next past. run_agrees plan setup words looked tried (run + 1) next (Of key) keys is past))
  where
    by : (result : Result Listing StageFault) → does way.at.stages.0.value tree ≡ result
        → ((next : Listing) → IsOnWay plan setup words looked tried (run + 1) next (Of key) keys → Agrees plan (run_on plan setup (run + 1) next keys).place (busy (block_at setup.task words looked tried free)) false)
        → Agrees plan (after_stage setup.task run (later plan setup run key keys) (made_of (Some result))).place (busy (block_at setup.task words looked tried free)) false
    by (Ok next) made goes =
        choice_agrees plan setup run key keys next (block_at setup.task words looked tried free) (has_key (marked_at plan setup.task) key) refl
        (λ marked. reserving_agrees plan setup words looked tried run tree base key keys way is next made marked)
        (λ unmarked. goes next (way-unmarked plan setup words looked tried run tree base key keys way is next made unmarked))
    by (Err fault) made goes = fault_agrees plan setup words looked tried run tree base key keys way is fault made

pub run_from_agrees : (plan : Plan) (setup : Setup) (words : List Word) (looked : Option (Option Key)) (tried : List Key) (run : ℕ) (tree : Listing) (base : TreeRef) (rest : List Key) → IsTable plan.table → IsOnWay plan setup words looked tried run tree base rest
    → Agrees plan (run_from plan setup run tree).place (busy (block_at setup.task words looked tried free)) false
run_from_agrees plan setup words looked tried run tree base rest is way =
    subst (λ (keys : List Key). Agrees plan (run_on plan setup run tree keys).place (busy (block_at setup.task words looked tried free)) false) (sym way.here) (run_agrees plan setup words looked tried run tree base rest is way)
