-- Where memory was not refused, a worker asks room for marked keys that have trees, drops nothing, and ends with a tree
-- only when it has asked for each of them.
use Rattle.std.proofs.Common.{◌≡◌, ℕ, ◌+◌, ◌==◌, ◌&&◌, Bool, true, false, cond, List, [], ◌∷◌, length, All, Option, Some, None, inl, inr, refl, sym, ap, subst, ◌∙◌}
use Rattle.std.specs.Prelude.{slice_get, find, not, is_some, is_none}
use Rattle.std.specs.List.{list_any, position_or_len}
use Rattle.std.proofs.lemmas.Bool.{false≢true, cond_both, and_parts}
use Rattle.std.proofs.lemmas.Bool.Decides.{eqb_tells}
use Rattle.std.proofs.lemmas.List.Elements.{All-head, All-tail, All-drop}
use Rattle.std.proofs.lemmas.Option.{none-some, same_Some}
use Rattle.osb_tree.specs.Trees.{Listing}
use Rattle.osb_tree.specs.declared.numbers.Key.{Key}
use Rattle.osb_tree.specs.declared.numbers.TaskNo.{TaskNo}
use Rattle.osb_recipe.specs.Meanings.{meaning, meant}
use Rattle.osb_recipe.specs.Plans.{IsSound, has_key}
use Rattle.osb_recipe.specs.Tables.{TableData, IsTable}
use Rattle.osb_recipe.specs.declared.outcomes.Outcome.{Outcome}
use Rattle.osb_recipe.specs.declared.outcomes.Outcome.TheVariants as outcomes
use Rattle.osb_recipe.specs.declared.plans.Plan.{Plan}
use Rattle.osb_cache.proofs.Firsts.{found_passes}
use Rattle.osb_job.specs.declared.actions.Action.{Action}
use Rattle.osb_job.specs.declared.actions.Action.TheVariants as actions
use Rattle.osb_job.specs.declared.entries.Word.TheVariants as words
use Rattle.osb_job.specs.Scripts.{Hand, free, reads, fills, Block, Progress, idle, busy, over, chain_at, marked_at, deps_at, chunks_meant, size_meant, word_of, is_tree, is_no_memory, left_after, is_to_keep, keeping, working, fetching, reading, filling, going_on, next}
use Rattle.osb_job.proofs.ChainRests.{not_here}
use Rattle.osb_state.specs.Filling.{from_look}
use Rattle.osb_state.proofs.ChainTrees.{HasTree, chain_has_trees}

-- room is asked for a marked key of the task in hand, as much as its tree takes
pub record AsksRoom (plan : Plan) (progress : Progress) (key : Key) (size : ℕ) : Type 0 where
  pub block : Block
  pub at : progress ≡ busy block
  pub marked : has_key (marked_at plan block.task) key ≡ true
  pub has_tree : HasTree plan.table key
  pub size_is : size ≡ size_meant plan key

-- the task in hand ends with what it means, and room is to be asked for no key that is left
pub record HasAsked (plan : Plan) (progress : Progress) (task : TaskNo) (outcome : Outcome) : Type 0 where
  pub block : Block
  pub at : progress ≡ busy block
  pub task_is : block.task ≡ task
  pub none_left : find (is_to_keep plan block) (left_after block.looked (chain_at plan block.task)) ≡ None
  pub is : outcome ≡ meant plan.table (chain_at plan block.task)

abbrev pub Asks : Plan → Progress → Action → Type 0
Asks plan progress (actions.Reserve key size count) = AsksRoom plan progress key size
Asks plan progress (actions.Drop key) = ⊥
Asks plan progress (actions.Done task outcome) = word_of outcome ≡ words.Tree → HasAsked plan progress task outcome
Asks plan progress action = Unit {0}

module _ (plan : Plan) (block : Block) where
  asks_keeping : (keys : List Key) (key : Option Key) → keys ≡ left_after block.looked (chain_at plan block.task) → find (is_to_keep plan block) keys ≡ key → Asks plan (busy block) (keeping plan block key)
  asks_keeping keys None are is = λ tree. record {
    block = block;
    at = refl;
    task_is = refl;
    none_left = ap (λ (left : List Key). find (is_to_keep plan block) left) (sym are) ∙ is;
    is = refl;
  }
  asks_keeping keys (Some key) are is =
      let passes = found_passes (is_to_keep plan block) keys key is in
      let marked : Bool = has_key (marked_at plan block.task) key in
      let there : Bool = is_some (meaning plan.table key) in
      let parts = and_parts marked there (and_parts (marked && there) (not (has_key block.tried key)) passes).0 in
      record { block = block; at = refl; marked = parts.0; has_tree = parts.1; size_is = refl }

  asks_working : Asks plan (busy block) (working plan block)
  asks_working =
      let P : Action → Type 0 = Asks plan (busy block) in
      let left : List Key = left_after block.looked (chain_at plan block.task) in
      cond_both (list_any is_no_memory block.words) (actions.Done block.task outcomes.NoMemory) _ P
      (λ memory tree. absurd (cc))
      (λ memory. cond_both (list_any (λ word. not (is_tree word)) block.words) (actions.Done block.task outcomes.Blocked) _ P
      (λ without tree. absurd (cc))
      (λ trees. cond_both (not (length (marked_at plan block.task) == 0) && is_none block.looked) (actions.Look block.task) _ P
      (λ look. tt)
      (λ work. asks_keeping left (find (is_to_keep plan block) left) refl refl)))

  asks_fetching : (dep : Option TaskNo) → Asks plan (busy block) (fetching plan block dep)
  asks_fetching (Some dep) = tt
  asks_fetching None = asks_working

  asks_reading : (key : Key) (count : ℕ) (chunk : Option Listing) → Asks plan (busy block) (reading key count chunk)
  asks_reading key count (Some chunk) = tt
  asks_reading key count None = tt

  asks_filling : (key : Key) (chunk : Option Listing) → Asks plan (busy block) (filling key chunk)
  asks_filling key (Some chunk) = tt
  asks_filling key None = tt

  asks_going_on : (hand : Hand) → Asks plan (busy block) (going_on plan block hand)
  asks_going_on free = asks_fetching (slice_get (deps_at plan block.task) (length block.words))
  asks_going_on (reads key count) = asks_reading key count (slice_get (chunks_meant plan key) count)
  asks_going_on (fills key count) = asks_filling key (slice_get (chunks_meant plan key) count)

pub asks : (plan : Plan) (progress : Progress) (action : Action) → next plan progress false ≡ Some action → Asks plan progress action
asks plan idle action is = subst (Asks plan idle) (same_Some actions.Claim action is) tt
asks plan (busy block) action is = subst (Asks plan (busy block)) (same_Some (going_on plan block block.hand) action is) (asks_going_on plan block block.hand)
asks plan over action is = absurd (none-some action is)

-- ---- the keys that are asked for, where none is left to ask

none_step : {X : Type 0} → (b : Bool) (x : X) (rest : Option X) → cond b (Some x) rest ≡ None → (b ≡ false) × (rest ≡ None)
none_step true x rest is = absurd (none-some x (sym is))
none_step false x rest is = (refl, is)

tried_step : (marked there tried : Bool) → (marked && there && not tried) ≡ false → marked ≡ true → there ≡ true → tried ≡ true
tried_step true true true fails m t = refl
tried_step true true false fails m t = absurd (false≢true (sym fails))
tried_step true false tried fails m t = absurd (false≢true t)
tried_step false there tried fails m t = absurd (false≢true m)

tried_among : (plan : Plan) (block : Block) (keys : List Key) → All (HasTree plan.table) keys → find (is_to_keep plan block) keys ≡ None → (key : Key) → has_key keys key ≡ true → has_key (marked_at plan block.task) key ≡ true → has_key block.tried key ≡ true
tried_among plan block [] all none key there marked = absurd (false≢true there)
tried_among plan block (first ∷ keys) all none key there marked =
    let parts = none_step (is_to_keep plan block first) first (find (is_to_keep plan block) keys) none in
    elim (eqb_tells first.0 key.0) [
      | inl same ↦
          let equal : first ≡ key = (λ i. record { 0 = same.1 i }) in
          let fails : is_to_keep plan block key ≡ false = subst (λ (k : Key). is_to_keep plan block k ≡ false) equal parts.0 in
          let tree : HasTree plan.table key = subst (HasTree plan.table) equal (All-head (HasTree plan.table) first keys all) in
          tried_step (has_key (marked_at plan block.task) key) (is_some (meaning plan.table key)) (has_key block.tried key) fails marked tree
      | inr apart ↦ tried_among plan block keys (All-tail (HasTree plan.table) first keys all) parts.1 key (not_here first key keys apart.0 there) marked
    ]

left_have_trees : (table : TableData) (looked : Option (Option Key)) (chain : List Key) → All (HasTree table) chain → All (HasTree table) (left_after looked chain)
left_have_trees table None chain all = all
left_have_trees table (Some None) chain all = all
left_have_trees table (Some (Some key)) chain all = All-drop (HasTree table) (position_or_len (λ k. k.0 == key.0) chain + 1) chain all

-- what holds of the keys that were asked for, and of the one that the look found
pub record OfAsked (block : Block) (Holds : Key → Type 0) : Type 0 where
  pub tried : (key : Key) → has_key block.tried key ≡ true → Holds key
  pub hit : (key : Key) → block.looked ≡ Some (Some key) → Holds key

from_look_holds : (looked : Option (Option Key)) (chain : List Key) (Holds : Key → Type 0) → ((key : Key) → looked ≡ Some (Some key) → Holds key) → (key : Key) → (has_key (left_after looked chain) key ≡ true → Holds key) → has_key (from_look looked chain) key ≡ true → Holds key
from_look_holds None chain Holds hit key later there = later there
from_look_holds (Some None) chain Holds hit key later there = later there
from_look_holds (Some (Some found)) chain Holds hit key later there = elim (eqb_tells found.0 key.0) [
  | inl same ↦
      let equal : found ≡ key = (λ i. record { 0 = same.1 i }) in
      subst Holds equal (hit found refl)
  | inr apart ↦ later (not_here found key (left_after (Some (Some found)) chain) apart.0 there)
]

tree_of_word : (outcome : Outcome) → word_of outcome ≡ words.Tree → (tree : Listing) × (outcome ≡ outcomes.Tree tree)
tree_of_word (outcomes.Tree tree) is = (tree, refl)
tree_of_word (outcomes.Fault stage fault) is = absurd (cc)
tree_of_word outcomes.Blocked is = absurd (cc)
tree_of_word outcomes.NoMemory is = absurd (cc)

-- holds of each marked key from the hit on where its task ends with a tree
pub asked_hold : (plan : Plan) (progress : Progress) (task : TaskNo) (outcome : Outcome) (block : Block) (Holds : Key → Type 0) → IsSound plan → IsTable plan.table → HasAsked plan progress task outcome → word_of outcome ≡ words.Tree → progress ≡ busy block → OfAsked block Holds
    → (key : Key) → has_key (from_look block.looked (chain_at plan task)) key ≡ true → has_key (marked_at plan task) key ≡ true → Holds key
asked_hold plan progress task outcome block Holds sound table asked word at of key there marked =
    let same : asked.block ≡ block = (let was = asked.at in cc) in
    let task_is : block.task ≡ task = ap (λ (b : Block). b.task) (sym same) ∙ asked.task_is in
    let chain : List Key = chain_at plan block.task in
    let none : find (is_to_keep plan block) (left_after block.looked chain) ≡ None = subst (λ (b : Block). find (is_to_keep plan b) (left_after b.looked (chain_at plan b.task)) ≡ None) same asked.none_left in
    let means : outcome ≡ meant plan.table chain = subst (λ (b : Block). outcome ≡ meant plan.table (chain_at plan b.task)) same asked.is in
    let tree = tree_of_word outcome word in
    let trees = left_have_trees plan.table block.looked chain (chain_has_trees plan block.task tree.0 sound table (sym means ∙ tree.1)) in
    let here : has_key (from_look block.looked chain) key ≡ true = ap (λ (t : TaskNo). has_key (from_look block.looked (chain_at plan t)) key) task_is ∙ there in
    let wanted : has_key (marked_at plan block.task) key ≡ true = ap (λ (t : TaskNo). has_key (marked_at plan t) key) task_is ∙ marked in
    from_look_holds block.looked chain Holds of.hit key (λ left. of.tried key (tried_among plan block (left_after block.looked chain) trees none key left wanted)) here
