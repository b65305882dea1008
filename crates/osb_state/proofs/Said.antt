-- What the script says with its next action.
use Rattle.std.proofs.Common.{◌≡◌, ℕ, ◌==◌, ◌&&◌, Bool, true, false, List, length, Option, Some, None, ◌⊎◌, inl, inr, refl, subst}
use Rattle.std.specs.Prelude.{slice_get, find, not, is_some, is_none}
use Rattle.std.specs.List.{list_any}
use Rattle.std.proofs.lemmas.Bool.{cond_both, and_parts}
use Rattle.std.proofs.lemmas.Option.{none-some, same_Some}
use Rattle.osb_tree.specs.Trees.{Listing}
use Rattle.osb_tree.specs.declared.numbers.Key.{Key}
use Rattle.osb_tree.specs.declared.numbers.TaskNo.{TaskNo}
use Rattle.osb_recipe.specs.Meanings.{meaning, meant}
use Rattle.osb_recipe.specs.Plans.{has_key}
use Rattle.osb_recipe.specs.declared.outcomes.Outcome.{Outcome}
use Rattle.osb_recipe.specs.declared.outcomes.Outcome.TheVariants as outcomes
use Rattle.osb_recipe.specs.declared.plans.Plan.{Plan}
use Rattle.osb_cache.proofs.Firsts.{found_passes}
use Rattle.osb_job.specs.declared.actions.Action.{Action}
use Rattle.osb_job.specs.declared.actions.Action.TheVariants as actions
use Rattle.osb_job.specs.Scripts.{Hand, free, reads, fills, Block, Progress, idle, busy, over, chain_at, marked_at, deps_at, chunks_meant, size_meant, is_tree, is_no_memory, left_after, is_to_keep, keeping, working, fetching, reading, filling, going_on, giving_up, next}

-- the next dependency of the task in hand
pub record SaysFetch (plan : Plan) (progress : Progress) (dep : TaskNo) : Type 0 where
  pub block : Block
  pub at : progress ≡ busy block
  pub next_is : slice_get (deps_at plan block.task) (length block.words) ≡ Some dep

-- the key has a tree, for which room is asked
pub record SaysReserve (plan : Plan) (key : Key) (size count : ℕ) : Type 0 where
  pub has_tree : is_some (meaning plan.table key) ≡ true
  pub size_is : size ≡ size_meant plan key
  pub count_is : count ≡ length (chunks_meant plan key)

-- the next chunk
pub record SaysPut (plan : Plan) (progress : Progress) (key : Key) (chunk : Listing) : Type 0 where
  pub block : Block
  pub count : ℕ
  pub at : progress ≡ busy block
  pub hand_is : block.hand ≡ fills key count
  pub next_is : slice_get (chunks_meant plan key) count ≡ Some chunk

-- a word that was fetched is no tree
pub record IsBlocked (block : Block) (outcome : Outcome) : Type 0 where
  pub is : outcome ≡ outcomes.Blocked
  pub memory : list_any is_no_memory block.words ≡ false
  pub without : list_any (λ word. not (is_tree word)) block.words ≡ true

abbrev pub IsSaidEnd : Plan → Block → Outcome → Type 0
IsSaidEnd plan block outcome = ((outcome ≡ meant plan.table (chain_at plan block.task)) ⊎ (outcome ≡ outcomes.NoMemory)) ⊎ IsBlocked block outcome

-- what is meant, or no memory, or blocked
pub record SaysDone (plan : Plan) (progress : Progress) (task : TaskNo) (outcome : Outcome) : Type 0 where
  pub block : Block
  pub at : progress ≡ busy block
  pub task_is : block.task ≡ task
  pub ends : IsSaidEnd plan block outcome

abbrev pub Says : Plan → Progress → Action → Type 0
Says plan progress (actions.Fetch dep) = SaysFetch plan progress dep
Says plan progress (actions.Reserve key size count) = SaysReserve plan key size count
Says plan progress (actions.Put key chunk) = SaysPut plan progress key chunk
Says plan progress (actions.Done task outcome) = SaysDone plan progress task outcome
Says plan progress action = Unit {0}

module _ (plan : Plan) (block : Block) where
  done : (outcome : Outcome) → IsSaidEnd plan block outcome → SaysDone plan (busy block) block.task outcome
  done outcome ends = record { block = block; at = refl; task_is = refl; ends = ends }

  said_keeping : (keys : List Key) (key : Option Key) → find (is_to_keep plan block) keys ≡ key → Says plan (busy block) (keeping plan block key)
  said_keeping keys None is = done (meant plan.table (chain_at plan block.task)) (inl (inl refl))
  said_keeping keys (Some key) is =
      let passes = found_passes (is_to_keep plan block) keys key is in
      let marked : Bool = has_key (marked_at plan block.task) key in
      let new : Bool = not (has_key block.tried key) in
      record { has_tree = (and_parts marked (is_some (meaning plan.table key)) (and_parts (marked && is_some (meaning plan.table key)) new passes).0).1; size_is = refl; count_is = refl }

  said_working : Says plan (busy block) (working plan block)
  said_working =
      let P : Action → Type 0 = Says plan (busy block) in
      cond_both (list_any is_no_memory block.words) (actions.Done block.task outcomes.NoMemory) _ P
      (λ memory. done outcomes.NoMemory (inl (inr refl)))
      (λ memory. cond_both (list_any (λ word. not (is_tree word)) block.words) (actions.Done block.task outcomes.Blocked) _ P
      (λ without. done outcomes.Blocked (inr (record { is = refl; memory = memory; without = without })))
      (λ trees. cond_both (not (length (marked_at plan block.task) == 0) && is_none block.looked) (actions.Look block.task) _ P
      (λ look. tt)
      (λ work. said_keeping (left_after block.looked (chain_at plan block.task)) (find (is_to_keep plan block) (left_after block.looked (chain_at plan block.task))) refl)))

  said_fetching : (dep : Option TaskNo) → slice_get (deps_at plan block.task) (length block.words) ≡ dep → Says plan (busy block) (fetching plan block dep)
  said_fetching (Some dep) is = record { block = block; at = refl; next_is = is }
  said_fetching None is = said_working

  said_reading : (key : Key) (count : ℕ) (chunk : Option Listing) → Says plan (busy block) (reading key count chunk)
  said_reading key count (Some chunk) = tt
  said_reading key count None = tt

  said_filling : (key : Key) (count : ℕ) (chunk : Option Listing) → block.hand ≡ fills key count → slice_get (chunks_meant plan key) count ≡ chunk → Says plan (busy block) (filling key chunk)
  said_filling key count (Some chunk) has is = record { block = block; count = count; at = refl; hand_is = has; next_is = is }
  said_filling key count None has is = tt

  said_going_on : (hand : Hand) → block.hand ≡ hand → Says plan (busy block) (going_on plan block hand)
  said_going_on free has = said_fetching (slice_get (deps_at plan block.task) (length block.words)) refl
  said_going_on (reads key count) has = said_reading key count (slice_get (chunks_meant plan key) count)
  said_going_on (fills key count) has = said_filling key count (slice_get (chunks_meant plan key) count) has refl

  said_giving_up : (hand : Hand) → Says plan (busy block) (giving_up block.task hand)
  said_giving_up free = done outcomes.NoMemory (inl (inr refl))
  said_giving_up (reads key count) = tt
  said_giving_up (fills key count) = tt

pub says : (plan : Plan) (progress : Progress) (off : Bool) (action : Action) → next plan progress off ≡ Some action → Says plan progress action
says plan idle true action is = absurd (none-some action is)
says plan idle false action is = subst (Says plan idle) (same_Some actions.Claim action is) tt
says plan (busy block) true action is = subst (Says plan (busy block)) (same_Some (giving_up block.task block.hand) action is) (said_giving_up plan block block.hand)
says plan (busy block) false action is = subst (Says plan (busy block)) (same_Some (going_on plan block block.hand) action is) (said_going_on plan block block.hand refl)
says plan over off action is = absurd (none-some action is)
