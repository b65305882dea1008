-- Where a worker's own part is what the plan means, the script's next action is allowed.
use Rattle.std.proofs.Common.{◌≡◌, ℕ, ◌+◌, ◌<◌, ◌==◌, ◌&&◌, Bool, true, false, cond, List, [], ◌∷◌, ◌++◌, length, drop, Option, Some, None, refl, sym, ap, subst, ◌∙◌, sum_by}
use Rattle.std.specs.Prelude.{slice_get, find, not, is_none}
use Rattle.std.specs.List.{All, list_any, position_or_len}
use Rattle.std.specs.Option.{option_map_or}
use Rattle.std.proofs.lemmas.Bool.{cond_both}
use Rattle.std.proofs.lemmas.List.{append-nil}
use Rattle.std.proofs.lemmas.List.Elements.{All-drop}
use Rattle.std.proofs.lemmas.Option.{none-some, same_Some, slice_get_within}
use Rattle.osb_tree.specs.Trees.{Listing, tree_size}
use Rattle.osb_tree.specs.Chunks.{chunks_of, AreOfATree}
use Rattle.osb_tree.specs.declared.numbers.Key.{Key}
use Rattle.osb_tree.specs.declared.numbers.TaskNo.{TaskNo}
use Rattle.osb_tree.proofs.ChunkLaws.{chunks_add_up, chunks_give_the_tree}
use Rattle.osb_recipe.specs.Meanings.{meaning}
use Rattle.osb_recipe.specs.Plans.{IsSound}
use Rattle.osb_recipe.specs.Tables.{IsTable}
use Rattle.osb_recipe.specs.declared.outcomes.Outcome.TheVariants as outcomes
use Rattle.osb_recipe.specs.declared.plans.Plan.{Plan}
use Rattle.osb_meanings.proofs.Meanings.{meanings_law}
use Rattle.osb_cache.proofs.Lists.{All-found}
use Rattle.osb_job.specs.declared.actions.Action.{Action}
use Rattle.osb_job.specs.declared.actions.Action.TheVariants as actions
use Rattle.osb_job.specs.Scripts.{Hand, free, reads, fills, Block, Progress, idle, busy, over, progress_of, chain_at, marked_at, deps_at, chunks_meant, is_tree, is_no_memory, left_after, is_to_keep, keeping, working, fetching, reading, filling, going_on, giving_up, next}
use Rattle.osb_job.specs.Allowed.{Part, IsBusy, IsReading, IsFilling, Allowed, IsTrueDraft, IsTrueHand, IsTrueBlock}
use Rattle.osb_job.specs.Laws.{NextIsAllowed}
use Rattle.osb_job.proofs.Drafts.{IsFront, room_for_next, whole_at_end, split_at, take_past}
use Rattle.osb_job.proofs.Knowing.{IsBeside}
use Rattle.osb_job.proofs.PlanKeys.{IsKey, chain_keys, waits_for}

chunks_weigh : (tree : Option Listing) → option_map_or tree_size tree 0 ≡ sum_by tree_size (option_map_or chunks_of tree [])
chunks_weigh None = refl
chunks_weigh (Some tree) = sym (chunks_add_up tree)

are_of_a_tree : (plan : Plan) (key : Key) (tree : Listing) → IsTable plan.table → meaning plan.table key ≡ Some tree → AreOfATree (chunks_meant plan key)
are_of_a_tree plan key tree is means =
    let within = meanings_law plan.table key tree is means in
    subst AreOfATree (ap (λ (m : Option Listing). option_map_or chunks_of m []) (sym means)) (chunks_give_the_tree tree within.tree within.limits)

left_keys : (plan : Plan) (looked : Option (Option Key)) (chain : List Key) → All (IsKey plan) chain → All (IsKey plan) (left_after looked chain)
left_keys plan None chain all = all
left_keys plan (Some None) chain all = all
left_keys plan (Some (Some key)) chain all = All-drop (IsKey plan) (position_or_len (λ k. k.0 == key.0) chain + 1) chain all

module _ (plan : Plan) (part : Part) (block : Block) (sound : IsSound plan) (table : IsTable plan.table) (beside : IsBeside plan part) (at : progress_of part.mine ≡ busy block) where
  is_busy : (hand : Hand) → block.hand ≡ hand → IsBusy part block.task hand
  is_busy hand has = record { block = block; at = at; task_is = refl; hand_is = has }

  is_reading : (key : Key) (count : ℕ) → block.hand ≡ reads key count → IsReading part key
  is_reading key count has = record { task = block.task; count = count; busy = is_busy (reads key count) has }

  is_filling : (key : Key) (count : ℕ) → block.hand ≡ fills key count → IsFilling part key
  is_filling key count has = record { task = block.task; count = count; busy = is_busy (fills key count) has }

  giving_up_allowed : (hand : Hand) → block.hand ≡ hand → Allowed part (giving_up block.task hand)
  giving_up_allowed free has = is_busy free has
  giving_up_allowed (reads key count) has = is_reading key count has
  giving_up_allowed (fills key count) has = is_filling key count has

  -- ---- with nothing in hand

  keeping_allowed : block.hand ≡ free → (key : Option Key) → find (is_to_keep plan block) (left_after block.looked (chain_at plan block.task)) ≡ key → Allowed part (keeping plan block key)
  keeping_allowed has (Some key) found =
      let left = left_after block.looked (chain_at plan block.task) in
      let known : IsKey plan key = All-found (IsKey plan) (is_to_keep plan block) left key found (left_keys plan block.looked (chain_at plan block.task) (chain_keys plan block.task sound)) in
      record { task = block.task; busy = is_busy free has; known = subst (λ count. key.0 < count) (sym beside.keys) known }
  keeping_allowed has None found = is_busy free has

  working_allowed : block.hand ≡ free → Allowed part (working plan block)
  working_allowed has =
      let to_look : Bool = not (length (marked_at plan block.task) == 0) && is_none block.looked in
      let first : Option Key = find (is_to_keep plan block) (left_after block.looked (chain_at plan block.task)) in
      let looks : Action = cond to_look (actions.Look block.task) (keeping plan block first) in
      let blocked : Action = cond (list_any (λ word. not (is_tree word)) block.words) (actions.Done block.task outcomes.Blocked) looks in
      cond_both (list_any is_no_memory block.words) (actions.Done block.task outcomes.NoMemory) blocked (Allowed part) (λ _. is_busy free has)
      (λ _. cond_both (list_any (λ word. not (is_tree word)) block.words) (actions.Done block.task outcomes.Blocked) looks (Allowed part) (λ _. is_busy free has)
      (λ _. cond_both to_look (actions.Look block.task) (keeping plan block first) (Allowed part) (λ _. is_busy free has) (λ _. keeping_allowed has first refl)))

  fetching_allowed : block.hand ≡ free → (dep : Option TaskNo) → slice_get (deps_at plan block.task) (length block.words) ≡ dep → Allowed part (fetching plan block dep)
  fetching_allowed has (Some dep) there =
      record {
        task = block.task;
        hand = free;
        busy = is_busy free has;
        waits = waits_for plan part.deps block.task dep (length block.words) beside.deps there;
      }
  fetching_allowed has None there = working_allowed has

  -- ---- with an entry in hand

  reading_allowed : (key : Key) (count : ℕ) → block.hand ≡ reads key count → part.chunks ≡ Some (chunks_meant plan key) → (chunk : Option Listing) → slice_get (chunks_meant plan key) count ≡ chunk → Allowed part (reading key count chunk)
  reading_allowed key count has pinned (Some chunk) there =
      record {
        reading = is_reading key count has;
        chunks = chunks_meant plan key;
        pinned = pinned;
        within = slice_get_within (chunks_meant plan key) count chunk there;
      }
  reading_allowed key count has pinned None there = is_reading key count has

  filling_allowed : (key : Key) (count : ℕ) → block.hand ≡ fills key count → IsTrueDraft plan part key count → (chunk : Option Listing) → slice_get (chunks_meant plan key) count ≡ chunk → Allowed part (filling key chunk)
  filling_allowed key count has staged (Some chunk) there =
      let all = chunks_meant plan key in
      let front : IsFront staged.draft (chunk ∷ drop (count + 1) all) all = record {
        size = staged.size ∙ chunks_weigh (meaning plan.table key);
        count = staged.count_is;
        split = ap (λ so_far. so_far ++ chunk ∷ drop (count + 1) all) staged.chunks ∙ split_at all count chunk there;
      } in
      record { filling = is_filling key count has; draft = staged.draft; own = staged.own; room = room_for_next staged.draft chunk (drop (count + 1) all) all front }
  filling_allowed key count has staged None there =
      let all = chunks_meant plan key in
      let full : staged.draft.chunks ≡ all = staged.chunks ∙ take_past all count there in
      let front : IsFront staged.draft [] all = record {
        size = staged.size ∙ chunks_weigh (meaning plan.table key);
        count = staged.count_is;
        split = append-nil staged.draft.chunks ∙ full;
      } in
      record {
        filling = is_filling key count has;
        draft = staged.draft;
        own = staged.own;
        whole = whole_at_end staged.draft all front;
        tree = subst AreOfATree (sym full) (are_of_a_tree plan key staged.tree table staged.means);
      }

  going_on_allowed : (hand : Hand) → block.hand ≡ hand → IsTrueHand plan part hand → Allowed part (going_on plan block hand)
  going_on_allowed free has holds = fetching_allowed has (slice_get (deps_at plan block.task) (length block.words)) refl
  going_on_allowed (reads key count) has holds = reading_allowed key count has holds (slice_get (chunks_meant plan key) count) refl
  going_on_allowed (fills key count) has holds = filling_allowed key count has holds (slice_get (chunks_meant plan key) count) refl

progress_allowed : (plan : Plan) (part : Part) (off : Bool) (action : Action) (progress : Progress) → IsSound plan → IsTable plan.table → IsBeside plan part → progress_of part.mine ≡ progress → IsTrueBlock plan part progress → next plan progress off ≡ Some action → Allowed part action
progress_allowed plan part true action idle sound table beside at holds is = absurd (none-some action is)
progress_allowed plan part false action idle sound table beside at holds is = subst (Allowed part) (same_Some actions.Claim action is) at
progress_allowed plan part true action (busy block) sound table beside at holds is =
    subst (Allowed part) (same_Some (giving_up block.task block.hand) action is) (giving_up_allowed plan part block sound table beside at block.hand refl)
progress_allowed plan part false action (busy block) sound table beside at holds is =
    subst (Allowed part) (same_Some (going_on plan block block.hand) action is) (going_on_allowed plan part block sound table beside at block.hand refl holds)
progress_allowed plan part off action over sound table beside at holds is = absurd (none-some action is)

pub next_is_allowed : NextIsAllowed
next_is_allowed plan part off action sound table holds is =
    progress_allowed plan part off action (progress_of part.mine) sound table (record { deps = holds.deps; keys = holds.keys }) refl holds.hand is
