-- In a true state what a worker has pinned or staged is what the plan means.
use Rattle.std.proofs.Common.{◌≡◌, ℕ, ◌==◌, cond, List, length, take, find, count_by, Option, Some, refl, sym, ap, subst, ◌∙◌, arith}
use Rattle.std.specs.Option.{option_map_or}
use Rattle.std.proofs.lemmas.Bool.{eqb-true, eq-eqb, cond-true, and_parts}
use Rattle.osb_tree.specs.Trees.{Listing, tree_size}
use Rattle.osb_tree.specs.Chunks.{chunks_of}
use Rattle.osb_tree.specs.declared.numbers.Key.{Key}
use Rattle.osb_tree.specs.declared.numbers.WorkerNo.{WorkerNo}
use Rattle.osb_recipe.specs.Meanings.{meaning}
use Rattle.osb_recipe.specs.declared.plans.Plan.{Plan}
use Rattle.osb_cache.specs.Caches.{Line, Draft, has_key, is_draft}
use Rattle.osb_cache.proofs.Firsts.{found_passes}
use Rattle.osb_cache.proofs.Lists.{All-found}
use Rattle.osb_cache.proofs.Lookups.{found_pinned, chunks_found}
use Rattle.osb_cache.proofs.Sums.{found_by_sum, sum_single}
use Rattle.osb_job.specs.Scripts.{Hand, free, reads, fills, Progress, idle, busy, over, chunks_meant, size_meant}
use Rattle.osb_job.specs.Allowed.{IsTrueDraft, IsTrueHand, IsTrueBlock, IsTruePart}
use Rattle.osb_job.proofs.AgreeingRuns.{chunks_are}
use Rattle.osb_state.specs.States.{State, progress_in, hand_of, draft_for, chunks_for, part}
use Rattle.osb_state.specs.Kept.{drafts_due, puts_due, puts_on, Valid}
use Rattle.osb_state.specs.Truth.{IsMeantDraft, IsTrueState}
use Rattle.osb_state.proofs.OtherParts.{reading_pinned, pinned_chunks}
use Rattle.osb_state.proofs.TrueOpenings.{IsMeantLine}

-- the size of what a key means
pub size_is : (plan : Plan) (key : Key) (tree : Listing) → meaning plan.table key ≡ Some tree → tree_size tree ≡ size_meant plan key
size_is plan key tree means = ap (λ (m : Option Listing). option_map_or tree_size m 0) (sym means)

pub named : (plan : Plan) (number : ℕ) (key : Key) (tree : Listing) → number ≡ key.0 → meaning plan.table (record { 0 = number }) ≡ Some tree → meaning plan.table key ≡ Some tree
named plan number key tree same means = subst (λ (n : ℕ). meaning plan.table (record { 0 = n }) ≡ Some tree) same means

-- the draft of a worker that fills one, with so many chunks
pub record HasDraft (state : State) (worker : WorkerNo) (key : Key) (count : ℕ) : Type 0 where
  pub draft : Draft Listing
  pub found : find (is_draft worker.0 key.0) state.cache.drafts ≡ Some draft
  pub key_is : draft.key ≡ key.0
  pub count_is : length draft.chunks ≡ count

one_due : (key n : ℕ) → cond (key == key) n 0 ≡ n
one_due key n = cond-true (key == key) n 0 (eq-eqb key key refl)

pub has_draft : (state : State) (worker : WorkerNo) (key : Key) (count : ℕ) → Valid state → hand_of (progress_in state worker) ≡ fills key count → HasDraft state worker key count
has_draft state worker key count valid has =
    let drafts : List (Draft Listing) = state.cache.drafts in
    let single : count_by (is_draft worker.0 key.0) drafts ≡ 1 = valid.drafted worker.0 key.0 ∙ ap (λ (h : Hand). drafts_due h key.0) has ∙ one_due key.0 1 in
    let many : puts_on worker.0 key.0 drafts ≡ count = valid.put worker.0 key.0 ∙ ap (λ (h : Hand). puts_due h key.0) has ∙ one_due key.0 count in
    let there = found_by_sum (λ (d : Draft Listing). 1) (is_draft worker.0 key.0) drafts (omega (arith, single)) in
    let passes = found_passes (is_draft worker.0 key.0) drafts there.0 there.1 in
    record {
      draft = there.0;
      found = there.1;
      key_is = eqb-true there.0.key key.0 (and_parts (there.0.worker == worker.0) (there.0.key == key.0) passes).1;
      count_is = sym (sum_single (λ (d : Draft Listing). length d.chunks) (is_draft worker.0 key.0) drafts there.0 (omega (arith, single)) there.1) ∙ many;
    }

module _ (plan : Plan) (state : State) (worker : WorkerNo) (s : IsTrueState plan state) where
  true_reads : (key : Key) (count : ℕ) → hand_of (progress_in state worker) ≡ reads key count → chunks_for (reads key count) state.cache.lines ≡ Some (chunks_meant plan key)
  true_reads key count has =
      let lines : List (Line Listing) = state.cache.lines in
      let some = reading_pinned state worker key count s.valid has in
      let there = found_pinned worker.0 key.0 lines some in
      let entry : IsMeantLine plan there.0 = All-found (IsMeantLine plan) (has_key key.0) lines there.0 there.1 s.entries in
      let same : there.0.key ≡ key.0 = eqb-true there.0.key key.0 (found_passes (has_key key.0) lines there.0 there.1) in
      pinned_chunks worker.0 key count lines some
      ∙ ap (λ (chunks : List Listing). Some chunks) (chunks_found key.0 lines there.0 there.1 ∙ entry.all ∙ sym (chunks_are plan key entry.tree (named plan there.0.key key entry.tree same entry.means)))

  true_fills : (key : Key) (count : ℕ) → hand_of (progress_in state worker) ≡ fills key count → IsTrueDraft plan (part state worker) key count
  true_fills key count has =
      let own = has_draft state worker key count s.valid has in
      let meant : IsMeantDraft plan own.draft = All-found (IsMeantDraft plan) (is_draft worker.0 key.0) state.cache.drafts own.draft own.found s.drafts in
      let means = named plan own.draft.key key meant.tree own.key_is meant.means in
      let chunks = sym (chunks_are plan key meant.tree means) in
      record {
        tree = meant.tree;
        means = means;
        draft = own.draft;
        own = ap (λ (h : Hand). draft_for worker h state.cache.drafts) has ∙ own.found;
        size = meant.size_is ∙ size_is plan key meant.tree means;
        count_is = meant.count_is ∙ ap length chunks;
        chunks = meant.chunks_are ∙ ap (λ (n : ℕ). take n (chunks_of meant.tree)) own.count_is ∙ ap (take count) chunks;
      }

  true_hand : (hand : Hand) → hand_of (progress_in state worker) ≡ hand → IsTrueHand plan (part state worker) hand
  true_hand free has = tt
  true_hand (reads key count) has = ap (λ (h : Hand). chunks_for h state.cache.lines) has ∙ true_reads key count has
  true_hand (fills key count) has = true_fills key count has

  true_block : (progress : Progress) → progress_in state worker ≡ progress → IsTrueBlock plan (part state worker) progress
  true_block idle at = tt
  true_block (busy block) at = true_hand block.hand (ap hand_of at)
  true_block over at = tt

  pub true_part : IsTruePart plan (part state worker)
  true_part = record { deps = s.deps; keys = s.keys; hand = true_block (progress_in state worker) refl }
