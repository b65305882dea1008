-- Where the limit has room for all trees that may stand in a cache, there is room for each of them that isn't there yet.
use Rattle.std.proofs.Common.{◌≡◌, ◌==◌, ℕ, ◌+◌, ◌<◌, ◌≤◌, Bool, true, false, List, [], ◌∷◌, ◌++◌, length, map, get_or, All, sum_by, count_by, Option, Some, None, inl, inr, refl, sym, ap, subst, ◌∙◌, arith}
use Rattle.std.specs.Prelude.{is_some}
use Rattle.std.specs.List.{list_any, range_with_len}
use Rattle.std.proofs.lemmas.Bool.{false≢true, eq-eqb, ne_eqb, cases_eq}
use Rattle.std.proofs.lemmas.List.Elements.{All-nil, All-cons, All-head, All-tail, All-append, All-map, All-weaker}
use Rattle.std.proofs.lemmas.List.Sums.{sum_by-cons, sum_by-append}
use Rattle.osb_tree.specs.Trees.{Listing, tree_size}
use Rattle.osb_tree.specs.declared.numbers.Key.{Key}
use Rattle.osb_tree.proofs.ChunkLaws.{chunks_add_up}
use Rattle.osb_recipe.specs.Meanings.{meaning}
use Rattle.osb_recipe.specs.declared.plans.Plan.{Plan}
use Rattle.osb_cache.specs.Caches.{CacheState, Line, Draft, is_taken, sizes, held, counted}
use Rattle.osb_cache.proofs.Sums.{sum_by-map}
use Rattle.osb_job.specs.Scripts.{size_meant}
use Rattle.osb_state.specs.States.{State}
use Rattle.osb_state.specs.Kept.{IsEntry}
use Rattle.osb_state.specs.Truth.{AreMeant, IsMeantDraft, IsTrueState}
use Rattle.osb_state.specs.Filling.{key_no}
use Rattle.osb_state.proofs.ChainTrees.{HasTree}
use Rattle.osb_state.proofs.KeyWeights.{weight_if, distinct_weigh, range_has}
use Rattle.osb_state.proofs.TakenKeys.{one_if, taken_by, none_taken, AllMay}
use Rattle.osb_state.proofs.TrueOpenings.{known_key}
use Rattle.osb_state.proofs.TrueParts.{size_is}

-- a key that may stand in a cache, with the size of its tree
pub record IsCounted (plan : Plan) (may : ℕ → Bool) (number size : ℕ) : Type 0 where
  pub passes : may number ≡ true
  pub known : number < length plan.table.recipes
  pub weighs : size ≡ size_meant plan (key_no number)

-- ---- the keys of a cache, and their sizes

sum_same : {X : Type 0} (f g : X → ℕ) (xs : List X) → All (λ x. f x ≡ g x) xs → sum_by f xs ≡ sum_by g xs
sum_same f g [] all = refl
sum_same {X} f g (x ∷ xs) all =
    let P : X → Type 0 = λ y. f y ≡ g y in
    omega (arith, sum_by-cons f x xs, sum_by-cons g x xs, All-head P x xs all, sum_same f g xs (All-tail P x xs all))

abbrev line_key : Line Listing → ℕ
line_key line = line.key

abbrev draft_key : Draft Listing → ℕ
draft_key draft = draft.key

abbrev line_size : Line Listing → ℕ
line_size line = line.size

abbrev draft_size : Draft Listing → ℕ
draft_size draft = draft.size

-- the keys of entries and drafts, and one more
numbers_of : List (Line Listing) → List (Draft Listing) → ℕ → List ℕ
numbers_of lines drafts one = map line_key lines ++ (map draft_key drafts ++ one ∷ [])

module _ (plan : Plan) (may : ℕ → Bool) where
  abbrev weight : ℕ → ℕ
  weight number = size_meant plan (key_no number)

  abbrev all_numbers : List ℕ
  all_numbers = range_with_len 0 (length plan.table.recipes)

  abbrev Counts : ℕ → Type 0
  Counts number = IsCounted plan may number (weight number)

  abbrev LineStands : Line Listing → Type 0
  LineStands line = IsCounted plan may line.key line.size

  abbrev DraftStands : Draft Listing → Type 0
  DraftStands draft = IsCounted plan may draft.key draft.size

  counts : (number size : ℕ) → IsCounted plan may number size → Counts number
  counts number size stands = record { passes = stands.passes; known = stands.known; weighs = refl }

  numbers_stand : (lines : List (Line Listing)) (drafts : List (Draft Listing)) (one : ℕ) → All LineStands lines → All DraftStands drafts → Counts one → All Counts (numbers_of lines drafts one)
  unfolding numbers_of
  numbers_stand lines drafts one in_lines in_drafts last =
      All-append Counts (map line_key lines) (map draft_key drafts ++ one ∷ [])
      (All-map Counts line_key lines (All-weaker LineStands (λ line. Counts line.key) (λ line stands. counts line.key line.size stands) lines in_lines))
      (All-append Counts (map draft_key drafts) (one ∷ [])
      (All-map Counts draft_key drafts (All-weaker DraftStands (λ draft. Counts draft.key) (λ draft stands. counts draft.key draft.size stands) drafts in_drafts))
      (All-cons Counts one [] last (All-nil Counts)))

  -- a sum over the numbers is one over entries, drafts and the last number
  numbers_sum : (f : ℕ → ℕ) (lines : List (Line Listing)) (drafts : List (Draft Listing)) (one : ℕ)
      → sum_by f (numbers_of lines drafts one) ≡ sum_by (λ (line : Line Listing). f line.key) lines + sum_by (λ (draft : Draft Listing). f draft.key) drafts + f one
  unfolding numbers_of
  numbers_sum f lines drafts one =
      omega (arith, sum_by-append f (map line_key lines) (map draft_key drafts ++ one ∷ []), sum_by-append f (map draft_key drafts) (one ∷ []), sum_by-map f line_key lines, sum_by-map f draft_key drafts)

  numbers_weigh : (lines : List (Line Listing)) (drafts : List (Draft Listing)) (one : ℕ) → All LineStands lines → All DraftStands drafts → sum_by weight (numbers_of lines drafts one) ≡ sizes lines + held drafts + weight one
  numbers_weigh lines drafts one in_lines in_drafts =
      omega (
        arith,
        numbers_sum weight lines drafts one,
        sum_same line_size (λ (line : Line Listing). weight line.key) lines (All-weaker LineStands (λ line. line.size ≡ weight line.key) (λ line stands. stands.weighs) lines in_lines),
        sum_same draft_size (λ (draft : Draft Listing). weight draft.key) drafts (All-weaker DraftStands (λ draft. draft.size ≡ weight draft.key) (λ draft stands. stands.weighs) drafts in_drafts),
      )

  -- the keys of entries and drafts differ, and from the last one
  numbers_differ : (cache : CacheState Listing) (one : ℕ) → ((key : ℕ) → taken_by key cache ≤ 1) → taken_by one cache ≡ 0 → (key : ℕ) → count_by (λ number. number == key) (numbers_of cache.lines cache.drafts one) ≤ 1
  numbers_differ cache one apart none key = elim (cases_eq one key) [
    | inl same ↦ subst (λ (k : ℕ). count_by (λ number. number == k) (numbers_of cache.lines cache.drafts one) ≤ 1) same
        (omega (arith, numbers_sum (λ (number : ℕ). one_if (number == one)) cache.lines cache.drafts one, none, ap one_if (eq-eqb one one refl)))
    | inr other ↦ omega (arith, numbers_sum (λ (number : ℕ). one_if (number == key)) cache.lines cache.drafts one, apart key, ap one_if (ne_eqb one key other))
  ]

  -- so much is counted, with one more, as all together weigh at most
  all_weigh : (cache : CacheState Listing) (one size : ℕ) → ((key : ℕ) → taken_by key cache ≤ 1) → taken_by one cache ≡ 0 → All LineStands cache.lines → All DraftStands cache.drafts → IsCounted plan may one size
      → counted cache + size ≤ sum_by (weight_if may weight) all_numbers
  all_weigh cache one size apart none in_lines in_drafts last =
      let numbers : List ℕ = numbers_of cache.lines cache.drafts one in
      let stand : All Counts numbers = numbers_stand cache.lines cache.drafts one in_lines in_drafts (counts one size last) in
      let passing : All (λ number. may number ≡ true) numbers = All-weaker Counts (λ number. may number ≡ true) (λ number stands. stands.passes) numbers stand in
      let within : All (λ number. list_any (λ n. n == number) all_numbers ≡ true) numbers =
      All-weaker Counts (λ number. list_any (λ n. n == number) all_numbers ≡ true) (λ number stands. range_has 0 (length plan.table.recipes) number (omega arith) (omega (arith, stands.known))) numbers stand in
      omega (arith, distinct_weigh weight all_numbers numbers may (numbers_differ cache one apart none) passing within, numbers_weigh cache.lines cache.drafts one in_lines in_drafts, last.weighs)

-- ---- in a true state

module _ (plan : Plan) (may : ℕ → Bool) (state : State) (s : IsTrueState plan state) (all : AllMay may state.cache) where
  line_stands : (line : Line Listing) → AreMeant plan line.key line.chunks → line.size ≡ sum_by tree_size line.chunks → IsEntry state.keys line → may line.key ≡ true → IsCounted plan may line.key line.size
  line_stands line meant weighed entry passes = record {
    passes = passes;
    known = subst (λ (keys : ℕ). line.key < keys) s.keys entry.known;
    weighs = weighed ∙ ap (λ (chunks : List Listing). sum_by tree_size chunks) meant.all ∙ chunks_add_up meant.tree ∙ size_is plan (key_no line.key) meant.tree meant.means;
  }

  lines_stand : All (λ line. IsCounted plan may line.key line.size) state.cache.lines
  lines_stand = λ place d within.
      line_stands (get_or state.cache.lines place d) (s.entries place d within) (s.valid.sound.weighed place d within) (s.valid.entries place d within) (all.lines place d within)

  draft_stands : (draft : Draft Listing) → IsMeantDraft plan draft → draft.key < state.keys → may draft.key ≡ true → IsCounted plan may draft.key draft.size
  draft_stands draft meant known passes = record {
    passes = passes;
    known = subst (λ (keys : ℕ). draft.key < keys) s.keys known;
    weighs = meant.size_is ∙ size_is plan (key_no draft.key) meant.tree meant.means;
  }

  drafts_stand : All (λ draft. IsCounted plan may draft.key draft.size) state.cache.drafts
  drafts_stand = λ place d within.
      draft_stands (get_or state.cache.drafts place d) (s.drafts place d within) (s.valid.drafts place d within) (all.drafts place d within)

  key_stands : (key : Key) → HasTree plan.table key → may key.0 ≡ true → IsCounted plan may key.0 (size_meant plan key)
  key_stands key there passes = by (meaning plan.table key) refl
    where
      by : (means : Option Listing) → meaning plan.table key ≡ means → IsCounted plan may key.0 (size_meant plan key)
      by None is = absurd (false≢true (sym (ap is_some is) ∙ there))
      by (Some tree) is = record { passes = passes; known = known_key plan.table key tree is; weighs = refl }

  pub room_for : (key : Key) → HasTree plan.table key → may key.0 ≡ true → is_taken key.0 state.cache ≡ false
      → counted state.cache + size_meant plan key ≤ sum_by (weight_if may (λ number. size_meant plan (key_no number))) (range_with_len 0 (length plan.table.recipes))
  room_for key there passes free =
      all_weigh plan may state.cache key.0 (size_meant plan key) s.valid.sound.apart (none_taken key.0 state.cache free) lines_stand drafts_stand (key_stands key there passes)
