-- Keys that have an entry or a draft have one after each call that drops no draft and evicts no entry.
use Rattle.std.proofs.Common.{◌≡◌, ℕ, ◌+◌, ◌-◌, ◌≤◌, Bool, true, false, cond, List, [], ◌∷◌, ◌++◌, map, All, find, position, count_by, Option, Some, None, inl, inr, refl, sym, ap, subst, ◌∙◌, arith}
use Rattle.std.specs.List.{list_any}
use Rattle.std.specs.Option.{option_to_list}
use Rattle.std.proofs.lemmas.Bool.{false≢true, cond-true, or_cases, or_parts, eq-eqb}
use Rattle.std.proofs.lemmas.List.Elements.{All-push}
use Rattle.std.proofs.lemmas.List.Sums.{sum_by_push}
use Rattle.osb_tree.specs.Trees.{Listing}
use Rattle.osb_tree.specs.declared.numbers.Key.{Key}
use Rattle.osb_cache.specs.Caches.{CacheState, Line, Draft, has_key, drafts_key, is_draft, is_committed, is_taken, counted, touched, touch, key_at, look_at, look_reply, after_look, unpinned, after_unpin, evict, staying, room_reply, reserve_reply, after_reserve, new_draft, with_chunk, after_put, line_of_draft, after_commit}
use Rattle.osb_cache.specs.Edits.{remove_first}
use Rattle.osb_cache.specs.declared.answers.Look.TheVariants.{Hit}
use Rattle.osb_cache.specs.declared.answers.Reserve.{Reserve}
use Rattle.osb_cache.specs.declared.answers.Reserve.TheVariants.{Already}
use Rattle.osb_cache.proofs.Evicts.{evict-zero, pinned_sizes-le}
use Rattle.osb_cache.proofs.Firsts.{found_any, found_passes, any_found}
use Rattle.osb_cache.proofs.Lists.{All-remove_first, All-update_first, All-found}
use Rattle.osb_cache.proofs.Lookups.{touch-found, hit_committed}
use Rattle.osb_cache.proofs.Replies.{reply_room}
use Rattle.osb_cache.proofs.Sums.{sum-remove_first, sum-update_first_same, sum_none, found_or_none, found_by_sum}

-- how many entries and drafts of a key there are
abbrev pub taken_by : ℕ → CacheState Listing → ℕ
taken_by key cache = count_by (has_key key) cache.lines + count_by (drafts_key key) cache.drafts

abbrev pub IsTaken : ℕ → CacheState Listing → Type 0
IsTaken key cache = 1 ≤ taken_by key cache

-- ---- tests

abbrev pub one_if : Bool → ℕ
one_if b = cond b 1 0

found_counts : {X : Type 0} → (p : X → Bool) (xs : List X) (x : X) → find p xs ≡ Some x → 1 ≤ count_by p xs
found_counts {X} p xs x found =
    let one : X → ℕ = λ y. one_if (p y) in
    omega (arith, sum-remove_first one p xs x found, ap one_if (found_passes p xs x found))

any_counts : {X : Type 0} → (p : X → Bool) (xs : List X) → list_any p xs ≡ true → 1 ≤ count_by p xs
any_counts p xs there =
    let found = found_any p xs there in
    found_counts p xs found.0 found.1

none_counts : {X : Type 0} → (p : X → Bool) (xs : List X) → list_any p xs ≡ false → count_by p xs ≡ 0
none_counts {X} p xs none =
    found_or_none (find p xs) (count_by p xs ≡ 0) (λ missing. sum_none (λ (x : X). 1) p xs missing) (λ x found. absurd (false≢true (sym none ∙ any_found p xs x found)))

pub taken_committed : (key : ℕ) (cache : CacheState Listing) → is_committed key cache.lines ≡ true → IsTaken key cache
taken_committed key cache there = omega (arith, any_counts (has_key key) cache.lines there)

taken_tested : (key : ℕ) (cache : CacheState Listing) → is_taken key cache ≡ true → IsTaken key cache
taken_tested key cache there = elim (or_cases (is_committed key cache.lines) (list_any (drafts_key key) cache.drafts) there) [
  | inl committed ↦ taken_committed key cache committed
  | inr staged ↦ omega (arith, any_counts (drafts_key key) cache.drafts staged)
]

pub none_taken : (key : ℕ) (cache : CacheState Listing) → is_taken key cache ≡ false → taken_by key cache ≡ 0
none_taken key cache none =
    let parts = or_parts (is_committed key cache.lines) (list_any (drafts_key key) cache.drafts) none in
    omega (arith, none_counts (has_key key) cache.lines parts.0, none_counts (drafts_key key) cache.drafts parts.1)

-- a key that a look finds is taken
pub hit_taken : (cache : CacheState Listing) (keys : List Key) (place count : ℕ) (key : Key) → look_reply cache keys ≡ Hit place key count → IsTaken key.0 cache
hit_taken cache keys place count key hit = by (position (λ (k : Key). is_committed k.0 cache.lines) keys) refl hit
  where
    by : (found : Option ℕ) → position (λ (k : Key). is_committed k.0 cache.lines) keys ≡ found → look_at cache.lines keys found ≡ Hit place key count → IsTaken key.0 cache
    by None at is = absurd (cc)
    by (Some other) at is =
        let same : key_at keys other ≡ key = cc in
        subst (λ (k : Key). IsTaken k.0 cache) same (taken_committed (key_at keys other).0 cache (hit_committed cache.lines cache.lines keys other refl at))

-- a key that is taken where nothing is staged has an entry
pub taken_line : (key : ℕ) (cache : CacheState Listing) → count_by (drafts_key key) cache.drafts ≡ 0 → IsTaken key cache → (line : Line Listing) × (find (has_key key) cache.lines ≡ Some line)
taken_line key cache none taken = found_by_sum (λ (line : Line Listing). 1) (has_key key) cache.lines (omega (arith, none, taken))

-- ---- caches whose keys all may stand there

pub record AllMay (may : ℕ → Bool) (cache : CacheState Listing) : Type 0 where
  pub lines : All (λ line. may line.key ≡ true) cache.lines
  pub drafts : All (λ draft. may draft.key ≡ true) cache.drafts

-- and a cache after a call, of which no key has left
pub record Grows (may : ℕ → Bool) (cache now : CacheState Listing) : Type 0 where
  pub taken : (key : ℕ) → taken_by key cache ≤ taken_by key now
  pub limit : now.limit ≡ cache.limit
  pub all : AllMay may now

abbrev keyed : ℕ → Line Listing → ℕ
keyed key line = one_if (has_key key line)

abbrev staged : ℕ → Draft Listing → ℕ
staged key draft = one_if (drafts_key key draft)

module _ (may : ℕ → Bool) (cache : CacheState Listing) (all : AllMay may cache) where
  abbrev MayLine : Line Listing → Type 0
  MayLine line = may line.key ≡ true

  abbrev MayDraft : Draft Listing → Type 0
  MayDraft draft = may draft.key ≡ true

  pub grows_still : Grows may cache cache
  grows_still = record { taken = λ key. omega arith; limit = refl; all = all }

  grows_touch : (worker key : ℕ) → is_committed key cache.lines ≡ true → Grows may cache (record cache { clock = cache.clock + 1; lines = touch (cache.clock + 1) worker key cache.lines })
  grows_touch worker key committed =
      let found = found_any (has_key key) cache.lines committed in
      let last : Line Listing = touched (cache.clock + 1) worker found.0 in
      let rest : List (Line Listing) = remove_first (has_key key) cache.lines in
      let P : List (Line Listing) → Type 0 = λ lines. Grows may cache (record cache { clock = cache.clock + 1; lines = lines }) in
      subst P (sym (touch-found (cache.clock + 1) worker key cache.lines found.0 found.1))
      (record {
        taken = λ k. omega (arith, sum_by_push (keyed k) rest last, sum-remove_first (keyed k) (has_key key) cache.lines found.0 found.1);
        limit = refl;
        all = record {
          lines = All-push MayLine rest last (All-remove_first MayLine (has_key key) cache.lines all.lines) (All-found MayLine (has_key key) cache.lines found.0 found.1 all.lines);
          drafts = all.drafts;
        };
      })

  pub grows_look : (worker : ℕ) (keys : List Key) → Grows may cache (after_look cache worker (look_reply cache keys))
  grows_look worker keys = by (position (λ (key : Key). is_committed key.0 cache.lines) keys) refl
    where
      by : (place : Option ℕ) → position (λ (key : Key). is_committed key.0 cache.lines) keys ≡ place → Grows may cache (after_look cache worker (look_at cache.lines keys place))
      by None at = grows_still
      by (Some place) at = grows_touch worker (key_at keys place).0 (hit_committed cache.lines cache.lines keys place refl at)

  pub grows_unpin : (worker key : ℕ) → Grows may cache (after_unpin cache worker key)
  grows_unpin worker key = record {
    taken = λ k. omega (arith, sum-update_first_same (keyed k) (has_key key) (unpinned worker) (λ line _. refl) cache.lines);
    limit = refl;
    all = record { lines = All-update_first MayLine (has_key key) (unpinned worker) (λ line may_stand. may_stand) cache.lines all.lines; drafts = all.drafts };
  }

  pub grows_put : (worker key : ℕ) (chunk : Listing) → Grows may cache (after_put cache worker key chunk)
  grows_put worker key chunk = record {
    taken = λ k. omega (arith, sum-update_first_same (staged k) (is_draft worker key) (with_chunk chunk) (λ draft _. refl) cache.drafts);
    limit = refl;
    all = record { lines = all.lines; drafts = All-update_first MayDraft (is_draft worker key) (with_chunk chunk) (λ draft may_stand. may_stand) cache.drafts all.drafts };
  }

  pub grows_commit : (worker key : ℕ) (draft : Draft Listing) → find (is_draft worker key) cache.drafts ≡ Some draft → Grows may cache (after_commit cache worker key)
  grows_commit worker key draft found =
      let clock : ℕ = cache.clock + 1 in
      let left : List (Draft Listing) = remove_first (is_draft worker key) cache.drafts in
      let P : Option (Draft Listing) → Type 0 = λ o. Grows may cache (record cache { clock = clock; lines = cache.lines ++ map (line_of_draft clock) (option_to_list o); drafts = left }) in
      subst P (sym found)
      (record {
        taken = λ k. omega (arith, sum_by_push (keyed k) cache.lines (line_of_draft clock draft), sum-remove_first (staged k) (is_draft worker key) cache.drafts draft found);
        limit = refl;
        all = record {
          lines = All-push MayLine cache.lines (line_of_draft clock draft) all.lines (All-found MayDraft (is_draft worker key) cache.drafts draft found all.drafts);
          drafts = All-remove_first MayDraft (is_draft worker key) cache.drafts all.drafts;
        };
      })

  -- ---- room

  abbrev GetsRoom : ℕ → CacheState Listing → Type 0
  GetsRoom key now = Grows may cache now × IsTaken key now

  keeps_new : (worker key size count : ℕ) → may key ≡ true → GetsRoom key (record cache { drafts = cache.drafts ++ new_draft worker key size count ∷ [] })
  keeps_new worker key size count passes =
      let draft : Draft Listing = new_draft worker key size count in (
        record {
          taken = λ k. omega (arith, sum_by_push (staged k) cache.drafts draft);
          limit = refl;
          all = record { lines = all.lines; drafts = All-push MayDraft cache.drafts draft all.drafts passes };
        },
        omega (arith, sum_by_push (staged key) cache.drafts draft, ap one_if (eq-eqb key key refl)),
      )

  -- a key for which there is room gets it, and no entry leaves for it
  pub keeps_reserve : (worker key size count : ℕ) → may key ≡ true → (is_taken key cache ≡ false → counted cache + size ≤ cache.limit) → GetsRoom key (after_reserve cache worker key size count (reserve_reply cache key size))
  keeps_reserve worker key size count passes room = by (is_taken key cache) refl
    where
      by : (taken : Bool) → is_taken key cache ≡ taken → GetsRoom key (after_reserve cache worker key size count (reserve_reply cache key size))
      by true is =
          let reply : reserve_reply cache key size ≡ Already = cond-true (is_taken key cache) Already _ is in
          subst (λ (r : Reserve). GetsRoom key (after_reserve cache worker key size count r)) (sym reply) (grows_still, taken_tested key cache is)
      by false is =
          let fits = room is in
          let reply : reserve_reply cache key size ≡ room_reply cache size = reply_room cache key size is (omega arith) (omega (arith, fits, pinned_sizes-le cache.lines)) in
          let none : counted cache + size - cache.limit ≡ 0 = omega (arith, fits) in
          let stay : staying cache size ≡ cache.lines = ap (λ (excess : ℕ). evict excess cache.lines) none ∙ evict-zero cache.lines in
          let drafts : List (Draft Listing) = cache.drafts ++ new_draft worker key size count ∷ [] in
          subst (λ (r : Reserve). GetsRoom key (after_reserve cache worker key size count r)) (sym reply)
          (subst (λ (lines : List (Line Listing)). GetsRoom key (record cache { lines = lines; drafts = drafts })) (sym stay) (keeps_new worker key size count passes))
