-- What holds of each cache stays under each call.
use Rattle.std.proofs.Common.{map, Result, Ok, Err, IfOk, IsSomeAnd, Option, ◌≡◌, ◌==◌, ℕ, ◌+◌, ◌-◌, ◌^◌, ◌≤◌, Bool, true, false, cond, List, [], ◌∷◌, ◌++◌, length, All, find, sum_by, count_by, Some, refl, sym, ap, subst, ◌∙◌, arith, inl, inr, length-append, add-zero}
use Rattle.std.specs.List.{list_any}
use Rattle.std.proofs.lemmas.Bool.{or_parts, cases_eq, ne_eqb}
use Rattle.std.proofs.lemmas.List.Elements.{All-nil, All-cons, All-head, All-tail, All-push}
use Rattle.std.proofs.lemmas.List.Sums.{sum_by-cons, sum_by_push}
use Rattle.osb_cache.specs.declared.answers.Stored.{Stored}
use Rattle.osb_cache.specs.Edits.{remove_first, update_first}
use Rattle.osb_cache.specs.Caches.{Line, Draft, CacheState, has_key, drafts_key, is_draft, is_committed, is_taken, sizes, pinned_size, pinned_sizes, held, touched, touch, unpinned, evict, new_draft, with_chunk, line_of_draft, opening_line, opening_lines, opened, stored_of, CanOpen, CanPut, CanCommit, HasRoom, IsWhole, IsWeighed, IsFitting, IsSound}
use Rattle.osb_cache.specs.Parts.{state_of, IsCache}
use Rattle.osb_cache.proofs.Evicts.{sum-evict-le, length-evict-le, All-evict, evict_fits, pinned_sizes-le}
use Rattle.osb_cache.proofs.Firsts.{found_any}
use Rattle.osb_cache.proofs.Lists.{All-remove_first, All-update_first, All-found, All-changed, length-remove_first, length-update_first}
use Rattle.osb_cache.proofs.Lookups.{touch-found, some_found}
use Rattle.osb_cache.proofs.Rises.{rises-push, rises-remove_first, rises-update_first, rises-evict, rises-opening}
use Rattle.osb_cache.proofs.Sums.{sum-remove_first, sum-update_first_same, sum_by-map}

abbrev size_of : {C : Type 0} → Line C → ℕ
size_of line = line.size

abbrev reserved : {C : Type 0} → Draft C → ℕ
reserved draft = draft.size

abbrev keyed : {C : Type 0} → ℕ → Line C → ℕ
keyed key line = cond (has_key key line) 1 0

abbrev drafted : {C : Type 0} → ℕ → Draft C → ℕ
drafted key draft = cond (drafts_key key draft) 1 0

-- Looking.

pub kept_touch : {C : Type 0} → (weight : C → ℕ) (limit clock : ℕ) (lines now : List (Line C)) (drafts : List (Draft C)) (count room more worker key : ℕ) → IsCache weight (state_of limit clock lines drafts) count room → is_committed key lines ≡ true → room ≤ more → now ≡ touch (clock + 1) worker key lines → IsCache weight (state_of limit (clock + 1) now drafts) count more
kept_touch {C} weight limit clock lines now drafts count room more worker key c committed wide e =
    let found = found_any (has_key key) lines committed in
    let line : Line C = found.0 in
    let last : Line C = touched (clock + 1) worker line in
    let rest : List (Line C) = remove_first (has_key key) lines in
    let size = sum_by_push size_of rest last in
    let left = sum-remove_first size_of (has_key key) lines line found.1 in
    let s = c.sound in
    let P : List (Line C) → Type 0 = λ xs. IsCache weight (state_of limit (clock + 1) xs drafts) count more in
    subst P (sym (e ∙ touch-found (clock + 1) worker key lines line found.1))
    (record {
      sound = record {
        limited = s.limited;
        within = omega (arith, s.within, size, left);
        rising = rises-push 0 clock rest last (rises-remove_first (has_key key) 0 clock lines s.rising) (omega arith);
        apart = λ k. omega (arith, s.apart k, sum_by_push (keyed k) rest last, sum-remove_first (keyed k) (has_key key) lines line found.1);
        weighed = All-push (IsWeighed weight) rest last (All-remove_first (IsWeighed weight) (has_key key) lines s.weighed) (All-found (IsWeighed weight) (has_key key) lines line found.1 s.weighed);
        fitting = s.fitting;
      };
      counts = omega (arith, c.counts, size, left);
      places = omega (arith, c.places, wide, length-append rest (last ∷ []), length-remove_first (has_key key) lines line found.1);
    })

-- Pins.

pub kept_unpin : {C : Type 0} → (weight : C → ℕ) (limit clock : ℕ) (lines now : List (Line C)) (drafts : List (Draft C)) (count room more worker key : ℕ) → IsCache weight (state_of limit clock lines drafts) count room → room ≤ more → now ≡ update_first (has_key key) (unpinned worker) lines → IsCache weight (state_of limit clock now drafts) count more
kept_unpin {C} weight limit clock lines now drafts count room more worker key c wide e =
    let left : List (Line C) = update_first (has_key key) (unpinned worker) lines in
    let size = sum-update_first_same size_of (has_key key) (unpinned worker) (λ x _. refl) lines in
    let s = c.sound in
    let P : List (Line C) → Type 0 = λ xs. IsCache weight (state_of limit clock xs drafts) count more in
    subst P (sym e)
    (record {
      sound = record {
        limited = s.limited;
        within = omega (arith, s.within, size);
        rising = rises-update_first (has_key key) (unpinned worker) (λ x. refl) 0 clock lines s.rising;
        apart = λ k. omega (arith, s.apart k, sum-update_first_same (keyed k) (has_key key) (unpinned worker) (λ x _. refl) lines);
        weighed = All-update_first (IsWeighed weight) (has_key key) (unpinned worker) (λ x h. h) lines s.weighed;
        fitting = s.fitting;
      };
      counts = omega (arith, c.counts, size);
      places = omega (arith, c.places, wide, length-update_first (has_key key) (unpinned worker) lines);
    })

-- Filling.

pub kept_put : {C : Type 0} → (weight : C → ℕ) (limit clock : ℕ) (lines : List (Line C)) (drafts now : List (Draft C)) (count room worker key : ℕ) (chunk : C) → IsCache weight (state_of limit clock lines drafts) count room → CanPut weight (state_of limit clock lines drafts) worker key chunk → now ≡ update_first (is_draft worker key) (with_chunk chunk) drafts → IsCache weight (state_of limit clock lines now) count room
kept_put {C} weight limit clock lines drafts now count room worker key chunk c can e =
    let p : Draft C → Bool = is_draft worker key in
    let size = sum-update_first_same reserved p (with_chunk chunk) (λ x _. refl) drafts in
    let s = c.sound in
    let found = some_found p (HasRoom weight chunk) drafts can in
    let draft : Draft C = found.0 in
    let P : List (Draft C) → Type 0 = λ xs. IsCache weight (state_of limit clock lines xs) count room in
    subst P (sym e)
    (record {
      sound = record {
        limited = s.limited;
        within = omega (arith, s.within, size);
        rising = s.rising;
        apart = λ k. omega (arith, s.apart k, sum-update_first_same (drafted k) p (with_chunk chunk) (λ x _. refl) drafts);
        weighed = s.weighed;
        fitting = All-changed (IsFitting weight) p (with_chunk chunk) drafts draft found.1
            (record {
              few = omega (arith, found.2.few, length-append draft.chunks (chunk ∷ []));
              small = omega (arith, found.2.small, sum_by_push weight draft.chunks chunk);
            }) s.fitting;
      };
      counts = omega (arith, c.counts, size);
      places = omega (arith, c.places, length-update_first p (with_chunk chunk) drafts);
    })

pub kept_commit : {C : Type 0} → (weight : C → ℕ) (limit clock : ℕ) (lines more : List (Line C)) (drafts now : List (Draft C)) (count room worker key : ℕ) (draft : Draft C) → IsCache weight (state_of limit clock lines drafts) count room → CanCommit weight (state_of limit clock lines drafts) worker key → find (is_draft worker key) drafts ≡ Some draft → more ≡ lines ++ line_of_draft (clock + 1) draft ∷ [] → now ≡ remove_first (is_draft worker key) drafts → IsCache weight (state_of limit (clock + 1) more now) count room
kept_commit {C} weight limit clock lines more drafts now count room worker key draft c can taken e f =
    let p : Draft C → Bool = is_draft worker key in
    let last : Line C = line_of_draft (clock + 1) draft in
    let size = sum_by_push size_of lines last in
    let left = sum-remove_first reserved p drafts draft taken in
    let whole : IsWhole weight draft = subst (λ (o : Option (Draft C)). IsSomeAnd o (IsWhole weight)) taken can in
    let s = c.sound in
    let P : List (Line C) → List (Draft C) → Type 0 = λ xs ys. IsCache weight (state_of limit (clock + 1) xs ys) count room in
    subst (λ (xs : List (Line C)). P xs now) (sym e) (subst (P (lines ++ last ∷ [])) (sym f)
    (record {
      sound = record {
        limited = s.limited;
        within = omega (arith, s.within, size, left);
        rising = rises-push 0 clock lines last s.rising (omega arith);
        apart = λ k. omega (arith, s.apart k, sum_by_push (keyed k) lines last, sum-remove_first (drafted k) p drafts draft taken);
        weighed = All-push (IsWeighed weight) lines last s.weighed (sym whole.weighs);
        fitting = All-remove_first (IsFitting weight) p drafts s.fitting;
      };
      counts = omega (arith, c.counts, size, left);
      places = omega (arith, c.places, length-append lines (last ∷ []), length-remove_first p drafts draft taken);
    }))

pub kept_drop : {C : Type 0} → (weight : C → ℕ) (limit clock : ℕ) (lines : List (Line C)) (drafts now : List (Draft C)) (count room worker key : ℕ) (draft : Draft C) → IsCache weight (state_of limit clock lines drafts) count room → find (is_draft worker key) drafts ≡ Some draft → now ≡ remove_first (is_draft worker key) drafts → IsCache weight (state_of limit clock lines now) (count - draft.size) room
kept_drop {C} weight limit clock lines drafts now count room worker key draft c taken f =
    let p : Draft C → Bool = is_draft worker key in
    let left = sum-remove_first reserved p drafts draft taken in
    let s = c.sound in
    let P : List (Draft C) → Type 0 = λ ys. IsCache weight (state_of limit clock lines ys) (count - draft.size) room in
    subst P (sym f)
    (record {
      sound = record {
        limited = s.limited;
        within = omega (arith, s.within, left);
        rising = s.rising;
        apart = λ k. omega (arith, s.apart k, sum-remove_first (drafted k) p drafts draft taken);
        weighed = s.weighed;
        fitting = All-remove_first (IsFitting weight) p drafts s.fitting;
      };
      counts = omega (arith, c.counts, left);
      places = omega (arith, c.places, length-remove_first p drafts draft taken);
    })

pub held_drop : {C : Type 0} → (weight : C → ℕ) (limit clock : ℕ) (lines : List (Line C)) (drafts : List (Draft C)) (count room : ℕ) (p : Draft C → Bool) (draft : Draft C) → IsCache weight (state_of limit clock lines drafts) count room → find p drafts ≡ Some draft → draft.size ≤ count
held_drop weight limit clock lines drafts count room p draft c taken =
    omega (arith, c.counts, sum-remove_first reserved p drafts draft taken)

-- Reserving.

count_none : {X : Type 0} → (p : X → Bool) (xs : List X) → list_any p xs ≡ false → count_by p xs ≡ 0
count_none p [] e = refl
count_none {X} p (x ∷ xs) e =
    let one : X → ℕ = λ y. cond (p y) 1 0 in
    let parts = or_parts (p x) (list_any p xs) e in
    omega (arith, sum_by-cons one x xs, ap (λ (b : Bool). cond {A = ℕ} b 1 0) parts.0, count_none p xs parts.1)

one_if : Bool → ℕ
one_if b = cond b 1 0

one_if-le : (b : Bool) → one_if b ≤ 1
unfolding one_if
one_if-le true = omega arith
one_if-le false = omega arith

pub kept_reserve : {C : Type 0} → (weight : C → ℕ) (limit clock : ℕ) (lines now : List (Line C)) (drafts more : List (Draft C)) (count counts room worker key size number : ℕ) → IsSound weight (state_of limit clock lines drafts) → is_taken key (state_of limit clock lines drafts) ≡ false → size ≤ limit → pinned_sizes lines + held drafts + size ≤ limit → now ≡ evict (sizes lines + held drafts + size - limit) lines → more ≡ drafts ++ new_draft worker key size number ∷ [] → counts ≡ sizes now + held drafts + size → length lines + length more ≤ room → IsCache weight (state_of limit clock now more) counts room
unfolding one_if
kept_reserve {C} weight limit clock lines now drafts more count counts room worker key size number s free small fits e f sum places =
    let excess : ℕ = sizes lines + held drafts + size - limit in
    let left : List (Line C) = evict excess lines in
    let draft : Draft C = new_draft worker key size number in
    let parts = or_parts (list_any (has_key key) lines) (list_any (drafts_key key) drafts) free in
    let none = count_none (has_key key) lines parts.0 in
    let undrafted = count_none (drafts_key key) drafts parts.1 in
    let room_left : sizes left + excess ≤ sizes lines = evict_fits excess lines (omega (arith, s.within, fits, pinned_sizes-le lines)) in
    let added = sum_by_push reserved drafts draft in
    let fewer = length-evict-le excess lines in
    let apart : (k : ℕ) → count_by (has_key k) left + count_by (drafts_key k) (drafts ++ draft ∷ []) ≤ 1 =
    λ k. elim (cases_eq key k) [
      | inl same ↦ subst (λ (j : ℕ). count_by (has_key j) left + count_by (drafts_key j) (drafts ++ draft ∷ []) ≤ 1) same
          (omega (arith, none, undrafted, sum-evict-le (keyed key) excess lines, sum_by_push (drafted key) drafts draft, one_if-le (key == key)))
      | inr other ↦ omega (arith, s.apart k, sum-evict-le (keyed k) excess lines, sum_by_push (drafted k) drafts draft, ap one_if (ne_eqb key k other))
    ] in
    let P : List (Line C) → List (Draft C) → ℕ → Type 0 = λ xs ys n. IsCache weight (state_of limit clock xs ys) n room in
    let size_now : counts ≡ sizes left + held drafts + size = sum ∙ ap (λ (xs : List (Line C)). sizes xs + held drafts + size) e in
    subst (λ (xs : List (Line C)). P xs more counts) (sym e) (subst (λ (ys : List (Draft C)). P left ys counts) (sym f)
    (record {
      sound = record {
        limited = s.limited;
        within = omega (arith, added, room_left, s.within);
        rising = rises-evict excess 0 clock lines s.rising;
        apart = apart;
        weighed = All-evict (IsWeighed weight) excess lines s.weighed;
        fitting = All-push (IsFitting weight) drafts draft s.fitting (record { few = omega arith; small = omega arith });
      };
      counts = omega (arith, size_now, added);
      places = omega (arith, places, fewer, ap length f);
    }))

-- Opening.

sizes-opening_lines : {C : Type 0} → (weight : C → ℕ) (first : ℕ) (entries : List (Stored C)) → sizes (opening_lines weight first entries) ≡ sum_by (λ stored. sum_by weight stored.chunks) entries
sizes-opening_lines weight first [] = refl
sizes-opening_lines {C} weight first (stored ∷ entries) =
    let weighs : Stored C → ℕ = λ stored. sum_by weight stored.chunks in
    omega (arith, sum_by-cons size_of (opening_line weight first stored) (opening_lines weight (first + 1) entries), sum_by-cons weighs stored entries, sizes-opening_lines weight (first + 1) entries)

pub small-opening_lines : {C : Type 0} → (weight : C → ℕ) (limit : ℕ) (entries : List (Stored C)) → CanOpen weight limit entries → sizes (opening_lines weight 1 entries) ≤ 2 ^ 62
small-opening_lines weight limit entries can = omega (arith, can.small, sizes-opening_lines weight 1 entries)

apart-opening_lines : {C : Type 0} → (weight : C → ℕ) (first key : ℕ) (entries : List (Stored C)) → count_by (has_key key) (opening_lines weight first entries) ≡ count_by (λ stored. stored.key.0 == key) entries
apart-opening_lines weight first key [] = refl
apart-opening_lines {C} weight first key (stored ∷ entries) =
    let has : Stored C → ℕ = λ stored. cond (stored.key.0 == key) 1 0 in
    omega (arith, sum_by-cons (keyed key) (opening_line weight first stored) (opening_lines weight (first + 1) entries), sum_by-cons has stored entries, apart-opening_lines weight (first + 1) key entries)

pub apart_opening : {C : Type 0} → (weight : C → ℕ) (limit : ℕ) (entries : List (Stored C)) → CanOpen weight limit entries → (key : ℕ) → count_by (has_key key) (opening_lines weight 1 entries) ≤ 1
apart_opening weight limit entries can key = omega (arith, can.apart key, apart-opening_lines weight 1 key entries)

pub none_pinned : {C : Type 0} → (weight : C → ℕ) (first : ℕ) (entries : List (Stored C)) → pinned_sizes (opening_lines weight first entries) ≡ 0
none_pinned weight first [] = refl
none_pinned {C} weight first (stored ∷ entries) =
    omega (arith, sum_by-cons pinned_size (opening_line weight first stored) (opening_lines weight (first + 1) entries), none_pinned weight (first + 1) entries)

weighed-opening_lines : {C : Type 0} → (weight : C → ℕ) (first : ℕ) (entries : List (Stored C)) → All (IsWeighed weight) (opening_lines weight first entries)
weighed-opening_lines weight first [] = All-nil (IsWeighed weight)
weighed-opening_lines weight first (stored ∷ entries) =
    All-cons (IsWeighed weight) (opening_line weight first stored) (opening_lines weight (first + 1) entries) refl (weighed-opening_lines weight (first + 1) entries)

pub sound-opened : {C : Type 0} → (weight : C → ℕ) (limit : ℕ) (entries : List (Stored C)) → CanOpen weight limit entries → IsSound weight (opened weight limit entries)
sound-opened {C} weight limit entries can =
    let lines : List (Line C) = opening_lines weight 1 entries in
    let excess : ℕ = sizes lines - limit in
    let fits : sizes (evict excess lines) + excess ≤ sizes lines = evict_fits excess lines (omega (arith, none_pinned weight 1 entries)) in
    record {
      limited = can.limited;
      within = omega (arith, fits);
      rising = rises-evict excess 0 (length entries) lines (rises-opening weight entries);
      apart = λ k. omega (arith, apart_opening weight limit entries can k, sum-evict-le (keyed k) excess lines);
      weighed = All-evict (IsWeighed weight) excess lines (weighed-opening_lines weight 1 entries);
      fitting = All-nil (IsFitting weight);
    }

pub kept_open : {C : Type 0} → (weight : C → ℕ) (limit clock : ℕ) (entries : List (Stored C)) (now : List (Line C)) (drafts : List (Draft C)) (count room : ℕ) → CanOpen weight limit entries → clock ≡ length entries → now ≡ (opened weight limit entries).lines → drafts ≡ [] → count ≡ sizes now → length now ≤ room → IsCache weight (state_of limit clock now drafts) count room
kept_open {C} weight limit clock entries now drafts count room can time e none sum places =
    let P : ℕ → List (Line C) → List (Draft C) → Type 0 = λ n xs ys. IsCache weight (state_of limit n xs ys) count room in
    let start : CacheState C = opened weight limit entries in
    subst (λ (n : ℕ). P n now drafts) (sym time) (subst (λ (ys : List (Draft C)). P (length entries) now ys) (sym none) (subst (λ (xs : List (Line C)). P (length entries) xs []) (sym e)
    (record {
      sound = sound-opened weight limit entries can;
      counts = sum ∙ ap (λ (xs : List (Line C)). sizes xs) e ∙ sym (add-zero (sizes start.lines));
      places = omega (arith, places, ap length e);
    })))

weighed-sizes : {C : Type 0} → (weight : C → ℕ) (lines : List (Line C)) → All (IsWeighed weight) lines → sum_by (λ line. sum_by weight line.chunks) lines ≡ sizes lines
weighed-sizes weight [] all = refl
weighed-sizes {C} weight (line ∷ lines) all =
    let weighs : Line C → ℕ = λ line. sum_by weight line.chunks in
    omega (arith, sum_by-cons weighs line lines, sum_by-cons size_of line lines, All-head (IsWeighed weight) line lines all, weighed-sizes weight lines (All-tail (IsWeighed weight) line lines all))

-- the entries of a cache can be opened again
pub can_reopen : {C : Type 0} → (weight : C → ℕ) (cache : CacheState C) → IsSound weight cache → (limit : ℕ) → limit ≤ 2 ^ 62 → CanOpen weight limit (map stored_of cache.lines)
can_reopen {C} weight cache s limit small =
    let weighs : Stored C → ℕ = λ stored. sum_by weight stored.chunks in
    let has : ℕ → Stored C → ℕ = λ key stored. cond (stored.key.0 == key) 1 0 in
    record {
      limited = small;
      apart = λ key. omega (arith, s.apart key, sum_by-map (has key) stored_of cache.lines);
      small = omega (arith, s.within, s.limited, sum_by-map weighs stored_of cache.lines, weighed-sizes weight cache.lines s.weighed);
    }

-- the same of a result that has such entries
pub all_reopen : {C T E : Type 0} → (weight : C → ℕ) (result : Result T E) (items : T → List (Stored C)) (entries : List (Stored C)) → IfOk result (λ v. items v ≡ entries) → ((limit : ℕ) → limit ≤ 2 ^ 62 → CanOpen weight limit entries) → IfOk result (λ v. (limit : ℕ) → limit ≤ 2 ^ 62 → CanOpen weight limit (items v))
all_reopen {C} weight (Ok v) items entries e can =
    λ limit small. subst (λ (xs : List (Stored C)). CanOpen weight limit xs) (sym e) (can limit small)
all_reopen weight (Err e) items entries same can = tt
