-- What the calls keep: each cache stays one, and pins, chunks and drafts change as the laws say.
use Rattle.std.proofs.Common.{◌≡◌, ◌==◌, ℕ, ◌+◌, ◌-◌, ◌<◌, ◌≤◌, Bool, true, false, not, ◌||◌, ◌&&◌, cond, nat_lt, List, [], ◌∷◌, ◌++◌, length, map, find, position, sum_by, count_by, Option, Some, None, inl, inr, refl, sym, ap, subst, ◌∙◌, arith}
use Rattle.std.specs.List.{list_any}
use Rattle.std.specs.Option.{option_map_or, option_to_list}
use Rattle.std.proofs.lemmas.Bool.{cases_eq, ne_eqb, eq-eqb, eqb-true, ltb-false, and_parts, and_from, or_parts, not-false}
use Rattle.std.proofs.lemmas.List.Sums.{sum_by-cons, sum_by-append, sum_by_push, count_by-le-length}
use Rattle.osb_tree.specs.declared.numbers.Key.{Key}
use Rattle.osb_cache.specs.declared.answers.Look.TheVariants.{Hit}
use Rattle.osb_cache.specs.declared.answers.Reserve.TheVariants.{Already, TooLarge, Full}
use Rattle.osb_cache.specs.Edits.{remove_first, update_first}
use Rattle.osb_cache.specs.Caches.{Line, Draft, CacheState, has_key, is_draft, drafts_key, is_pinned, is_committed, is_taken, sizes, counted, held, pinned_sizes, chunks_at, pins_in, pins_on, touched, touch, key_at, look_at, look_reply, after_look, unpinned, after_unpin, evict, staying, room_reply, reserve_reply, after_reserve, new_draft, with_chunk, after_put, line_of_draft, after_commit, after_drop, HasDraft, CanPut, CanCommit, IsWhole, IsSound}
use Rattle.osb_cache.specs.Laws.{own}
use Rattle.osb_cache.specs.Parts.{IsCache}
use Rattle.osb_cache.proofs.Finds.{find-remove_other, find-update_other, find-append_new, find-append_other, find-append_found, find-remove_same, read-update_first, find-evict, drafts_differ, drafts_within}
use Rattle.osb_cache.proofs.Firsts.{found_any, found_passes}
use Rattle.osb_cache.proofs.Kept.{kept_touch, kept_unpin, kept_put, kept_commit, kept_drop, kept_reserve}
use Rattle.osb_cache.proofs.Lookups.{hit_committed, touch-found, some_found, found_pinned, pins_found, chunks_found}
use Rattle.osb_cache.proofs.Sums.{sum-remove_first, sum-update_first, found_by_sum, find_no_count}

whole_cache : {C : Type 0} → (weight : C → ℕ) (cache : CacheState C) → IsSound weight cache → IsCache weight cache (counted cache) (length cache.lines + length cache.drafts)
whole_cache weight cache s = record { sound = s; counts = refl; places = omega arith }

pub sound-look : {C : Type 0} → (weight : C → ℕ) (cache : CacheState C) (worker : ℕ) (keys : List Key) → IsSound weight cache → IsSound weight (after_look cache worker (look_reply cache keys))
sound-look {C} weight cache worker keys s =
    by_place (position (λ (key : Key). is_committed key.0 cache.lines) keys) refl
  where
    by_place : (o : Option ℕ) → position (λ (key : Key). is_committed key.0 cache.lines) keys ≡ o → IsSound weight (after_look cache worker (look_at cache.lines keys o))
    by_place None e = s
    by_place (Some place) e =
        let key : ℕ = (key_at keys place).0 in
        (kept_touch weight cache.limit cache.clock cache.lines (touch (cache.clock + 1) worker key cache.lines) cache.drafts (counted cache) (length cache.lines + length cache.drafts) (length cache.lines + length cache.drafts) worker key (whole_cache weight cache s) (hit_committed cache.lines cache.lines keys place refl e) (omega arith) refl).sound

pub sound-unpin : {C : Type 0} → (weight : C → ℕ) (cache : CacheState C) (worker key : ℕ) → IsSound weight cache → IsSound weight (after_unpin cache worker key)
sound-unpin weight cache worker key s =
    (kept_unpin weight cache.limit cache.clock cache.lines (update_first (has_key key) (unpinned worker) cache.lines) cache.drafts (counted cache) (length cache.lines + length cache.drafts) (length cache.lines + length cache.drafts) worker key (whole_cache weight cache s) (omega arith) refl).sound

pub sound-reserve : {C : Type 0} → (weight : C → ℕ) (cache : CacheState C) (worker key size count : ℕ) → IsSound weight cache → IsSound weight (after_reserve cache worker key size count (reserve_reply cache key size))
sound-reserve {C} weight cache worker key size count s =
    by_tests (is_taken key cache) (nat_lt cache.limit size) (nat_lt cache.limit (pinned_sizes cache.lines + held cache.drafts + size)) refl refl refl
  where
    by_tests : (t u v : Bool) → is_taken key cache ≡ t → nat_lt cache.limit size ≡ u → nat_lt cache.limit (pinned_sizes cache.lines + held cache.drafts + size) ≡ v → IsSound weight (after_reserve cache worker key size count (cond t Already (cond u TooLarge (cond v Full (room_reply cache size)))))
    by_tests true u v e f h = s
    by_tests false true v e f h = s
    by_tests false false true e f h = s
    by_tests false false false e f h =
        let more : List (Draft C) = cache.drafts ++ new_draft worker key size count ∷ [] in
        (kept_reserve weight cache.limit cache.clock cache.lines (staying cache size) cache.drafts more (counted cache) (sizes (staying cache size) + held cache.drafts + size) (length cache.lines + length more) worker key size count s e (ltb-false cache.limit size f) (ltb-false cache.limit (pinned_sizes cache.lines + held cache.drafts + size) h) refl refl refl (omega arith)).sound

pub sound-put : {C : Type 0} → (weight : C → ℕ) (cache : CacheState C) (worker key : ℕ) (chunk : C) → IsSound weight cache → CanPut weight cache worker key chunk → IsSound weight (after_put cache worker key chunk)
sound-put weight cache worker key chunk s can =
    (kept_put weight cache.limit cache.clock cache.lines cache.drafts (update_first (is_draft worker key) (with_chunk chunk) cache.drafts) (counted cache) (length cache.lines + length cache.drafts) worker key chunk (whole_cache weight cache s) can refl).sound

pub sound-commit : {C : Type 0} → (weight : C → ℕ) (cache : CacheState C) (worker key : ℕ) → IsSound weight cache → CanCommit weight cache worker key → IsSound weight (after_commit cache worker key)
sound-commit {C} weight cache worker key s can =
    let found = some_found (is_draft worker key) (IsWhole weight) cache.drafts can in
    (kept_commit weight cache.limit cache.clock cache.lines (after_commit cache worker key).lines cache.drafts (remove_first (is_draft worker key) cache.drafts) (counted cache) (length cache.lines + length cache.drafts) worker key found.0 (whole_cache weight cache s) can found.1
    (ap (λ (o : Option (Draft C)). cache.lines ++ map (line_of_draft (cache.clock + 1)) (option_to_list o)) found.1) refl).sound

pub sound-drop : {C : Type 0} → (weight : C → ℕ) (cache : CacheState C) (worker key : ℕ) → IsSound weight cache → HasDraft cache worker key → IsSound weight (after_drop cache worker key)
sound-drop weight cache worker key s has =
    let found = found_any (is_draft worker key) cache.drafts has in
    (kept_drop weight cache.limit cache.clock cache.lines cache.drafts (remove_first (is_draft worker key) cache.drafts) (counted cache) (length cache.lines + length cache.drafts) worker key found.0 (whole_cache weight cache s) found.1 refl).sound

apart_lines : {C : Type 0} → (weight : C → ℕ) (cache : CacheState C) → IsSound weight cache → (key : ℕ) → count_by (has_key key) cache.lines ≤ 1
apart_lines weight cache s key = omega (arith, s.apart key)

found_key : {C : Type 0} → (key : ℕ) (lines : List (Line C)) (line : Line C) → find (has_key key) lines ≡ Some line → line.key ≡ key
found_key key lines line e = eqb-true line.key key (found_passes (has_key key) lines line e)

-- Pins.

part : {C : Type 0} → ℕ → ℕ → Line C → ℕ
part other name line = cond (has_key name line) (pins_in other line) 0

more_pins : (b c : Bool) (n m : ℕ) → m ≡ n + cond c 1 0 → cond b m 0 ≡ cond b n 0 + cond (c && b) 1 0
more_pins true true n m e = e
more_pins true false n m e = e
more_pins false true n m e = refl
more_pins false false n m e = refl

pins_touch : {C : Type 0} → (clock worker key other name : ℕ) (lines : List (Line C)) (line : Line C) → find (has_key key) lines ≡ Some line → pins_on other name (touch clock worker key lines) ≡ pins_on other name lines + own worker key other name
unfolding part
pins_touch {C} clock worker key other name lines line found =
    let rest : List (Line C) = remove_first (has_key key) lines in
    let last : Line C = touched clock worker line in
    let one : ℕ → ℕ = λ pin. cond (pin == other) 1 0 in
    let more : part other name last ≡ part other name line + cond (worker == other && line.key == name) 1 0 =
    more_pins (line.key == name) (worker == other) (pins_in other line) (pins_in other last) (sum_by_push one line.pins worker) in
    let mine : own worker key other name ≡ own worker line.key other name = ap (λ (k : ℕ). own worker k other name) (sym (found_key key lines line found)) in
    omega (arith, more, mine, sum-remove_first (part other name) (has_key key) lines line found, sum_by_push (part other name) rest last, ap (λ (xs : List (Line C)). pins_on other name xs) (touch-found clock worker key lines line found))

pub pins-look : {C : Type 0} → (cache : CacheState C) (worker : ℕ) (keys : List Key) (place chunks : ℕ) (key : Key) → look_reply cache keys ≡ Hit place key chunks → (other name : ℕ) → pins_on other name (after_look cache worker (look_reply cache keys)).lines ≡ pins_on other name cache.lines + own worker key.0 other name
pins-look {C} cache worker keys place chunks key hit other name =
    by_place (position (λ (key : Key). is_committed key.0 cache.lines) keys) refl hit
  where
    by_place : (o : Option ℕ) → position (λ (key : Key). is_committed key.0 cache.lines) keys ≡ o → look_at cache.lines keys o ≡ Hit place key chunks → pins_on other name (after_look cache worker (look_at cache.lines keys o)).lines ≡ pins_on other name cache.lines + own worker key.0 other name
    by_place None e h = cc
    by_place (Some at) e h =
        let same : key_at keys at ≡ key = cc in
        let found = found_any (has_key (key_at keys at).0) cache.lines (hit_committed cache.lines cache.lines keys at refl e) in
        pins_touch (cache.clock + 1) worker (key_at keys at).0 other name cache.lines found.0 found.1 ∙ ap (λ (k : Key). pins_on other name cache.lines + own worker k.0 other name) same

fewer_pins : (b c : Bool) (n m : ℕ) → m + cond c 1 0 ≡ n → cond b m 0 + cond (c && b) 1 0 ≡ cond b n 0
fewer_pins true true n m e = e
fewer_pins true false n m e = e
fewer_pins false true n m e = refl
fewer_pins false false n m e = refl

pub pins-unpin : {C : Type 0} → (weight : C → ℕ) (cache : CacheState C) (worker key : ℕ) → IsSound weight cache → 0 < pins_on worker key cache.lines → (other name : ℕ) → pins_on other name (after_unpin cache worker key).lines + own worker key other name ≡ pins_on other name cache.lines
unfolding part
pins-unpin {C} weight cache worker key s pinned other name =
    let lines : List (Line C) = cache.lines in
    let found = found_pinned worker key lines pinned in
    let line : Line C = found.0 in
    let held_pins : 0 < pins_in worker line = omega (arith, pinned, pins_found worker key lines line (apart_lines weight cache s key) found.1) in
    let pin = found_by_sum (λ (p : ℕ). 1) (λ (p : ℕ). p == worker) line.pins held_pins in
    let is_mine : pin.0 ≡ worker = eqb-true pin.0 worker (found_passes (λ (p : ℕ). p == worker) line.pins pin.0 pin.1) in
    let one : ℕ → ℕ = λ p. cond (p == other) 1 0 in
    let fewer : pins_in other (unpinned worker line) + cond (worker == other) 1 0 ≡ pins_in other line =
    omega (arith, sum-remove_first one (λ (p : ℕ). p == worker) line.pins pin.0 pin.1, ap one is_mine) in
    let less : part other name (unpinned worker line) + cond (worker == other && line.key == name) 1 0 ≡ part other name line =
    fewer_pins (line.key == name) (worker == other) (pins_in other line) (pins_in other (unpinned worker line)) fewer in
    let mine : own worker key other name ≡ own worker line.key other name = ap (λ (k : ℕ). own worker k other name) (sym (found_key key lines line found.1)) in
    omega (arith, less, mine, sum-update_first (part other name) (has_key key) (unpinned worker) lines line found.1)

evict_step : {C : Type 0} → (g : Line C → ℕ) (b : Bool) (line : Line C) (lines stay rest : List (Line C)) → (b ≡ false → g line ≡ 0) → sum_by g stay ≡ sum_by g lines → sum_by g rest ≡ sum_by g lines → sum_by g (cond b (line ∷ stay) rest) ≡ sum_by g (line ∷ lines)
evict_step g true line lines stay rest none s r = omega (arith, s, sum_by-cons g line stay, sum_by-cons g line lines)
evict_step g false line lines stay rest none s r = omega (arith, r, none refl, sum_by-cons g line lines)

cond_none : (b : Bool) (n : ℕ) → n ≡ 0 → cond b n 0 ≡ 0
cond_none true n e = e
cond_none false n e = refl

unpinned_none : {C : Type 0} → (other name excess : ℕ) (line : Line C) → (is_pinned line || excess == 0) ≡ false → part other name line ≡ 0
unfolding part
unpinned_none other name excess line e =
    let none : length line.pins ≡ 0 = eqb-true (length line.pins) 0 (not-false (length line.pins == 0) (or_parts (is_pinned line) (excess == 0) e).0) in
    cond_none (has_key name line) (pins_in other line) (omega (arith, none, count_by-le-length (λ (pin : ℕ). pin == other) line.pins))

pins-evict : {C : Type 0} → (excess other name : ℕ) (lines : List (Line C)) → pins_on other name (evict excess lines) ≡ pins_on other name lines
unfolding part
pins-evict excess other name [] = refl
pins-evict excess other name (line ∷ lines) =
    evict_step (part other name) (is_pinned line || excess == 0) line lines (evict excess lines) (evict (excess - line.size) lines) (unpinned_none other name excess line) (pins-evict excess other name lines) (pins-evict (excess - line.size) other name lines)

pub pins-reserve : {C : Type 0} → (cache : CacheState C) (size other name : ℕ) → pins_on other name (staying cache size) ≡ pins_on other name cache.lines
pins-reserve cache size other name = pins-evict (counted cache + size - cache.limit) other name cache.lines

new_pins : {C : Type 0} → (clock other name : ℕ) (o : Option (Draft C)) → pins_on other name (map (line_of_draft clock) (option_to_list o)) ≡ 0
new_pins clock other name None = refl
new_pins clock other name (Some draft) = omega (arith, cond_none (draft.key == name) 0 refl)

pub pins-commit : {C : Type 0} → (cache : CacheState C) (worker key other name : ℕ) → pins_on other name (after_commit cache worker key).lines ≡ pins_on other name cache.lines
unfolding part
pins-commit {C} cache worker key other name =
    let o : Option (Draft C) = find (is_draft worker key) cache.drafts in
    omega (arith, sum_by-append (part other name) cache.lines (map (line_of_draft (cache.clock + 1)) (option_to_list o)), new_pins (cache.clock + 1) other name o)

-- Chunks.

chunks_of : {C : Type 0} → Option (Line C) → List C
chunks_of o = option_map_or (λ line. line.chunks) o []

chunks_touch : {C : Type 0} → (clock worker key name : ℕ) (lines : List (Line C)) (line : Line C) → count_by (has_key key) lines ≤ 1 → find (has_key key) lines ≡ Some line → chunks_at name (touch clock worker key lines) ≡ chunks_at name lines
unfolding chunks_of
chunks_touch {C} clock worker key name lines line few found =
    let rest : List (Line C) = remove_first (has_key key) lines in
    let last : Line C = touched clock worker line in
    let keyed : line.key ≡ key = found_key key lines line found in
    let P : ℕ → Type 0 = λ k. chunks_at k (rest ++ last ∷ []) ≡ chunks_at k lines in
    ap (λ (xs : List (Line C)). chunks_at name xs) (touch-found clock worker key lines line found) ∙ elim (cases_eq key name) [
      | inl same ↦ subst P same
          (chunks_found key (rest ++ last ∷ []) last (find-append_new (has_key key) rest last (eq-eqb line.key key keyed) (find-remove_same (has_key key) lines few)) ∙ sym (chunks_found key lines line found))
      | inr other ↦ ap chunks_of
          (find-append_other (has_key name) rest last (ne_eqb line.key name (λ e. other (sym keyed ∙ e))) ∙ find-remove_other (has_key key) (has_key name) (λ x h. ne_eqb x.key name (λ e. other (sym (eqb-true x.key key h) ∙ e))) lines)
    ]

pub chunks-look : {C : Type 0} → (weight : C → ℕ) (cache : CacheState C) (worker : ℕ) (keys : List Key) → IsSound weight cache → (name : ℕ) → chunks_at name (after_look cache worker (look_reply cache keys)).lines ≡ chunks_at name cache.lines
chunks-look {C} weight cache worker keys s name =
    by_place (position (λ (key : Key). is_committed key.0 cache.lines) keys) refl
  where
    by_place : (o : Option ℕ) → position (λ (key : Key). is_committed key.0 cache.lines) keys ≡ o → chunks_at name (after_look cache worker (look_at cache.lines keys o)).lines ≡ chunks_at name cache.lines
    by_place None e = refl
    by_place (Some place) e =
        let key : ℕ = (key_at keys place).0 in
        let found = found_any (has_key key) cache.lines (hit_committed cache.lines cache.lines keys place refl e) in
        chunks_touch (cache.clock + 1) worker key name cache.lines found.0 (apart_lines weight cache s key) found.1

pub chunks-unpin : {C : Type 0} → (cache : CacheState C) (worker key name : ℕ) → chunks_at name (after_unpin cache worker key).lines ≡ chunks_at name cache.lines
chunks-unpin {C} cache worker key name =
    read-update_first (has_key key) (has_key name) (λ (line : Line C). line.chunks) [] (unpinned worker) (λ line. refl) (λ line. refl) cache.lines

some_pins : (n m : ℕ) → 0 < n → n ≤ m → not (m == 0) ≡ true
some_pins n m some le = ap not (ne_eqb m 0 (λ e. omega (arith, e)))

pub chunks-reserve : {C : Type 0} → (weight : C → ℕ) (cache : CacheState C) (size other name : ℕ) → IsSound weight cache → 0 < pins_on other name cache.lines → chunks_at name (staying cache size) ≡ chunks_at name cache.lines
chunks-reserve {C} weight cache size other name s pinned =
    let found = found_pinned other name cache.lines pinned in
    let line : Line C = found.0 in
    let pins : 0 < pins_in other line = omega (arith, pinned, pins_found other name cache.lines line (apart_lines weight cache s name) found.1) in
    let stays_in : is_pinned line ≡ true = some_pins (pins_in other line) (length line.pins) pins (count_by-le-length (λ (pin : ℕ). pin == other) line.pins) in
    chunks_found name (staying cache size) line (find-evict (has_key name) (counted cache + size - cache.limit) cache.lines line stays_in found.1) ∙ sym (chunks_found name cache.lines line found.1)

pub chunks-commit : {C : Type 0} → (cache : CacheState C) (worker key other name : ℕ) → 0 < pins_on other name cache.lines → chunks_at name (after_commit cache worker key).lines ≡ chunks_at name cache.lines
chunks-commit {C} cache worker key other name pinned =
    let found = found_pinned other name cache.lines pinned in
    chunks_found name (after_commit cache worker key).lines found.0 (find-append_found (has_key name) cache.lines (map (line_of_draft (cache.clock + 1)) (option_to_list (find (is_draft worker key) cache.drafts))) found.0 found.1) ∙ sym (chunks_found name cache.lines found.0 found.1)

one_if : Bool → ℕ
one_if b = cond b 1 0

pub chunks-made : {C : Type 0} → (weight : C → ℕ) (cache : CacheState C) (worker key : ℕ) (draft : Draft C) → IsSound weight cache → find (is_draft worker key) cache.drafts ≡ Some draft → chunks_at key (after_commit cache worker key).lines ≡ draft.chunks
unfolding one_if
chunks-made {C} weight cache worker key draft s found =
    let last : Line C = line_of_draft (cache.clock + 1) draft in
    let keyed : (draft.key == key) ≡ true = (and_parts (draft.worker == worker) (draft.key == key) (found_passes (is_draft worker key) cache.drafts draft found)).1 in
    let drafted : Draft C → ℕ = λ d. one_if (drafts_key key d) in
    let none : count_by (has_key key) cache.lines ≡ 0 = omega (arith, s.apart key, sum-remove_first drafted (is_draft worker key) cache.drafts draft found, ap one_if keyed) in
    ap (λ (o : Option (Draft C)). chunks_at key (cache.lines ++ map (line_of_draft (cache.clock + 1)) (option_to_list o))) found ∙ chunks_found key (cache.lines ++ last ∷ []) last (find-append_new (has_key key) cache.lines last keyed (find_no_count (has_key key) cache.lines none))

-- Drafts.

pub drafts-reserve : {C : Type 0} → (cache : CacheState C) (worker key size count other name : ℕ) → (worker ≡ other → key ≡ name → ⊥) → find (is_draft other name) (cache.drafts ++ new_draft worker key size count ∷ []) ≡ find (is_draft other name) cache.drafts
drafts-reserve {C} cache worker key size count other name ne =
    let draft : Draft C = new_draft worker key size count in
    find-append_other (is_draft other name) cache.drafts draft (drafts_differ worker key other name ne draft (and_from (worker == worker) (key == key) (eq-eqb worker worker refl) (eq-eqb key key refl)))

none_any : {X : Type 0} → (p : X → Bool) (xs : List X) → list_any p xs ≡ false → count_by p xs ≡ 0
unfolding one_if
none_any p [] e = refl
none_any {X} p (x ∷ xs) e =
    let one : X → ℕ = λ y. one_if (p y) in
    let parts = or_parts (p x) (list_any p xs) e in
    omega (arith, sum_by-cons one x xs, ap one_if parts.0, none_any p xs parts.1)

pub drafts-reserved : {C : Type 0} → (cache : CacheState C) (worker key size count : ℕ) → is_taken key cache ≡ false → find (is_draft worker key) (cache.drafts ++ new_draft worker key size count ∷ []) ≡ Some (new_draft worker key size count)
drafts-reserved {C} cache worker key size count free =
    let draft : Draft C = new_draft worker key size count in
    let none = none_any (drafts_key key) cache.drafts (or_parts (is_committed key cache.lines) (list_any (drafts_key key) cache.drafts) free).1 in
    find-append_new (is_draft worker key) cache.drafts draft (and_from (worker == worker) (key == key) (eq-eqb worker worker refl) (eq-eqb key key refl)) (find_no_count (is_draft worker key) cache.drafts (omega (arith, none, drafts_within worker key cache.drafts)))

pub drafts-put : {C : Type 0} → (cache : CacheState C) (worker key : ℕ) (chunk : C) (other name : ℕ) → (worker ≡ other → key ≡ name → ⊥) → find (is_draft other name) (after_put cache worker key chunk).drafts ≡ find (is_draft other name) cache.drafts
drafts-put cache worker key chunk other name ne =
    find-update_other (is_draft worker key) (is_draft other name) (with_chunk chunk) (drafts_differ worker key other name ne) (drafts_differ worker key other name ne) cache.drafts

pub drafts-drop : {C : Type 0} → (cache : CacheState C) (worker key other name : ℕ) → (worker ≡ other → key ≡ name → ⊥) → find (is_draft other name) (after_drop cache worker key).drafts ≡ find (is_draft other name) cache.drafts
drafts-drop cache worker key other name ne =
    find-remove_other (is_draft worker key) (is_draft other name) (drafts_differ worker key other name ne) cache.drafts

pub drafts-dropped : {C : Type 0} → (weight : C → ℕ) (cache : CacheState C) (worker key : ℕ) → IsSound weight cache → find (is_draft worker key) (after_drop cache worker key).drafts ≡ None
drafts-dropped weight cache worker key s =
    find-remove_same (is_draft worker key) cache.drafts (omega (arith, s.apart key, drafts_within worker key cache.drafts))
