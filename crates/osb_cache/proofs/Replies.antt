-- What a reservation answers.
use Rattle.std.proofs.Common.{◌≡◌, ℕ, ◌+◌, ◌-◌, ◌<◌, ◌≤◌, Bool, true, false, not, cond, nat_lt, List, [], ◌∷◌, ◌++◌, length, filter, refl, sym, ap, subst, ◌∙◌, arith}
use Rattle.std.proofs.lemmas.Bool.{lt-ltb, le-ltb}
use Rattle.std.proofs.lemmas.List.Filters.{sum_by-filter_both}
use Rattle.osb_tree.specs.declared.numbers.Key.{Key}
use Rattle.osb_cache.specs.declared.answers.Stored.{Stored}
use Rattle.osb_cache.specs.declared.answers.Reserve.{Reserve}
use Rattle.osb_cache.specs.declared.answers.Reserve.TheVariants.{Room, Already, TooLarge, Full}
use Rattle.osb_cache.specs.Caches.{Line, Draft, CacheState, is_taken, sizes, pinned_sizes, held, evict, staying, stays, room_reply, reserve_reply, after_reserve, new_draft, opening_lines, opened}
use Rattle.osb_cache.specs.Parts.{state_of, Leaves}

past : (taken large full : Bool) (room : Reserve) → taken ≡ false → large ≡ false → cond taken Already (cond large TooLarge (cond full Full room)) ≡ cond full Full room
past true large full room e f = absurd (no e)
  where
    no : true ≡ false → ⊥
    no h = cc
past false true full room e f = absurd (no f)
  where
    no : true ≡ false → ⊥
    no h = cc
past false false full room e f = refl

pub reply_full : {C : Type 0} → (cache : CacheState C) (key size : ℕ) → is_taken key cache ≡ false → size ≤ cache.limit → cache.limit < pinned_sizes cache.lines + held cache.drafts + size → reserve_reply cache key size ≡ Full
reply_full cache key size free small full =
    past (is_taken key cache) (nat_lt cache.limit size) (nat_lt cache.limit (pinned_sizes cache.lines + held cache.drafts + size)) (room_reply cache size) free (le-ltb cache.limit size small) ∙ ap (λ (b : Bool). cond b Full (room_reply cache size)) (lt-ltb cache.limit (pinned_sizes cache.lines + held cache.drafts + size) full)

pub reply_room : {C : Type 0} → (cache : CacheState C) (key size : ℕ) → is_taken key cache ≡ false → size ≤ cache.limit → pinned_sizes cache.lines + held cache.drafts + size ≤ cache.limit → reserve_reply cache key size ≡ room_reply cache size
reply_room cache key size free small fits =
    past (is_taken key cache) (nat_lt cache.limit size) (nat_lt cache.limit (pinned_sizes cache.lines + held cache.drafts + size)) (room_reply cache size) free (le-ltb cache.limit size small) ∙ ap (λ (b : Bool). cond b Full (room_reply cache size)) (le-ltb cache.limit (pinned_sizes cache.lines + held cache.drafts + size) fits)

-- What is left where entries leave.

pub filter_small : {C : Type 0} → (p : Line C → Bool) (lines now : List (Line C)) → now ≡ filter p lines → sizes now ≤ sizes lines
filter_small {C} p lines now e =
    omega (arith, ap (sizes {C = C}) e, sum_by-filter_both p (λ line. not (p line)) (λ line. refl) (λ (line : Line C). line.size) lines)

pub left_now : {C : Type 0} → (lines xs now : List (Line C)) (keys ks : List Key) (reserved others need limit number : ℕ) → xs ≡ lines → ks ≡ keys → others ≡ reserved → Leaves keys xs (evict (sizes xs + others + need - limit) xs) number → now ≡ filter (stays ks) lines → (now ≡ evict (sizes lines + reserved + need - limit) lines) × (length (evict (sizes lines + reserved + need - limit) lines) + number ≡ length lines)
left_now {C} lines xs now keys ks reserved others need limit number same named known left e =
    let here : Leaves keys lines (evict (sizes lines + others + need - limit) lines) number = subst (λ (ys : List (Line C)). Leaves keys ys (evict (sizes ys + others + need - limit) ys) number) same left in
    let there : Leaves keys lines (evict (sizes lines + reserved + need - limit) lines) number = subst (λ (n : ℕ). Leaves keys lines (evict (sizes lines + n + need - limit) lines) number) known here in
    (e ∙ ap (λ (k : List Key). filter (stays k) lines) named ∙ there.left, there.number)

pub reply_now : {C : Type 0} → (cache : CacheState C) (key size number : ℕ) → is_taken key cache ≡ false → size ≤ cache.limit → pinned_sizes cache.lines + held cache.drafts + size ≤ cache.limit → length (staying cache size) + number ≡ length cache.lines → Room number ≡ reserve_reply cache key size
reply_now cache key size number free small fits e =
    let same : number ≡ length cache.lines - length (staying cache size) = omega (arith, e) in
    ap (λ (n : ℕ). Room n) same ∙ sym (reply_room cache key size free small fits)

pub after_now : {C : Type 0} → (limit clock : ℕ) (lines now : List (Line C)) (drafts more : List (Draft C)) (worker key size count : ℕ) → is_taken key (state_of limit clock lines drafts) ≡ false → size ≤ limit → pinned_sizes lines + held drafts + size ≤ limit → now ≡ staying (state_of limit clock lines drafts) size → more ≡ drafts ++ new_draft worker key size count ∷ [] → state_of limit clock now more ≡ after_reserve (state_of limit clock lines drafts) worker key size count (reserve_reply (state_of limit clock lines drafts) key size)
after_now {C} limit clock lines now drafts more worker key size count free small fits e f =
    let cache : CacheState C = state_of limit clock lines drafts in
    ap (λ (xs : List (Line C)). state_of limit clock xs more) e ∙ ap (λ (ys : List (Draft C)). state_of limit clock (staying cache size) ys) f ∙ ap (λ (reply : Reserve). after_reserve cache worker key size count reply) (sym (reply_room cache key size free small fits))

pub opened_now : {C : Type 0} → (weight : C → ℕ) (limit : ℕ) (entries : List (Stored C)) (slots xs now : List (Line C)) (keys ks : List Key) (number : ℕ) → slots ≡ opening_lines weight 1 entries → xs ≡ slots → ks ≡ keys → Leaves keys xs (evict (sizes xs + 0 + 0 - limit) xs) number → now ≡ filter (stays ks) slots → now ≡ (opened weight limit entries).lines
opened_now {C} weight limit entries slots xs now keys ks number start same named left e =
    let lines : List (Line C) = opening_lines weight 1 entries in
    let excess : sizes lines + 0 + 0 - limit ≡ sizes lines - limit = omega arith in
    (left_now lines xs now keys ks 0 0 0 limit number (same ∙ start) named refl left (e ∙ ap (filter (stays ks)) start)).0 ∙ ap (λ (n : ℕ). evict n lines) excess

pub opened_state : {C : Type 0} → (weight : C → ℕ) (limit clock : ℕ) (entries : List (Stored C)) (now : List (Line C)) (drafts : List (Draft C)) → clock ≡ length entries → now ≡ (opened weight limit entries).lines → drafts ≡ [] → state_of limit clock now drafts ≡ opened weight limit entries
opened_state {C} weight limit clock entries now drafts time e none =
    ap (λ (n : ℕ). state_of limit n now drafts) time ∙ ap (λ (xs : List (Line C)). state_of limit (length entries) xs drafts) e ∙ ap (λ (ys : List (Draft C)). state_of limit (length entries) (opened weight limit entries).lines ys) none
