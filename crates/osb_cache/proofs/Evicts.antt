-- What eviction leaves: enough room, and the entries that are not victims.
use Rattle.std.proofs.Common.{◌≡◌, ◌==◌, ℕ, zero, suc, ◌+◌, ◌-◌, ◌<◌, ◌≤◌, Bool, true, false, not, ◌||◌, cond, List, [], ◌∷◌, length, map, take, filter, All, sum_by, count_by, refl, sym, ap, subst, ◌∙◌, arith, length-take}
use Rattle.std.proofs.lemmas.Bool.{ne_eqb, eq-eqb, eqb-true, eqb-false, cond-true, cond-false}
use Rattle.std.proofs.lemmas.List.Elements.{All-nil, All-cons, All-head, All-tail, All-take, All-filter}
use Rattle.std.proofs.lemmas.List.{length-map}
use Rattle.std.proofs.lemmas.List.Sums.{sum_by-cons}
use Rattle.osb_tree.specs.declared.numbers.Key.{Key}
use Rattle.osb_evict.specs.declared.lines.Line.{Line as Weighted}
use Rattle.osb_evict.specs.declared.lines.Victims.{Victims}
use Rattle.osb_evict.specs.declared.lines.Victims.TheVariants.{Take}
use Rattle.osb_evict.specs.Victims.{is_unpinned as may_leave, is_pinned as must_stay, sizes as weights, pinned_sizes as pinned_weights, IsShortestFront, IsFront, IfTaken}
use Rattle.osb_evict.proofs.Rising.{rising_lines_are_queued}
use Rattle.osb_cache.specs.Caches.{Line, has_key, is_pinned, sizes, pinned_size, pinned_sizes, evict, leaves, stays, weighted, Rises}
use Rattle.osb_cache.specs.Parts.{Leaves}
use Rattle.osb_cache.proofs.Rises.{rising-weighted}
use Rattle.osb_cache.proofs.Sums.{sum_by-map}

or_true : (b : Bool) → (b || true) ≡ true
or_true true = refl
or_true false = refl

pub evict-zero : {C : Type 0} → (lines : List (Line C)) → evict 0 lines ≡ lines
evict-zero [] = refl
evict-zero {C} (line ∷ lines) =
    cond-true (is_pinned line || true) (line ∷ evict 0 lines) (evict (0 - line.size) lines) (or_true (is_pinned line)) ∙ ap (λ (rest : List (Line C)). line ∷ rest) (evict-zero lines)

sum_step : {C : Type 0} → (g : Line C → ℕ) (b : Bool) (line : Line C) (lines stay rest : List (Line C)) → sum_by g stay ≤ sum_by g lines → sum_by g rest ≤ sum_by g lines → sum_by g (cond b (line ∷ stay) rest) ≤ sum_by g (line ∷ lines)
sum_step g true line lines stay rest s r = omega (arith, s, sum_by-cons g line stay, sum_by-cons g line lines)
sum_step g false line lines stay rest s r = omega (arith, r, sum_by-cons g line lines)

pub sum-evict-le : {C : Type 0} → (g : Line C → ℕ) (excess : ℕ) (lines : List (Line C)) → sum_by g (evict excess lines) ≤ sum_by g lines
sum-evict-le g excess [] = omega arith
sum-evict-le g excess (line ∷ lines) =
    sum_step g (is_pinned line || excess == 0) line lines (evict excess lines) (evict (excess - line.size) lines) (sum-evict-le g excess lines) (sum-evict-le g (excess - line.size) lines)

all_step : {C : Type 0} → (P : Line C → Type 0) (b : Bool) (line : Line C) (stay rest : List (Line C)) → P line → All P stay → All P rest → All P (cond b (line ∷ stay) rest)
all_step P true line stay rest here s r = All-cons P line stay here s
all_step P false line stay rest here s r = r

pub All-evict : {C : Type 0} → (P : Line C → Type 0) (excess : ℕ) (lines : List (Line C)) → All P lines → All P (evict excess lines)
All-evict P excess [] all = all
All-evict P excess (line ∷ lines) all =
    let rest = All-tail P line lines all in
    all_step P (is_pinned line || excess == 0) line (evict excess lines) (evict (excess - line.size) lines) (All-head P line lines all) (All-evict P excess lines rest) (All-evict P (excess - line.size) lines rest)

pinned_step : (b : Bool) (size : ℕ) → cond b size 0 ≤ size
pinned_step true size = omega arith
pinned_step false size = omega arith

pub pinned_sizes-le : {C : Type 0} → (lines : List (Line C)) → pinned_sizes lines ≤ sizes lines
pinned_sizes-le [] = omega arith
pinned_sizes-le {C} (line ∷ lines) =
    omega (arith, sum_by-cons (pinned_size {C = C}) line lines, sum_by-cons (λ (l : Line C). l.size) line lines, pinned_step (is_pinned line) line.size, pinned_sizes-le lines)

fits_step : {C : Type 0} → (pinned none : Bool) (excess : ℕ) (line : Line C) (lines stay rest : List (Line C)) → (none ≡ true → excess ≡ 0) → cond pinned line.size 0 + pinned_sizes lines + excess ≤ line.size + sizes lines → pinned_sizes lines ≤ sizes lines → sizes stay ≤ sizes lines → (pinned_sizes lines + excess ≤ sizes lines → sizes stay + excess ≤ sizes lines) → (pinned_sizes lines + (excess - line.size) ≤ sizes lines → sizes rest + (excess - line.size) ≤ sizes lines) → sizes (cond (pinned || none) (line ∷ stay) rest) + excess ≤ line.size + sizes lines
fits_step {C} true none excess line lines stay rest spent room le less s r =
    omega (arith, s (omega (arith, room)), sum_by-cons (λ (l : Line C). l.size) line stay)
fits_step {C} false true excess line lines stay rest spent room le less s r =
    omega (arith, spent refl, less, sum_by-cons (λ (l : Line C). l.size) line stay)
fits_step false false excess line lines stay rest spent room le less s r =
    omega (arith, r (omega (arith, room, le)))

-- where the pinned entries leave room, so much goes
pub evict_fits : {C : Type 0} → (excess : ℕ) (lines : List (Line C)) → pinned_sizes lines + excess ≤ sizes lines → sizes (evict excess lines) + excess ≤ sizes lines
evict_fits excess [] room = room
evict_fits {C} excess (line ∷ lines) room =
    let size : Line C → ℕ = λ l. l.size in
    let all = sum_by-cons size line lines in
    let step = fits_step (is_pinned line) (excess == 0) excess line lines (evict excess lines) (evict (excess - line.size) lines) (λ e. eqb-true excess 0 e)
    (omega (arith, room, all, sum_by-cons (pinned_size {C = C}) line lines)) (pinned_sizes-le lines) (sum-evict-le size excess lines) (evict_fits excess lines) (evict_fits (excess - line.size) lines) in
    omega (arith, step, all)

-- Entries as they count where room is made.

pub weights-weighted : {C : Type 0} → (lines : List (Line C)) → weights (map weighted lines) ≡ sizes lines
weights-weighted lines = sum_by-map (λ (w : Weighted). w.size) weighted lines

pinned_weights_step : {C : Type 0} → (b : Bool) (line : Line C) (rest : List Weighted) (n : ℕ) → weights rest ≡ n → weights (cond b (weighted line ∷ rest) rest) ≡ cond b line.size 0 + n
pinned_weights_step true line rest n ih = omega (arith, ih, sum_by-cons (λ (w : Weighted). w.size) (weighted line) rest)
pinned_weights_step false line rest n ih = omega (arith, ih)

pub pinned_weights-weighted : {C : Type 0} → (lines : List (Line C)) → pinned_weights (map weighted lines) ≡ pinned_sizes lines
pinned_weights-weighted [] = refl
pinned_weights-weighted {C} (line ∷ lines) =
    pinned_weights_step (is_pinned line) line (filter must_stay (map weighted lines)) (pinned_sizes lines) (pinned_weights-weighted lines) ∙ sym (sum_by-cons (pinned_size {C = C}) line lines)

-- Victims.

-- so many lines are the shortest front that weighs so much
record IsEnough (excess : ℕ) (queue : List Weighted) (count : ℕ) : Type 0 where
  within : count ≤ length queue
  room : excess ≤ weights (take count queue)
  shortest : (fewer : ℕ) → fewer < count → weights (take fewer queue) < excess

keys_of : List Weighted → List Key
keys_of lines = map (λ (w : Weighted). w.key) lines

queue_of : {C : Type 0} → List (Line C) → List Weighted
queue_of lines = filter may_leave (map weighted lines)

stays_none : {C : Type 0} → (lines : List (Line C)) → filter (stays []) lines ≡ lines
stays_none [] = refl
stays_none {C} (line ∷ lines) = ap (λ (rest : List (Line C)). line ∷ rest) (stays_none lines)

absent_step : (b : Bool) (n : ℕ) → cond b 1 0 + n ≡ 0 → b ≡ false
absent_step true n e = absurd (omega (arith, e))
absent_step false n e = refl

-- a key that no entry has makes none leave
other_step : {C : Type 0} → (b other : Bool) (line : Line C) (xs ys : List (Line C)) → b ≡ false → xs ≡ ys → cond (not (b || other)) (line ∷ xs) xs ≡ cond (not other) (line ∷ ys) ys
other_step {C} true other line xs ys e ih = absurd (true_not_false e)
  where
    true_not_false : true ≡ false → ⊥
    true_not_false h = cc
other_step {C} false other line xs ys e ih = ap (λ (zs : List (Line C)). cond (not other) (line ∷ zs) zs) ih

stays_other : {C : Type 0} → (key : Key) (keys : List Key) (lines : List (Line C)) → count_by (has_key key.0) lines ≡ 0 → filter (stays (key ∷ keys)) lines ≡ filter (stays keys) lines
stays_other key keys [] e = refl
stays_other {C} key keys (line ∷ lines) e =
    let has : Line C → ℕ = λ l. cond (has_key key.0 l) 1 0 in
    let all = sum_by-cons has line lines in
    other_step (has_key key.0 line) (leaves keys line) line (filter (stays (key ∷ keys)) lines) (filter (stays keys) lines)
    (absent_step (has_key key.0 line) (count_by (has_key key.0) lines) (sym all ∙ e)) (stays_other key keys lines (omega (arith, e, all)))

unnamed : {C : Type 0} → (key : ℕ) (lines : List (Line C)) → count_by (has_key key) lines ≡ 0 → All (λ (w : Weighted). (key == w.key.0) ≡ false) (map weighted lines)
unnamed key [] e = All-nil (λ (w : Weighted). (key == w.key.0) ≡ false)
unnamed {C} key (line ∷ lines) e =
    let has : Line C → ℕ = λ l. cond (has_key key l) 1 0 in
    let all = sum_by-cons has line lines in
    let differs : line.key ≡ key → ⊥ = eqb-false line.key key (absent_step (has_key key line) (count_by (has_key key) lines) (sym all ∙ e)) in
    All-cons (λ (w : Weighted). (key == w.key.0) ≡ false) (weighted line) (map weighted lines) (ne_eqb key line.key (λ h. differs (sym h))) (unnamed key lines (omega (arith, e, all)))

none_leaves_step : (b rest : Bool) → b ≡ false → rest ≡ false → (b || rest) ≡ false
none_leaves_step true rest e f = absurd (no e)
  where
    no : true ≡ false → ⊥
    no h = cc
none_leaves_step false rest e f = f

none_leaves : {C : Type 0} → (line : Line C) (front : List Weighted) → All (λ (w : Weighted). (line.key == w.key.0) ≡ false) front → leaves (keys_of front) line ≡ false
unfolding keys_of
none_leaves line [] all = refl
none_leaves line (w ∷ front) all =
    none_leaves_step (line.key == w.key.0) (leaves (keys_of front) line) (All-head (λ (w : Weighted). (line.key == w.key.0) ≡ false) w front all) (none_leaves line front (All-tail (λ (w : Weighted). (line.key == w.key.0) ≡ false) w front all))

-- an entry that no key names stays
kept : {C : Type 0} → (line : Line C) (lines evicted : List (Line C)) (keys : List Key) (count : ℕ) → leaves keys line ≡ false → Leaves keys lines evicted count → Leaves keys (line ∷ lines) (line ∷ evicted) count
kept {C} line lines evicted keys count out ih =
    record {
      left = cond-true (not (leaves keys line)) (line ∷ filter (stays keys) lines) (filter (stays keys) lines) (ap not out) ∙ ap (λ (rest : List (Line C)). line ∷ rest) ih.left;
      number = omega (arith, ih.number);
    }

-- an entry that the first key names leaves
gone : {C : Type 0} → (line : Line C) (lines evicted : List (Line C)) (key : Key) (keys : List Key) (count : ℕ) → line.key ≡ key.0 → count_by (has_key key.0) lines ≡ 0 → Leaves keys lines evicted count → Leaves (key ∷ keys) (line ∷ lines) evicted (suc count)
gone {C} line lines evicted key keys count same apart ih =
    let leaving : leaves (key ∷ keys) line ≡ true = ap (λ (b : Bool). b || leaves keys line) (eq-eqb line.key key.0 same) in
    record {
      left = cond-false (not (leaves (key ∷ keys) line)) (line ∷ filter (stays (key ∷ keys)) lines) (filter (stays (key ∷ keys)) lines) (ap not leaving) ∙ stays_other key keys lines apart ∙ ih.left;
      number = omega (arith, ih.number);
    }

with_evicted : {C : Type 0} → (keys : List Key) (lines evicted other : List (Line C)) (count : ℕ) → evicted ≡ other → Leaves keys lines evicted count → Leaves keys lines other count
with_evicted {C} keys lines evicted other count e h =
    subst (λ (xs : List (Line C)). Leaves keys lines xs count) e h

leave_step : {C : Type 0} → (b : Bool) (excess : ℕ) (line : Line C) (lines : List (Line C)) (count : ℕ) (queue : List Weighted) → count_by (has_key line.key) lines ≡ 0 → All (λ (w : Weighted). (line.key == w.key.0) ≡ false) queue → IsEnough excess (cond b (weighted line ∷ queue) queue) count → ((e c : ℕ) → IsEnough e queue c → Leaves (keys_of (take c queue)) lines (evict e lines) c) → Leaves (keys_of (take count (cond b (weighted line ∷ queue) queue))) (line ∷ lines) (cond (not b || excess == 0) (line ∷ evict excess lines) (evict (excess - line.size) lines)) count
unfolding keys_of
leave_step {C} false excess line lines count queue apart others f ih =
    kept line lines (evict excess lines) (keys_of (take count queue)) count
    (none_leaves line (take count queue) (All-take (λ (w : Weighted). (line.key == w.key.0) ≡ false) count queue others)) (ih excess count f)
leave_step {C} true excess line lines zero queue apart others f ih =
    let none : excess ≡ 0 = omega (arith, f.room) in
    let same : line ∷ evict excess lines ≡ line ∷ lines = ap (λ (rest : List (Line C)). line ∷ rest) (ap (λ (e : ℕ). evict e lines) none ∙ evict-zero lines) in
    with_evicted [] (line ∷ lines) (line ∷ lines) (cond (excess == 0) (line ∷ evict excess lines) (evict (excess - line.size) lines)) 0
    (sym (cond-true (excess == 0) (line ∷ evict excess lines) (evict (excess - line.size) lines) (eq-eqb excess 0 none) ∙ same))
    (record { left = stays_none (line ∷ lines); number = omega arith })
leave_step {C} true excess line lines (suc count) queue apart others f ih =
    let weight : Weighted → ℕ = λ w. w.size in
    let some : excess ≡ 0 → ⊥ = λ e. omega (arith, e, f.shortest 0 (omega arith)) in
    let rest : IsEnough (excess - line.size) queue count =
    record {
      within = omega (arith, f.within);
      room = omega (arith, f.room, sum_by-cons weight (weighted line) (take count queue));
      shortest = λ fewer h. omega (arith, f.shortest (suc fewer) (omega arith), sum_by-cons weight (weighted line) (take fewer queue));
    } in
    with_evicted (keys_of (weighted line ∷ take count queue)) (line ∷ lines) (evict (excess - line.size) lines) (cond (excess == 0) (line ∷ evict excess lines) (evict (excess - line.size) lines)) (suc count)
    (sym (cond-false (excess == 0) (line ∷ evict excess lines) (evict (excess - line.size) lines) (ne_eqb excess 0 some)))
    (gone line lines (evict (excess - line.size) lines) (weighted line).key (keys_of (take count queue)) count refl apart (ih (excess - line.size) count rest))

here_alone : (b : Bool) (n : ℕ) → b ≡ true → cond b 1 0 + n ≤ 1 → n ≡ 0
here_alone true n e h = omega (arith, h)
here_alone false n e h = absurd (no e)
  where
    no : false ≡ true → ⊥
    no k = cc

front_leaves : {C : Type 0} → (excess : ℕ) (lines : List (Line C)) (count : ℕ) → ((key : ℕ) → count_by (has_key key) lines ≤ 1) → IsEnough excess (queue_of lines) count → Leaves (keys_of (take count (queue_of lines))) lines (evict excess lines) count
unfolding keys_of queue_of
front_leaves excess [] zero apart f = record { left = refl; number = refl }
front_leaves excess [] (suc count) apart f = absurd (omega (arith, f.within))
front_leaves {C} excess (line ∷ lines) count apart f =
    let has : ℕ → Line C → ℕ = λ key l. cond (has_key key l) 1 0 in
    let all : (key : ℕ) → count_by (has_key key) (line ∷ lines) ≡ has key line + count_by (has_key key) lines = λ key. sum_by-cons (has key) line lines in
    let alone : count_by (has_key line.key) lines ≡ 0 = here_alone (has_key line.key line) (count_by (has_key line.key) lines) (eq-eqb line.key line.key refl) (omega (arith, apart line.key, all line.key)) in
    leave_step (length line.pins == 0) excess line lines count (filter may_leave (map weighted lines)) alone
    (All-filter may_leave (λ (w : Weighted). (line.key == w.key.0) ≡ false) (map weighted lines) (unnamed line.key lines alone)) f
    (λ e c h. front_leaves e lines c (λ key. omega (arith, apart key, all key)) h)

-- what victims are of entries that rise: those that eviction makes leave
pub victims_leave : {C : Type 0} → (lines : List (Line C)) (low high total limit : ℕ) (keys : List Key) → Rises low lines high → ((key : ℕ) → count_by (has_key key) lines ≤ 1) → IsFront (map weighted lines) total limit keys → Leaves keys lines (evict (total - limit) lines) (length keys)
unfolding keys_of queue_of
victims_leave {C} lines low high total limit keys rising apart f =
    let queued : f.queue ≡ queue_of lines = rising_lines_are_queued (map weighted lines) f.queue (rising-weighted low high lines rising) f.sorted in
    let named : keys ≡ keys_of (take f.count (queue_of lines)) = f.keys_of ∙ ap (λ (queue : List Weighted). keys_of (take f.count queue)) queued in
    let front : IsShortestFront total limit (queue_of lines) f.count = subst (λ (queue : List Weighted). IsShortestFront total limit queue f.count) queued f.front in
    let enough : IsEnough (total - limit) (queue_of lines) f.count =
    record {
      within = front.within;
      room = omega (arith, front.room);
      shortest = λ fewer h. omega (arith, front.shortest fewer h);
    } in
    let counted : length keys ≡ f.count =
    ap length named ∙ length-keys (take f.count (queue_of lines)) ∙ length-take_all f.count (queue_of lines) front.within in
    let P : List Key → ℕ → Type 0 = λ ks n. Leaves ks lines (evict (total - limit) lines) n in
    subst (λ (ks : List Key). P ks (length keys)) (sym named) (subst (P (keys_of (take f.count (queue_of lines)))) (sym counted) (front_leaves (total - limit) lines f.count apart enough))
  where
    length-keys : (xs : List Weighted) → length (keys_of xs) ≡ length xs
    length-keys xs = simp length-map

    length-take_all : (n : ℕ) (xs : List Weighted) → n ≤ length xs → length (take n xs) ≡ n
    length-take_all n xs h = simp length-take (omega arith)

-- the same of what `victims` answers
pub taken_leave : {C : Type 0} → (lines : List (Line C)) (xs : List Weighted) (high held need limit : ℕ) (keys : List Key) (answer : Victims) → xs ≡ map weighted lines → Rises 0 lines high → ((key : ℕ) → count_by (has_key key) lines ≤ 1) → answer ≡ Take keys → IfTaken answer (IsFront xs (weights xs + held + need) limit) → Leaves keys lines (evict (sizes lines + held + need - limit) lines) (length keys)
taken_leave {C} lines xs high held need limit keys answer same rising apart e taken =
    let front : IsFront xs (weights xs + held + need) limit keys = subst (λ (v : Victims). IfTaken v (IsFront xs (weights xs + held + need) limit)) e taken in
    let here : IsFront (map weighted lines) (weights xs + held + need) limit keys = subst (λ (ys : List Weighted). IsFront ys (weights xs + held + need) limit keys) same front in
    let total : weights xs ≡ sizes lines = ap weights same ∙ weights-weighted lines in
    subst (λ (n : ℕ). Leaves keys lines (evict (n + held + need - limit) lines) (length keys)) total (victims_leave lines 0 high (weights xs + held + need) limit keys rising apart here)

length_step : {C : Type 0} → (b : Bool) (line : Line C) (lines stay rest : List (Line C)) → length stay ≤ length lines → length rest ≤ length lines → length (cond b (line ∷ stay) rest) ≤ length (line ∷ lines)
length_step true line lines stay rest s r = omega (arith, s)
length_step false line lines stay rest s r = omega (arith, r)

pub length-evict-le : {C : Type 0} → (excess : ℕ) (lines : List (Line C)) → length (evict excess lines) ≤ length lines
length-evict-le excess [] = omega arith
length-evict-le excess (line ∷ lines) =
    length_step (is_pinned line || excess == 0) line lines (evict excess lines) (evict (excess - line.size) lines) (length-evict-le excess lines) (length-evict-le (excess - line.size) lines)
