-- Lists that rise: two with the same elements are one list.
use Rattle.std.proofs.Common.{◌≡◌, ℕ, zero, suc, ◌<◌, Bool, true, false, cond, inl, inr, ◌⊎◌, List, [], ◌∷◌, map, get_or, take, filter, All, AllPairs, refl, sym, ap, subst, ◌∙◌, arith}
use Rattle.std.specs.List.{Contains}
use Rattle.std.specs.List.Sorted.{IsPermutation}
use Rattle.std.proofs.lemmas.Bool.{cases_lt}
use Rattle.std.proofs.lemmas.List.Elements.{All-filter}
use Rattle.std.proofs.lemmas.List.Sorted.{Contains-permutation, IsPermutation-sym, IsPermutation-trans}
use Rattle.osb_tree.specs.declared.numbers.Key.{Key}
use Rattle.osb_evict.specs.declared.lines.Line.{Line}
use Rattle.osb_evict.specs.Victims.{is_unpinned, IsQueue, IsShortestFront, IsFront}

abbrev pub Rises : {X : Type 0} → (X → ℕ) → List X → Type 0
Rises n xs = AllPairs (λ x y. n x < n y) xs

pub Rises-tail : {X : Type 0} → (n : X → ℕ) (x : X) (xs : List X) → Rises n (x ∷ xs) → Rises n xs
Rises-tail n x xs up i j d less within = up (suc i) (suc j) d (omega arith) (omega arith)

pub Rises-head : {X : Type 0} → (n : X → ℕ) (x : X) (xs : List X) → Rises n (x ∷ xs) → All (λ y. n x < n y) xs
Rises-head n x xs up k d within = up 0 (suc k) d (omega arith) (omega arith)

pub Rises-cons : {X : Type 0} → (n : X → ℕ) (x : X) (xs : List X) → All (λ y. n x < n y) xs → Rises n xs → Rises n (x ∷ xs)
Rises-cons n x xs above up zero zero d less within = absurd (omega arith)
Rises-cons n x xs above up zero (suc j) d less within = above j d (omega arith)
Rises-cons n x xs above up (suc i) zero d less within = absurd (omega arith)
Rises-cons n x xs above up (suc i) (suc j) d less within = up i j d (omega arith) (omega arith)

filter_step : {X : Type 0} → (n : X → ℕ) (b : Bool) (x : X) (xs : List X) → All (λ y. n x < n y) xs → Rises n xs → Rises n (cond b (x ∷ xs) xs)
filter_step n true x xs above up = Rises-cons n x xs above up
filter_step n false x xs above up = up

pub Rises-filter : {X : Type 0} → (n : X → ℕ) (p : X → Bool) (xs : List X) → Rises n xs → Rises n (filter p xs)
Rises-filter n p [] up = up
Rises-filter {X} n p (x ∷ xs) up =
    filter_step n (p x) x (filter p xs) (All-filter p (λ (y : X). n x < n y) xs (Rises-head n x xs up)) (Rises-filter n p xs (Rises-tail n x xs up))

-- an element of a list that rises is its first, or above it
among : {X : Type 0} → (n : X → ℕ) (x : X) (xs : List X) (z : X) → Rises n (x ∷ xs) → Contains (x ∷ xs) z → (x ≡ z) ⊎ (Contains xs z × (n x < n z))
among n x xs z up (zero, h, e) = inl e
among {X} n x xs z up (suc k, h, e) =
    let above : n x < n (get_or xs k z) = up 0 (suc k) z (omega arith) h in
    inr ((k, omega arith, e), subst (λ (y : X). n x < n y) e above)

later : {X : Type 0} → (x : X) (xs : List X) (z : X) → Contains xs z → Contains (x ∷ xs) z
later x xs z (k, h, e) = (suc k, omega arith, e)

first : {X : Type 0} → (x : X) (xs : List X) → Contains (x ∷ xs) x
first x xs = (0, omega arith, refl)

heads : {X : Type 0} → (n : X → ℕ) (x y : X) (xs ys : List X) → (x ≡ y) ⊎ (Contains xs y × (n x < n y)) → (y ≡ x) ⊎ (Contains ys x × (n y < n x)) → x ≡ y
heads n x y xs ys (inl e) other = e
heads n x y xs ys (inr (h, less)) (inl e) = sym e
heads n x y xs ys (inr (h, less)) (inr (k, more)) = absurd (omega arith)

-- what stands behind the first of one list stands behind the first of the other
tails : {X : Type 0} → (n : X → ℕ) (x y z : X) (xs ys : List X) → x ≡ y → n x < n z → (y ≡ z) ⊎ (Contains ys z × (n y < n z)) → Contains ys z
tails n x y z xs ys same above (inl e) = absurd (omega (arith, ap n same, ap n e))
tails n x y z xs ys same above (inr (h, less)) = h

pub same_rising : {X : Type 0} → (n : X → ℕ) (xs ys : List X) → Rises n xs → Rises n ys → ((z : X) → Contains xs z → Contains ys z) → ((z : X) → Contains ys z → Contains xs z) → xs ≡ ys
same_rising n [] [] up up' to from = refl
same_rising n [] (y ∷ ys) up up' to from = absurd (none (from y (first y ys)))
  where
    none : Contains [] y → ⊥
    none (k, h, e) = omega arith
same_rising n (x ∷ xs) [] up up' to from = absurd (none (to x (first x xs)))
  where
    none : Contains [] x → ⊥
    none (k, h, e) = omega arith
same_rising {X} n (x ∷ xs) (y ∷ ys) up up' to from =
    let head : x ≡ y = heads n x y xs ys (among n x xs y up (from y (first y ys))) (among n y ys x up' (to x (first x xs))) in
    let rest : xs ≡ ys =
    same_rising n xs ys (Rises-tail n x xs up) (Rises-tail n y ys up')
    (λ z h. tails n x y z xs ys head (above xs x z up h) (among n y ys z up' (to z (later x xs z h))))
    (λ z h. tails n y x z ys xs (sym head) (above ys y z up' h) (among n x xs z up (from z (later y ys z h)))) in
    ap (λ (zs : List X). x ∷ zs) rest ∙ ap (λ (z : X). z ∷ ys) head
  where
    above : (zs : List X) (w z : X) → Rises n (w ∷ zs) → Contains zs z → n w < n z
    above zs w z up (k, h, e) = subst (λ (v : X). n w < n v) e (up 0 (suc k) z (omega arith) (omega arith))

-- A sorted list is the only one of its elements.
pub sorted_once : {X : Type 0} → (n : X → ℕ) (xs ys : List X) → Rises n xs → Rises n ys → IsPermutation xs ys → xs ≡ ys
sorted_once n xs ys up up' moved =
    same_rising n xs ys up up' (λ z. Contains-permutation xs ys z moved) (λ z. Contains-permutation ys xs z (IsPermutation-sym xs ys moved))

pub rising_lines_are_queued : (lines queue : List Line) → Rises (λ line. line.used) lines → IsQueue lines queue → queue ≡ filter is_unpinned lines
rising_lines_are_queued lines queue up q =
    let used : Line → ℕ = λ line. line.used in
    sym (sorted_once used (filter is_unpinned lines) queue (Rises-filter used is_unpinned lines up) q.rising q.unpinned)

one_queue : (lines queue other : List Line) → IsQueue lines queue → IsQueue lines other → queue ≡ other
one_queue lines queue other q r =
    sorted_once (λ (line : Line). line.used) queue other q.rising r.rising
    (IsPermutation-trans queue (filter is_unpinned lines) other (IsPermutation-sym (filter is_unpinned lines) queue q.unpinned) r.unpinned)

pub one_count : (total limit : ℕ) (queue : List Line) (m n : ℕ) → IsShortestFront total limit queue m → IsShortestFront total limit queue n → m ≡ n
one_count total limit queue m n f g =
    elim (cases_lt m n) [
      | inl less ↦ absurd (omega (arith, g.shortest m less, f.room))
      | inr more ↦ elim (cases_lt n m) [
        | inl less ↦ absurd (omega (arith, f.shortest n less, g.room))
        | inr same ↦ omega arith
      ]
    ]

pub front_is_one : (lines : List Line) (total limit : ℕ) (keys others : List Key) → IsFront lines total limit keys → IsFront lines total limit others → keys ≡ others
front_is_one lines total limit keys others f g =
    let same : f.queue ≡ g.queue = one_queue lines f.queue g.queue f.sorted g.sorted in
    let count : f.count ≡ g.count =
    one_count total limit g.queue f.count g.count (subst (λ (queue : List Line). IsShortestFront total limit queue f.count) same f.front) g.front in
    let named : List Line → ℕ → List Key = λ queue n. map (λ (line : Line). line.key) (take n queue) in
    f.keys_of ∙ ap (λ (queue : List Line). named queue f.count) same ∙ ap (λ (n : ℕ). named g.queue n) count ∙ sym g.keys_of
