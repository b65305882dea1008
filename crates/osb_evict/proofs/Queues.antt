-- A sorted list whose numbers differ rises, and what a queue weighs.
use Rattle.std.proofs.Common.{◌≡◌, ◌==◌, ℕ, zero, suc, ◌+◌, ◌<◌, ◌≤◌, Bool, true, cond, List, [], ◌∷◌, length, get_or, filter, count_by, AllPairs, refl, sym, ap, arith}
use Rattle.std.proofs.lemmas.Bool.{eq-eqb}
use Rattle.std.specs.List.Sorted.{IsNonDecreasingBy, IsPermutation}
use Rattle.std.proofs.lemmas.List.Sums.{sum_by-cons, get_or-le-sum_by}
use Rattle.std.proofs.lemmas.List.Filters.{sum_by-filter_both}
use Rattle.std.proofs.lemmas.List.Sorted.{sum_by-IsPermutation}
use Rattle.osb_evict.specs.declared.lines.Line.{Line}
use Rattle.osb_evict.specs.Victims.{is_unpinned, is_pinned, sizes, pinned_sizes, AreApart, IsQueue}

one_if : Bool → ℕ
one_if b = cond b 1 0

one_if-true : (b : Bool) → b ≡ true → one_if b ≡ 1
unfolding one_if
one_if-true b e = ap (λ v. cond v 1 0) e

differs : {X : Type 0} → (n : X → ℕ) (x : X) (xs : List X) (k : ℕ) (d : X) → k < length xs → count_by (λ y. n y == n x) (x ∷ xs) ≤ 1 → n x ≡ n (get_or xs k d) → ⊥
unfolding one_if
differs {X} n x xs k d within apart same =
    let passes : X → ℕ = λ y. one_if (n y == n x) in
    let here : passes x ≡ 1 = one_if-true (n x == n x) (eq-eqb (n x) (n x) refl) in
    let there : passes (get_or xs k d) ≡ 1 = one_if-true (n (get_or xs k d) == n x) (eq-eqb (n (get_or xs k d)) (n x) (sym same)) in
    omega (arith, sum_by-cons passes x xs, get_or-le-sum_by passes xs k d within, here, there)

rises_more : {X : Type 0} → (n : X → ℕ) (x : X) (xs : List X) (k : ℕ) (d : X) → k < length xs → count_by (λ y. n y == n x) (x ∷ xs) ≤ 1 → n x ≤ n (get_or xs k d) → n x < n (get_or xs k d)
rises_more n x xs k d within apart up =
    let ne = differs n x xs k d within apart in
    omega (arith, ne)

-- a list that does not fall, and has no number twice, rises
pub rises : {X : Type 0} → (n : X → ℕ) (xs : List X) → IsNonDecreasingBy n xs → ((u : ℕ) → count_by (λ x. n x == u) xs ≤ 1) → AllPairs (λ x y. n x < n y) xs
unfolding one_if
rises n [] up apart i j d less within = absurd (omega arith)
rises n (x ∷ xs) up apart zero zero d less within = absurd (omega arith)
rises n (x ∷ xs) up apart zero (suc j) d less within =
    rises_more n x xs j d (omega arith) (apart (n x)) (up 0 (suc j) d (omega arith) within)
rises n (x ∷ xs) up apart (suc i) zero d less within = absurd (omega arith)
rises {X} n (x ∷ xs) up apart (suc i) (suc j) d less within =
    rises n xs (λ a b e le in'. up (suc a) (suc b) e (omega arith) (omega arith))
    (λ u. omega (arith, apart u, sum_by-cons (λ (y : X). one_if (n y == u)) x xs)) i j d (omega arith) (omega arith)

-- what is sorted of the unpinned lines is their queue
pub IsQueue-sorted : (lines queue : List Line) → AreApart lines → IsPermutation (filter is_unpinned lines) queue → IsNonDecreasingBy (λ line. line.used) queue → IsQueue lines queue
unfolding one_if
IsQueue-sorted lines queue apart same up =
    record {
      unpinned = same;
      rising = rises (λ (line : Line). line.used) queue up
          (λ u. let uses : Line → ℕ = λ line. one_if (line.used == u) in
          omega (arith, apart u, sum_by-IsPermutation uses (filter is_unpinned lines) queue same, sum_by-filter_both is_unpinned is_pinned (λ line. refl) uses lines));
    }

-- the lines weigh what their queue and the pinned ones weigh
pub sizes-queue : (lines queue : List Line) → IsQueue lines queue → sizes queue + pinned_sizes lines ≡ sizes lines
sizes-queue lines queue q =
    omega (arith, sum_by-IsPermutation (λ (line : Line). line.size) (filter is_unpinned lines) queue q.unpinned, sum_by-filter_both is_unpinned is_pinned (λ line. refl) (λ (line : Line). line.size) lines)

pub pinned_within : (lines : List Line) → pinned_sizes lines ≤ sizes lines
pinned_within lines =
    omega (arith, sum_by-filter_both is_unpinned is_pinned (λ line. refl) (λ (line : Line). line.size) lines)
