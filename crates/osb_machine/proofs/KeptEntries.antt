-- How many of the entries that a cache is opened with it keeps, and what they weigh.
use Rattle.std.proofs.Common.{◌≡◌, ◌≢◌, ℕ, ◌+◌, ◌-◌, ◌≤◌, ◌==◌, ◌||◌, Bool, true, false, cond, List, [], ◌∷◌, length, map, All, get_or, sum_by, count_by, refl, sym, ap, ◌∙◌, arith}
use Rattle.std.proofs.lemmas.Bool.{eq-eqb, eqb-false, ne_eqb}
use Rattle.std.proofs.lemmas.List.Elements.{All-nil, All-cons, All-head, All-tail, All-weaker}
use Rattle.std.proofs.lemmas.List.Sums.{sum_by-cons, get_or-le-sum_by}
use Rattle.osb_tree.specs.Trees.{Listing, tree_size}
use Rattle.osb_board.proofs.States.{one_if, one_if-zero}
use Rattle.osb_cache.specs.declared.answers.Stored.{Stored}
use Rattle.osb_cache.specs.Caches.{Line, CacheState, is_committed, evict, opening_line, opening_lines, stored_of, IsWeighed, IsSound}
use Rattle.osb_cache.proofs.Evicts.{All-evict}
use Rattle.osb_cache.proofs.Sums.{sum_by-map}

sum_same : {X : Type 0} → (f g : X → ℕ) (xs : List X) → All (λ x. f x ≡ g x) xs → sum_by f xs ≡ sum_by g xs
sum_same f g [] same = refl
sum_same {X} f g (x ∷ xs) same =
    let P : X → Type 0 = λ y. f y ≡ g y in
    omega (arith, sum_by-cons f x xs, sum_by-cons g x xs, All-head P x xs same, sum_same f g xs (All-tail P x xs same))

none_counted : {X : Type 0} → (p : X → Bool) (xs : List X) → count_by p xs ≡ 0 → All (λ x. p x ≡ false) xs
none_counted {X} p xs none =
    let one : X → ℕ = λ x. one_if (p x) in
    λ k d h. one_if-zero (p (get_or xs k d)) (omega (arith, none, get_or-le-sum_by one xs k d h))

pub opening_all : (P : Line Listing → Type 0) (Q : Stored Listing → Type 0) → ((used : ℕ) (stored : Stored Listing) → Q stored → P (opening_line tree_size used stored)) → (first : ℕ) (entries : List (Stored Listing)) → All Q entries → All P (opening_lines tree_size first entries)
opening_all P Q each first [] all = All-nil P
opening_all P Q each first (stored ∷ entries) all =
    All-cons P (opening_line tree_size first stored) (opening_lines tree_size (first + 1) entries) (each first stored (All-head Q stored entries all)) (opening_all P Q each (first + 1) entries (All-tail Q stored entries all))

uncommitted : (key : ℕ) (lines : List (Line Listing)) → All (λ line. line.key ≢ key) lines → is_committed key lines ≡ false
uncommitted key [] none = refl
uncommitted key (line ∷ lines) none =
    let P : Line Listing → Type 0 = λ l. l.key ≢ key in
    or_false (line.key == key) (is_committed key lines) (ne_eqb line.key key (All-head P line lines none)) (uncommitted key lines (All-tail P line lines none))
  where
    or_false : (a b : Bool) → a ≡ false → b ≡ false → (a || b) ≡ false
    or_false true b e h = cc
    or_false false b e h = h

or_second : (a b : Bool) → a ≡ false → (a || b) ≡ b
or_second true b e = cc
or_second false b e = refl

or_first : (a b : Bool) → a ≡ true → (a || b) ≡ true
or_first true b e = refl
or_first false b e = cc

-- the first entry stays, or it leaves
kept_step : (stays : Bool) (stored : Stored Listing) (entries : List (Stored Listing)) (line : Line Listing) (stay left : List (Line Listing)) → line.key ≡ stored.key.0 → All (λ other. other.key.0 ≢ stored.key.0) entries → All (λ other. other.key ≢ stored.key.0) left → count_by (λ other. is_committed other.key.0 stay) entries ≡ length stay → count_by (λ other. is_committed other.key.0 left) entries ≡ length left → count_by (λ other. is_committed other.key.0 (cond stays (line ∷ stay) left)) (stored ∷ entries) ≡ length (cond stays (line ∷ stay) left)
kept_step true stored entries line stay left own others leaves kept dropped =
    let with_line : Stored Listing → ℕ = λ other. one_if (is_committed other.key.0 (line ∷ stay)) in
    let without : Stored Listing → ℕ = λ other. one_if (is_committed other.key.0 stay) in
    let here : with_line stored ≡ 1 = ap one_if (or_first (line.key == stored.key.0) (is_committed stored.key.0 stay) (eq-eqb line.key stored.key.0 own)) in
    let rest : sum_by with_line entries ≡ sum_by without entries =
    sum_same with_line without entries (All-weaker (λ (other : Stored Listing). other.key.0 ≢ stored.key.0) (λ (other : Stored Listing). with_line other ≡ without other)
    (λ other differs. ap one_if (or_second (line.key == other.key.0) (is_committed other.key.0 stay) (ne_eqb line.key other.key.0 (λ e. differs (sym e ∙ own))))) entries others) in
    omega (arith, sum_by-cons with_line stored entries, here, rest, kept)
kept_step false stored entries line stay left own others leaves kept dropped =
    let has : Stored Listing → ℕ = λ other. one_if (is_committed other.key.0 left) in
    omega (arith, sum_by-cons has stored entries, ap one_if (uncommitted stored.key.0 left leaves), dropped)

pub kept_count : (excess first : ℕ) (entries : List (Stored Listing)) → ((key : ℕ) → count_by (λ stored. stored.key.0 == key) entries ≤ 1) → count_by (λ stored. is_committed stored.key.0 (evict excess (opening_lines tree_size first entries))) entries ≡ length (evict excess (opening_lines tree_size first entries))
kept_count excess first [] apart = refl
kept_count excess first (stored ∷ entries) apart =
    let key : ℕ = stored.key.0 in
    let line : Line Listing = opening_line tree_size first stored in
    let lines : List (Line Listing) = opening_lines tree_size (first + 1) entries in
    let own : Stored Listing → Bool = λ other. other.key.0 == key in
    let one : ℕ → Stored Listing → ℕ = λ k other. one_if (other.key.0 == k) in
    let none : count_by own entries ≡ 0 = omega (arith, apart key, sum_by-cons (one key) stored entries, ap one_if (eq-eqb key key refl)) in
    let others : All (λ (other : Stored Listing). other.key.0 ≢ key) entries =
    All-weaker (λ (other : Stored Listing). own other ≡ false) (λ (other : Stored Listing). other.key.0 ≢ key) (λ other e. eqb-false other.key.0 key e) entries (none_counted own entries none) in
    let leaves : All (λ (other : Line Listing). other.key ≢ key) (evict (excess - line.size) lines) =
    All-evict (λ (other : Line Listing). other.key ≢ key) (excess - line.size) lines (opening_all (λ (other : Line Listing). other.key ≢ key) (λ (other : Stored Listing). other.key.0 ≢ key) (λ used other differs. differs) (first + 1) entries others) in
    let rest : (k : ℕ) → count_by (λ (other : Stored Listing). other.key.0 == k) entries ≤ 1 = λ k. omega (arith, apart k, sum_by-cons (one k) stored entries) in
    kept_step (excess == 0) stored entries line (evict excess lines) (evict (excess - line.size) lines) refl others leaves (kept_count excess (first + 1) entries rest) (kept_count (excess - line.size) (first + 1) entries rest)

-- the entries of a cache weigh no more than its limit
pub weights_within : (cache : CacheState Listing) → IsSound tree_size cache → sum_by (λ stored. sum_by tree_size stored.chunks) (map stored_of cache.lines) ≤ cache.limit
weights_within cache sound =
    let weight : Stored Listing → ℕ = λ stored. sum_by tree_size stored.chunks in
    let weighs : Line Listing → ℕ = λ line. sum_by tree_size line.chunks in
    let size : Line Listing → ℕ = λ line. line.size in
    let same : sum_by weighs cache.lines ≡ sum_by size cache.lines = sum_same weighs size cache.lines (All-weaker (IsWeighed tree_size) (λ (line : Line Listing). weighs line ≡ size line) (λ line is. sym is) cache.lines sound.weighed) in
    omega (arith, sound.within, sum_by-map weight stored_of cache.lines, same)
