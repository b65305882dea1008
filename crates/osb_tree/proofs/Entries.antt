-- Entries in the order of their keys: what a look-up finds among them, and what an insert makes of them.
use Rattle.std.proofs.Common.{◌≡◌, ℕ, ◌+◌, ◌≤◌, Bool, true, false, cond, ◌||◌, List, [], ◌∷◌, length, Some, None, Option, option_map, is_some, IsSome, unwrap_or, sum_by, Ordering, Less, Equal, Greater, is_eq, sym, refl, ap, subst, ◌∙◌, arith, lit≤, true≢false}
use Rattle.std.specs.Ordering.{match_ordering, eq_by_cmp, ordering_reverse}
use Rattle.std.specs.List.{AllByRecursion, list_any}
use Rattle.std.specs.List.Sorted.{IsStrictlySortedBy}
use Rattle.std.specs.Map.{keys_of, values_of, lookup}
use Rattle.std.specs.BTreeMap.{is_at, insert_entry}
use Rattle.std.specs.Cmp.{IsTotalOrder}
use Rattle.std.proofs.lemmas.Cmp.{eq_by_cmp_equiv}
use Rattle.std.proofs.lemmas.Bool.{or_left, or_right}
use Rattle.std.proofs.lemmas.Map.{lookup-none}
use Rattle.std.proofs.lemmas.Map.Entries.{none_below_head}
use Rattle.std.proofs.lemmas.Map.Keys.{sorted_tail}
use Rattle.std.proofs.lemmas.Map.Lookups.{CmpEqualImpliesEq}
use Rattle.std.proofs.lemmas.List.Sums.{sum_by-cons}

-- of two entries with the same value to give, the first decides
cond-cond_same : {A : Type 0} (b : Bool) (x y z : A) → cond b x y ≡ cond b x (cond b z y)
cond-cond_same true x y z = refl
cond-cond_same false x y z = refl

-- two tests that never pass together may change places
cond-swap : {A : Type 0} (a b : Bool) (x y z : A) → (a ≡ true → b ≡ true → x ≡ y) → cond a x (cond b y z) ≡ cond b y (cond a x z)
cond-swap true true x y z apart = apart refl refl
cond-swap true false x y z apart = refl
cond-swap false true x y z apart = refl
cond-swap false false x y z apart = refl

tie_is : (r : Ordering) → is_eq r ≡ true → r ≡ Equal
tie_is Less e = absurd (true≢false (sym e))
tie_is Equal e = refl
tie_is Greater e = absurd (true≢false (sym e))

-- where equal keys are the same, what holds of each key holds of one that is found, and a key that is found passes its test among them
module _ {K X : Type 0} {R : K → K → Ordering} (exact : CmpEqualImpliesEq R) (q : K) where
  pub key_from_lookup : (P : K → Type 0) (es : List (K × X)) → IsSome (lookup (is_at (R q)) es) → AllByRecursion P (keys_of es) → P q
  key_from_lookup P [] found h = absurd (true≢false (sym found))
  key_from_lookup P (e ∷ es) found h = by (R q e.0) refl found (λ f. key_from_lookup P es f h.1)
    where
      by : (r : Ordering) → R q e.0 ≡ r → IsSome (cond (is_eq r) (Some e.1) (lookup (is_at (R q)) es)) → (IsSome (lookup (is_at (R q)) es) → P q) → P q
      by Less p f later = later f
      by Equal p f later = subst P (sym (exact q e.0 p)) h.0
      by Greater p f later = later f

  pub list_any-from_lookup : (test : K → Bool) (es : List (K × X)) → IsSome (lookup (is_at (R q)) es) → test q ≡ true → list_any (λ e. test e.0) es ≡ true
  list_any-from_lookup test [] found h = absurd (true≢false (sym found))
  list_any-from_lookup test (e ∷ es) found h = by (R q e.0) refl found (λ f. list_any-from_lookup test es f h)
    where
      by : (r : Ordering) → R q e.0 ≡ r → IsSome (cond (is_eq r) (Some e.1) (lookup (is_at (R q)) es)) → (IsSome (lookup (is_at (R q)) es) → list_any (λ e. test e.0) es ≡ true) → (test e.0 || list_any (λ e. test e.0) es) ≡ true
      by Less p f later = or_right _ _ (later f)
      by Equal p f later = or_left _ _ (ap test (sym (exact q e.0 p)) ∙ h)
      by Greater p f later = or_right _ _ (later f)

-- what holds of each key, and of each value, holds after an insert
module _ {K X : Type 0} (R : K → K → Ordering) (k : K) (v : X) where
  pub every_key-insert_entry : (P : K → Type 0) (es : List (K × X)) → AllByRecursion P (keys_of es) → P k → AllByRecursion P (keys_of (insert_entry R es k v))
  every_key-insert_entry P [] h p = (p, tt)
  every_key-insert_entry P (e ∷ es) h p = by (R k e.0) (every_key-insert_entry P es h.1 p)
    where
      by : (r : Ordering) → AllByRecursion P (keys_of (insert_entry R es k v)) → AllByRecursion P (keys_of (match_ordering r ((k, v) ∷ e ∷ es) ((e.0, v) ∷ es) (e ∷ insert_entry R es k v)))
      by Less later = (p, h)
      by Equal later = h
      by Greater later = (h.0, later)

  pub every_value-insert_entry : (P : X → Type 0) (es : List (K × X)) → AllByRecursion P (values_of es) → P v → AllByRecursion P (values_of (insert_entry R es k v))
  every_value-insert_entry P [] h p = (p, tt)
  every_value-insert_entry P (e ∷ es) h p = by (R k e.0) (every_value-insert_entry P es h.1 p)
    where
      by : (r : Ordering) → AllByRecursion P (values_of (insert_entry R es k v)) → AllByRecursion P (values_of (match_ordering r ((k, v) ∷ e ∷ es) ((e.0, v) ∷ es) (e ∷ insert_entry R es k v)))
      by Less later = (p, h)
      by Equal later = (p, h.1)
      by Greater later = (h.0, later)

module _ {K X : Type 0} {R : K → K → Ordering} (o : IsTotalOrder R) where
  -- what is found after an insert
  pub lookup-insert_entry : (es : List (K × X)) (k : K) (v : X) (q : K) → lookup (is_at (R q)) (insert_entry R es k v) ≡ cond (eq_by_cmp R k q) (Some v) (lookup (is_at (R q)) es)
  lookup-insert_entry [] k v q = ap (λ b. cond b (Some v) None) ((eq_by_cmp_equiv o).symm q k)
  lookup-insert_entry (e ∷ es) k v q = by (R k e.0) refl (lookup-insert_entry es k v q)
    where
      by : (r : Ordering) → R k e.0 ≡ r → lookup (is_at (R q)) (insert_entry R es k v) ≡ cond (eq_by_cmp R k q) (Some v) (lookup (is_at (R q)) es)
          → lookup (is_at (R q)) (match_ordering r ((k, v) ∷ e ∷ es) ((e.0, v) ∷ es) (e ∷ insert_entry R es k v)) ≡ cond (eq_by_cmp R k q) (Some v) (lookup (is_at (R q)) (e ∷ es))
      by Less p later = ap (λ b. cond b (Some v) (lookup (is_at (R q)) (e ∷ es))) ((eq_by_cmp_equiv o).symm q k)
      by Equal p later =
          let same : is_eq (R q e.0) ≡ is_eq (R k q) = (eq_by_cmp_equiv o).symm q e.0 ∙ sym ((eq_by_cmp_equiv o).congr k e.0 q (ap is_eq p)) in
          rw same (cond-cond_same (is_eq (R k q)) (Some v) (lookup (is_at (R q)) es) (Some e.1))
      by Greater p later =
          ap (cond (is_eq (R q e.0)) (Some e.1)) later
          ∙ cond-swap (is_eq (R q e.0)) (is_eq (R k q)) (Some e.1) (Some v) (lookup (is_at (R q)) es) (λ a b. absurd (true≢false (sym ((eq_by_cmp_equiv o).congr k q e.0 b ∙ a) ∙ ap is_eq p)))

  -- how many there are then
  pub length-insert_entry : (es : List (K × X)) (k : K) (v : X) → IsStrictlySortedBy R (keys_of es) → length (insert_entry R es k v) ≡ length es + cond (is_some (lookup (is_at (R k)) es)) 0 1
  length-insert_entry [] k v s = omega arith
  length-insert_entry (e ∷ es) k v s = by (R k e.0) refl (length-insert_entry es k v (sorted_tail R e.0 (keys_of es) s))
    where
      by : (r : Ordering) → R k e.0 ≡ r → length (insert_entry R es k v) ≡ length es + cond (is_some (lookup (is_at (R k)) es)) 0 1
          → length (match_ordering r ((k, v) ∷ e ∷ es) ((e.0, v) ∷ es) (e ∷ insert_entry R es k v)) ≡ length (e ∷ es) + cond (is_some (cond (is_eq r) (Some e.1) (lookup (is_at (R k)) es))) 0 1
      by Less p later = rw (lookup-none (is_at (R k)) es (none_below_head o k e es s p).1) (omega arith)
      by Equal p later = omega arith
      by Greater p later = omega arith

  -- the keys stay in order
  below_all : (k : K) (e : K × X) (es : List (K × X)) → R k e.0 ≡ Less → AllByRecursion (λ y. R e.0 y ≡ Less) (keys_of es) → AllByRecursion (λ y. R k y ≡ Less) (keys_of es)
  below_all k e [] p h = tt
  below_all k e (f ∷ es) p h = (o.trans k e.0 f.0 p h.0, below_all k e es p h.1)

  pub sorted-insert_entry : (es : List (K × X)) (k : K) (v : X) → IsStrictlySortedBy R (keys_of es) → IsStrictlySortedBy R (keys_of (insert_entry R es k v))
  unfolding IsStrictlySortedBy
  sorted-insert_entry [] k v s = (tt, tt)
  sorted-insert_entry (e ∷ es) k v s = by (R k e.0) refl (sorted-insert_entry es k v s.1)
    where
      by : (r : Ordering) → R k e.0 ≡ r → IsStrictlySortedBy R (keys_of (insert_entry R es k v)) → IsStrictlySortedBy R (keys_of (match_ordering r ((k, v) ∷ e ∷ es) ((e.0, v) ∷ es) (e ∷ insert_entry R es k v)))
      by Less p later = ((p, below_all k e es p s.0), s)
      by Equal p later = s
      by Greater p later = (every_key-insert_entry R k v (λ y. R e.0 y ≡ Less) es s.0 (o.antisymm e.0 k ∙ ap ordering_reverse p), later)

  -- a sum over the entries, where f weighs an entry and equal keys are the same
  module _ (exact : CmpEqualImpliesEq R) (f : K × X → ℕ) where
    -- the share of what stands at a key
    abbrev pub share_found : K → Option X → ℕ
    share_found k found = unwrap_or (option_map (λ w. f (k, w)) found) 0

    pub share_found-le : (es : List (K × X)) (k : K) → share_found k (lookup (is_at (R k)) es) ≤ sum_by f es
    share_found-le [] k = lit≤ tt
    share_found-le (e ∷ es) k = by (R k e.0) refl (share_found-le es k)
      where
        by : (r : Ordering) → R k e.0 ≡ r → share_found k (lookup (is_at (R k)) es) ≤ sum_by f es → share_found k (cond (is_eq r) (Some e.1) (lookup (is_at (R k)) es)) ≤ sum_by f (e ∷ es)
        by Less p later = omega (arith, sum_by-cons f e es)
        by Equal p later = omega (arith, sum_by-cons f e es, ap (λ q. f (q, e.1)) (exact k e.0 p))
        by Greater p later = omega (arith, sum_by-cons f e es)

    pub sum_by-insert_entry : (es : List (K × X)) (k : K) (v : X) → IsStrictlySortedBy R (keys_of es)
        → sum_by f (insert_entry R es k v) + share_found k (lookup (is_at (R k)) es) ≡ sum_by f es + f (k, v)
    sum_by-insert_entry [] k v s = omega (arith, sum_by-cons f (k, v) [])
    sum_by-insert_entry (e ∷ es) k v s = by (R k e.0) refl (sum_by-insert_entry es k v (sorted_tail R e.0 (keys_of es) s))
      where
        by : (r : Ordering) → R k e.0 ≡ r → sum_by f (insert_entry R es k v) + share_found k (lookup (is_at (R k)) es) ≡ sum_by f es + f (k, v)
            → sum_by f (match_ordering r ((k, v) ∷ e ∷ es) ((e.0, v) ∷ es) (e ∷ insert_entry R es k v)) + share_found k (cond (is_eq r) (Some e.1) (lookup (is_at (R k)) es)) ≡ sum_by f (e ∷ es) + f (k, v)
        by Less p later = omega (arith, sum_by-cons f (k, v) (e ∷ es), ap (share_found k) (lookup-none (is_at (R k)) es (none_below_head o k e es s p).1))
        by Equal p later =
            let here = ap (λ q. f (q, e.1)) (exact k e.0 p) in
            let there = ap (λ q. f (q, v)) (exact k e.0 p) in
            omega (arith, sum_by-cons f e es, sum_by-cons f (e.0, v) es, here, there)
        by Greater p later = omega (arith, sum_by-cons f e es, sum_by-cons f e (insert_entry R es k v))
