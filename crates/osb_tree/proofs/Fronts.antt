-- Entries in two parts, and entries with one more behind them.
use Rattle.std.proofs.Common.{◌≡◌, Bool, true, false, cond, List, [], ◌∷◌, ◌++◌, Some, None, is_some, IsSome, Ordering, Less, Greater, is_eq, sym, refl, ap, ◌∙◌, true≢false}
use Rattle.std.specs.Ordering.{ordering_reverse}
use Rattle.std.specs.List.{AllByRecursion}
use Rattle.std.specs.List.Sorted.{IsStrictlySortedBy}
use Rattle.std.specs.Map.{keys_of, values_of, lookup}
use Rattle.std.specs.BTreeMap.{is_at, insert_entry}
use Rattle.std.specs.Cmp.{IsTotalOrder}
use Rattle.std.proofs.lemmas.Bool.{cond-false}

-- what holds of all holds of each part
module _ {K X : Type 0} where
  pub every_key-front : (P : K → Type 0) (xs ys : List (K × X)) → AllByRecursion P (keys_of (xs ++ ys)) → AllByRecursion P (keys_of xs)
  every_key-front P [] ys h = tt
  every_key-front P (x ∷ xs) ys h = (h.0, every_key-front P xs ys h.1)

  pub every_key-back : (P : K → Type 0) (xs ys : List (K × X)) → AllByRecursion P (keys_of (xs ++ ys)) → AllByRecursion P (keys_of ys)
  every_key-back P [] ys h = h
  every_key-back P (x ∷ xs) ys h = every_key-back P xs ys h.1

  pub every_key-append : (P : K → Type 0) (xs ys : List (K × X)) → AllByRecursion P (keys_of xs) → AllByRecursion P (keys_of ys) → AllByRecursion P (keys_of (xs ++ ys))
  every_key-append P [] ys h k = k
  every_key-append P (x ∷ xs) ys h k = (h.0, every_key-append P xs ys h.1 k)

  pub every_value-front : (P : X → Type 0) (xs ys : List (K × X)) → AllByRecursion P (values_of (xs ++ ys)) → AllByRecursion P (values_of xs)
  every_value-front P [] ys h = tt
  every_value-front P (x ∷ xs) ys h = (h.0, every_value-front P xs ys h.1)

  pub every_value-back : (P : X → Type 0) (xs ys : List (K × X)) → AllByRecursion P (values_of (xs ++ ys)) → AllByRecursion P (values_of ys)
  every_value-back P [] ys h = h
  every_value-back P (x ∷ xs) ys h = every_value-back P xs ys h.1

  -- what is found in the first part is found in both, and what is not is sought in the second
  pub lookup-front : (test : K → Bool) (xs ys : List (K × X)) → IsSome (lookup test xs) → lookup test (xs ++ ys) ≡ lookup test xs
  lookup-front test [] ys h = absurd (true≢false (sym h))
  lookup-front test (x ∷ xs) ys h = by (test x.0) h (lookup-front test xs ys)
    where
      by : (b : Bool) → IsSome (cond b (Some x.1) (lookup test xs)) → (IsSome (lookup test xs) → lookup test (xs ++ ys) ≡ lookup test xs) → cond b (Some x.1) (lookup test (xs ++ ys)) ≡ cond b (Some x.1) (lookup test xs)
      by true h later = refl
      by false h later = later h

  pub lookup-back : (test : K → Bool) (xs ys : List (K × X)) → lookup test xs ≡ None → lookup test (xs ++ ys) ≡ lookup test ys
  lookup-back test [] ys e = refl
  lookup-back test (x ∷ xs) ys e = by (test x.0) e (lookup-back test xs ys)
    where
      by : (b : Bool) → cond b (Some x.1) (lookup test xs) ≡ None → (lookup test xs ≡ None → lookup test (xs ++ ys) ≡ lookup test ys) → cond b (Some x.1) (lookup test (xs ++ ys)) ≡ lookup test ys
      by true e later = absurd (true≢false (ap is_some e))
      by false e later = later e

  -- in order, the first part is in order, and each key of it is less than each of the second
  module _ (R : K → K → Ordering) where
    pub sorted-front : (xs ys : List (K × X)) → IsStrictlySortedBy R (keys_of (xs ++ ys)) → IsStrictlySortedBy R (keys_of xs)
    unfolding IsStrictlySortedBy
    sorted-front [] ys s = tt
    sorted-front (x ∷ xs) ys s = (every_key-front (λ y. R x.0 y ≡ Less) xs ys s.0, sorted-front xs ys s.1)

    pub sorted-across : (xs ys : List (K × X)) → IsStrictlySortedBy R (keys_of (xs ++ ys)) → AllByRecursion (λ x. AllByRecursion (λ y. R x y ≡ Less) (keys_of ys)) (keys_of xs)
    unfolding IsStrictlySortedBy
    sorted-across [] ys s = tt
    sorted-across (x ∷ xs) ys s = (every_key-back (λ y. R x.0 y ≡ Less) xs ys s.0, sorted-across xs ys s.1)

    pub below_last : (xs : List (K × X)) (last : K × X) → IsStrictlySortedBy R (keys_of (xs ++ last ∷ [])) → AllByRecursion (λ x. R x last.0 ≡ Less) (keys_of xs)
    unfolding IsStrictlySortedBy
    below_last [] last s = tt
    below_last (x ∷ xs) last s = ((every_key-back (λ y. R x.0 y ≡ Less) xs (last ∷ []) s.0).0, below_last xs last s.1)

-- a key above all others is not among them, and an insert puts it behind them
flipped : {K : Type 0} {R : K → K → Ordering} → IsTotalOrder R → (x k : K) → R x k ≡ Less → R k x ≡ Greater
flipped o x k h = o.antisymm k x ∙ ap ordering_reverse h

module _ {K X : Type 0} {R : K → K → Ordering} (o : IsTotalOrder R) where
  pub lookup-above : (es : List (K × X)) (k : K) → AllByRecursion (λ y. R y k ≡ Less) (keys_of es) → lookup (is_at (R k)) es ≡ None
  lookup-above [] k h = refl
  lookup-above (e ∷ es) k h = cond-false _ _ _ (ap is_eq (flipped o e.0 k h.0)) ∙ lookup-above es k h.1

  pub insert_entry-above : (es : List (K × X)) (k : K) (v : X) → AllByRecursion (λ y. R y k ≡ Less) (keys_of es) → insert_entry R es k v ≡ es ++ (k, v) ∷ []
  insert_entry-above [] k v h = refl
  insert_entry-above (e ∷ es) k v h = rw (flipped o e.0 k h.0) (ap (λ rest. e ∷ rest) (insert_entry-above es k v h.1))

  -- below the last of them, all of them are below what is greater than that
  pub all_below_more : (es : List (K × X)) (last k : K) → AllByRecursion (λ y. R y last ≡ Less) (keys_of es) → R last k ≡ Less → AllByRecursion (λ y. R y k ≡ Less) (keys_of es)
  all_below_more [] last k h l = tt
  all_below_more (e ∷ es) last k h l = (o.trans e.0 last k h.0 l, all_below_more es last k h.1 l)
