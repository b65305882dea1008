-- The order of paths, and what lies beneath a path.
use Rattle.std.proofs.Common.{◌≡◌, ℕ, ◌==◌, ◌<◌, ◌≤◌, true, false, ◌&&◌, List, [], ◌∷◌, ◌++◌, length, Ordering, Less, Equal, Greater, is_eq, is_lt, sym, refl, ap, ◌∙◌, arith, true≢false}
use Rattle.std.specs.Ordering.{ordering_then, ordering_reverse}
use Rattle.std.specs.List.{starts_with}
use Rattle.std.specs.Cmp.{IsTotalOrder}
use Rattle.std.specs.Cmp.Lexicographic.{pointwise, lists_total, nat_list_cmp_total, texts_ties, same_text}
use Rattle.std.proofs.lemmas.Cmp.{tied_itself}
use Rattle.std.proofs.lemmas.Bool.{and_parts, and_from, and_right}
use Rattle.std.proofs.lemmas.Map.Lookups.{CmpEqualImpliesEq}
use Rattle.osb_tree.specs.Paths.{Names, is_beneath, name_cmp, path_cmp}
use Rattle.osb_tree.proofs.PathLaws.{same_path}

pub path_cmp_total : IsTotalOrder path_cmp
path_cmp_total = lists_total nat_list_cmp_total

pub path_cmp_exact : CmpEqualImpliesEq path_cmp
path_cmp_exact p q e = same_path p q (ap is_eq e)

-- what lies beneath a path is greater
then_less : (x y : List ℕ) (r : Ordering) → x ≡ y → r ≡ Less → ordering_then (name_cmp x y) r ≡ Less
then_less x y r e h = rw (e, tied_itself nat_list_cmp_total y) h

pub path_cmp-from_is_beneath : (p q : Names) → is_beneath p q ≡ true → path_cmp p q ≡ Less
path_cmp-from_is_beneath [] [] h = absurd (true≢false (sym h))
path_cmp-from_is_beneath [] (y ∷ q) h = refl
path_cmp-from_is_beneath (x ∷ p) [] h = absurd (true≢false (sym h))
path_cmp-from_is_beneath (x ∷ p) (y ∷ q) h =
    let parts = and_parts (pointwise ◌==◌ x y) (is_beneath p q) h in
    then_less x y (path_cmp p q) (same_text x y (sym parts.0)) (path_cmp-from_is_beneath p q parts.1)

-- a name that stands between two that are the same is the same
between_names : (x y : List ℕ) (o r s : Ordering) → name_cmp x y ≡ o → ordering_then o r ≡ Less → ordering_then (ordering_reverse o) s ≡ Less → (o ≡ Equal) × (r ≡ Less) × (s ≡ Less)
between_names x y Less r s e h k = absurd (true≢false (sym (ap is_lt k)))
between_names x y Equal r s e h k = (refl, h, k)
between_names x y Greater r s e h k = absurd (true≢false (sym (ap is_lt h)))

-- what is greater than a path and less than something beneath it lies beneath it too
pub is_beneath-between : (p r q : Names) → path_cmp p r ≡ Less → path_cmp r q ≡ Less → is_beneath p q ≡ true → is_beneath p r ≡ true
is_beneath-between [] [] q h k b = absurd (true≢false (sym (ap is_lt h)))
is_beneath-between [] (z ∷ r) q h k b = refl
is_beneath-between (x ∷ p) r [] h k b = absurd (true≢false (sym b))
is_beneath-between (x ∷ p) [] (y ∷ q) h k b = absurd (true≢false (sym (ap is_lt h)))
is_beneath-between (x ∷ p) (z ∷ r) (y ∷ q) h k b =
    let parts = and_parts (pointwise ◌==◌ x y) (is_beneath p q) b in
    let back : name_cmp z y ≡ ordering_reverse (name_cmp x z) = rw (← same_text x y (sym parts.0)) (nat_list_cmp_total.antisymm z x) in
    let all = between_names x z (name_cmp x z) (path_cmp p r) (path_cmp r q) refl h (rw back at k) in
    and_from (pointwise ◌==◌ x z) (is_beneath p r) (texts_ties x z ∙ ap is_eq all.0) (is_beneath-between p r q all.1 all.2 parts.1)

-- a path lies above what it holds
pub is_beneath-child : (p : Names) (name : List ℕ) → is_beneath p (p ++ name ∷ []) ≡ true
is_beneath-child [] name = refl
is_beneath-child (x ∷ p) name =
    and_from (pointwise ◌==◌ x x) (is_beneath p (p ++ name ∷ [])) (texts_ties x x ∙ ap is_eq (tied_itself nat_list_cmp_total x)) (is_beneath-child p name)

-- what lies beneath a path is longer, and begins with it
pub is_beneath-from_front : (p q : Names) → length p < length q → starts_with (pointwise ◌==◌) q p ≡ is_beneath p q
is_beneath-from_front [] [] l = absurd (omega arith)
is_beneath-from_front [] (y ∷ q) l = refl
is_beneath-from_front (x ∷ p) [] l = absurd (omega arith)
is_beneath-from_front (x ∷ p) (y ∷ q) l = ap (λ b. pointwise ◌==◌ x y && b) (is_beneath-from_front p q (omega arith))

pub is_beneath-no_longer : (p q : Names) → length q ≤ length p → is_beneath p q ≡ false
is_beneath-no_longer [] [] l = refl
is_beneath-no_longer [] (y ∷ q) l = absurd (omega arith)
is_beneath-no_longer (x ∷ p) [] l = refl
is_beneath-no_longer (x ∷ p) (y ∷ q) l = and_right (pointwise ◌==◌ x y) (is_beneath p q) (is_beneath-no_longer p q (omega arith))
