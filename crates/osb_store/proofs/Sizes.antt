-- How many bytes the chunks of a tree have.
use Rattle.std.proofs.Common.{◌≡◌, ℕ, ◌+◌, ◌<◌, ◌≤◌, true, List, [], ◌∷◌, length, take, get_or, sum_by, refl, ap, arith}
use Rattle.std.specs.List.{flat_map}
use Rattle.std.proofs.lemmas.List.Sums.{sum_by-append, sum_by-cons, sum_by-take-le, sum_by_more_le}
use Rattle.osb_tree.specs.Trees.{Listing, weight, tree_size}
use Rattle.osb_store.specs.Entries.{is_of_a_tree}
use Rattle.osb_store.proofs.EntryTests.{tree_test}

sum_by-flat_map : {X Y : Type 0} (f : Y → ℕ) (g : X → List Y) (xs : List X) → sum_by f (flat_map g xs) ≡ sum_by (λ x. sum_by f (g x)) xs
sum_by-flat_map f g [] = refl
sum_by-flat_map f g (x ∷ xs) =
    omega (arith, sum_by-append f (g x) (flat_map g xs), sum_by-cons (λ y. sum_by f (g y)) x xs, sum_by-flat_map f g xs)

module _ (chunks items : List Listing) (same : items ≡ chunks) (tree : is_of_a_tree chunks ≡ true) where
  small : sum_by tree_size items ≤ 268435456
  small = omega (arith, ((tree_test chunks).0 tree).limits.small, sum_by-flat_map weight (λ (chunk : Listing). chunk) chunks, ap (sum_by tree_size) same)

  pub size_so_far : (i size : ℕ) → size ≡ sum_by tree_size (take i items) → size ≤ 268435456
  size_so_far i size e = omega (arith, e, small, sum_by-take-le tree_size items i)

  pub size_with : (i size weight : ℕ) (chunk seen : Listing) → size ≡ sum_by tree_size (take i items) → i < length items → chunk ≡ get_or items i chunk → seen ≡ chunk → weight ≡ tree_size seen → size + weight ≤ 268435456
  size_with i size weight chunk seen e within is same w =
      omega (arith, e, small, sum_by_more_le tree_size items i chunk within, ap tree_size is, ap tree_size same, w)
