-- Staged entries whose chunks are the first ones of some list.
use Rattle.std.proofs.Common.{◌≡◌, ℕ, ◌+◌, List, [], ◌∷◌, ◌++◌, length, take, drop, Some, None, sym, ap, ◌∙◌, sum_by, arith, inl, inr}
use Rattle.std.specs.Prelude.{slice_get}
use Rattle.std.proofs.lemmas.List.{length-append, take-append-drop, drop_more, take_all}
use Rattle.std.proofs.lemmas.List.Sums.{sum_by-append, sum_by-cons}
use Rattle.std.proofs.lemmas.Option.{slice_get_within, slice_get_cases, get_or_from_slice_get, none-some}
use Rattle.osb_tree.specs.Trees.{Listing, tree_size}
use Rattle.osb_cache.specs.Caches.{Draft, HasRoom, IsWhole}

-- the chunks so far, and those that are left, are these
pub record IsFront (draft : Draft Listing) (rest all : List Listing) : Type 0 where
  pub size : draft.size ≡ sum_by tree_size all
  pub count : draft.count ≡ length all
  pub split : draft.chunks ++ rest ≡ all

pub room_for_next : (draft : Draft Listing) (chunk : Listing) (rest all : List Listing) → IsFront draft (chunk ∷ rest) all → HasRoom tree_size chunk draft
room_for_next draft chunk rest all front =
    record {
      few = omega (arith, length-append draft.chunks (chunk ∷ rest), ap length front.split);
      small = omega (arith, sum_by-append tree_size draft.chunks (chunk ∷ rest), sum_by-cons tree_size chunk rest, ap (sum_by tree_size) front.split);
    }

pub whole_at_end : (draft : Draft Listing) (all : List Listing) → IsFront draft [] all → IsWhole tree_size draft
whole_at_end draft all front =
    record {
      full = omega (arith, length-append draft.chunks [], ap length front.split);
      weighs = omega (arith, sum_by-append tree_size draft.chunks [], ap (sum_by tree_size) front.split);
    }

-- a list before and from the place of one of its elements
pub split_at : {X : Type 0} (xs : List X) (place : ℕ) (x : X) → slice_get xs place ≡ Some x → take place xs ++ x ∷ drop (place + 1) xs ≡ xs
split_at xs place x at =
    let rest : drop place xs ≡ x ∷ drop (place + 1) xs = drop_more xs place x (slice_get_within xs place x at) ∙ ap (λ y. y ∷ drop (place + 1) xs) (get_or_from_slice_get xs place x x at) in
    ap (λ ys. take place xs ++ ys) (sym rest) ∙ take-append-drop place xs

pub take_past : {X : Type 0} (xs : List X) (place : ℕ) → slice_get xs place ≡ None → take place xs ≡ xs
take_past xs place none = elim (slice_get_cases xs place).1 [
  | inl there ↦ absurd (none-some there.0 (sym none ∙ there.2))
  | inr past ↦ take_all place xs past.0
]
