-- A tree's listing in chunks of 256 pairs, and what is wrong with chunks that make no tree.
use Rattle.std.specs.Prelude.{◌≡◌, ℕ, zero, suc, ◌+◌, ◌-◌, ◌*◌, ◌<◌, ◌≤◌, ◌==◌, Bool, ◌&&◌, List, [], ◌∷◌, ◌++◌, length, take, drop, nat_lt, slice_index_or, Some, ◌⊎◌, IsTrue, IsFalse}
use Rattle.std.specs.Int.{div_ceil}
use Rattle.std.specs.List.{flat_map, list_all, slice_get, sum_by}
use Rattle.osb_tree.specs.Trees.{Listing, IsTree, IsWithinLimits, tree_size}

-- what a chunk may be: at most 256 pairs, with no more than the size of a tree
pub record IsChunk (pairs : Listing) : Type 0 where
  pub few : length pairs ≤ 256
  pub small : tree_size pairs ≤ 268435456

-- the chunk of a number: its 256 places of the listing, as far as there are so many
abbrev pub chunk_at : Listing → ℕ → Listing
chunk_at listing i = take 256 (drop (256 * i) listing)

abbrev pub chunk_count : Listing → ℕ
chunk_count listing = div_ceil (length listing) 256

-- the chunks below a number, in order
abbrev pub chunks_below : ℕ → Listing → List Listing
chunks_below zero listing = []
chunks_below (suc i) listing = chunks_below i listing ++ chunk_at listing i ∷ []

-- all chunks of a listing
abbrev pub chunks_of : Listing → List Listing
chunks_of listing = chunks_below (chunk_count listing) listing

-- the pairs of some chunks, one after another
abbrev pub pairs_of : List Listing → Listing
pairs_of chunks = flat_map (λ chunk. chunk) chunks

-- whether the last chunk has some pairs, and every chunk before it has 256
abbrev pub is_cut : List Listing → Bool
is_cut chunks =
    nat_lt 0 (length (slice_index_or chunks (length chunks - 1) []))
    && list_all (λ chunk. length chunk == 256) (take (length chunks - 1) chunks)

-- when some chunks are those of a tree
pub record AreOfATree (chunks : List Listing) : Type 0 where
  pub tree : IsTree (pairs_of chunks)
  pub limits : IsWithinLimits (pairs_of chunks)
  pub cut : IsTrue (is_cut chunks)

-- when the listing of some tree within the limits begins with these pairs
abbrev pub BeginsATree : Listing → Type 0
BeginsATree pairs = (rest : Listing) × (IsTree (pairs ++ rest) × IsWithinLimits (pairs ++ rest))

-- the place, from 0, of the first pair that no tree has there, where it has all pairs before it
pub record IsFirstMisfit (pairs : Listing) (place : ℕ) : Type 0 where
  pub within : place < length pairs
  pub before : BeginsATree (take place pairs)
  pub here : ¬ BeginsATree (take (place + 1) pairs)

-- the number of pairs, where no pair is wrong, and so the cut is, or there is no pair
pub record IsMiscut (chunks : List Listing) (place : ℕ) : Type 0 where
  pub end : place ≡ length (pairs_of chunks)
  pub pairs : BeginsATree (pairs_of chunks)
  pub cut : IsFalse (is_cut chunks)

-- where chunks fail to be those of a tree
abbrev pub IsMisfit : List Listing → ℕ → Type 0
IsMisfit chunks place = IsFirstMisfit (pairs_of chunks) place ⊎ IsMiscut chunks place

-- ---- laws

-- the chunks of a listing, one after another, are the listing
abbrev pub ChunksAreTheListing : Type 0
ChunksAreTheListing = (listing : Listing) → pairs_of (chunks_of listing) ≡ listing

-- and what they weigh adds up to the size
abbrev pub ChunksAddUp : Type 0
ChunksAddUp = (listing : Listing) → sum_by tree_size (chunks_of listing) ≡ tree_size listing

-- each stands at its number
abbrev pub ChunksStandByNumber : Type 0
ChunksStandByNumber = (listing : Listing) → (length (chunks_of listing) ≡ chunk_count listing) × ((i : ℕ) → i < chunk_count listing → slice_get (chunks_of listing) i ≡ Some (chunk_at listing i))

-- the chunks of a tree are those of a tree, which is that one
abbrev pub ChunksGiveTheTree : Type 0
ChunksGiveTheTree = (listing : Listing) → IsTree listing → IsWithinLimits listing → AreOfATree (chunks_of listing)

-- the first pairs of a tree's listing are the listing of a tree
abbrev pub FrontIsATree : Type 0
FrontIsATree = (pairs rest : Listing) → 0 < length pairs → IsTree (pairs ++ rest) → IsTree pairs

-- chunks fail at one place, or not at all
abbrev pub MisfitIsOne : Type 0
MisfitIsOne = (chunks : List Listing) (place : ℕ) → IsMisfit chunks place → ¬ AreOfATree chunks × ((other : ℕ) → IsMisfit chunks other → place ≡ other)
