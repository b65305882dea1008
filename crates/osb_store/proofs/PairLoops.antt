-- Pairs that are read one after another, and chunks of them.
use Rattle.std.proofs.Common.{◌≡◌, ℕ, zero, suc, ◌+◌, ◌-◌, ◌*◌, ◌<◌, ◌≤◌, List, [], ◌∷◌, ◌++◌, length, Option, Some, None, refl, sym, ap, subst, ◌∙◌, append_assoc, zero-add, arith}
use Rattle.std.specs.Prelude.{option_map, option_and_then, IfSome}
use Rattle.std.specs.List.{AllByRecursion}
use Rattle.std.specs.Map.{keys_of}
use Rattle.std.proofs.lemmas.Option.{none-some, same_Some, option_and_then_some}
use Rattle.osb_tree.specs.Chunks.{IsChunk, chunks_of, pairs_of}
use Rattle.osb_tree.specs.Paths.{Names, IsPath}
use Rattle.osb_tree.specs.Trees.{Listing, weight}
use Rattle.osb_tree.specs.declared.nodes.Node.{Node}
use Rattle.osb_tree.proofs.ChunkLaws.{chunks_are_the_listing}
use Rattle.osb_tree.proofs.Fronts.{every_key-front, every_key-back}
use Rattle.std.proofs.lemmas.List.Sums.{sum_by-append}
use Rattle.osb_tree.proofs.ChunkWalks.{pairs_of-push}
use Rattle.osb_store.proofs.Cuts.{cut_more, full_more}
use Rattle.osb_store.proofs.Spelling.{option_map_some}
use Rattle.osb_store.specs.Entries.{pair_at, pairs_at, behind, Refuses, HasPath, AreReadable}
use Rattle.osb_store.specs.declared.steps.Stop.{Stop}
use Rattle.osb_store.specs.declared.steps.Stop.TheVariants.{Broken, Memory}

-- ---- what is refused

abbrev pub Piece : Type 0 → Type 0
Piece Y = Option (Y × List ℕ)

module _ {Y Z : Type 0} (Such : Y → Type 0) (Other : Z → Type 0) where
  pub refuses_made : (make : Y → Z) → ((y : Y) → Other (make y) → Such y) → (stop : Stop) (piece : Piece Y) → Refuses Such stop piece → Refuses Other stop (option_map (λ y. (make y.0, y.1)) piece)
  refuses_made make weaker Memory piece h = tt
  refuses_made make weaker Broken None h = tt
  refuses_made make weaker Broken (Some y) h = λ other. h (weaker y.0 other)

  pub refuses_then : (next : Y → List ℕ → Piece Z) → ((y : Y) (z : Z) (bytes rest : List ℕ) → next y bytes ≡ Some (z, rest) → Other z → Such y) → (stop : Stop) (piece : Piece Y) → Refuses Such stop piece
      → Refuses Other stop (option_and_then (λ y. next y.0 y.1) piece)
  refuses_then next weaker Memory piece h = tt
  refuses_then next weaker Broken None h = tt
  refuses_then next weaker Broken (Some y) h = by (next y.0 y.1) refl
    where
      by : (piece : Piece Z) → next y.0 y.1 ≡ piece → IfSome piece (λ z. Other z.0 → ⊥)
      by None e = tt
      by (Some z) e = λ other. h (weaker y.0 z.0 y.1 z.1 e other)

pub refuses_same : {Y : Type 0} (Such : Y → Type 0) (stop : Stop) (piece other : Piece Y) → piece ≡ other → Refuses Such stop piece → Refuses Such stop other
refuses_same Such stop piece other e h = subst (Refuses Such stop) e h

-- ---- pairs

behind_behind : {X : Type 0} (a b : List X) (piece : Piece (List X)) → behind a (behind b piece) ≡ behind (a ++ b) piece
behind_behind a b None = refl
behind_behind a b (Some x) = ap (λ xs. Some (xs, x.1)) (sym (append_assoc a b x.0))

behind_nil : {X : Type 0} (piece : Piece (List X)) → behind [] piece ≡ piece
behind_nil None = refl
behind_nil (Some x) = refl

split_step : (pair : Names × Node) (n : ℕ) (whole first : Piece Listing) → whole ≡ option_and_then (λ x. behind x.0 (pairs_at n x.1)) first
    → behind (pair ∷ []) whole ≡ option_and_then (λ x. behind x.0 (pairs_at n x.1)) (behind (pair ∷ []) first)
split_step pair n whole None e = ap (behind (pair ∷ [])) e
split_step pair n whole (Some x) e = ap (behind (pair ∷ [])) e ∙ behind_behind (pair ∷ []) x.0 (pairs_at n x.1)

-- so many, and then some more
pairs_split : (m n : ℕ) (bytes : List ℕ) → pairs_at (m + n) bytes ≡ option_and_then (λ x. behind x.0 (pairs_at n x.1)) (pairs_at m bytes)
pairs_split zero n bytes = rw zero-add (sym (behind_nil (pairs_at n bytes)))
pairs_split (suc m) n bytes =
    let k : suc m + n ≡ suc (m + n) = omega arith in
    rw k (by (λ rest. pairs_split m n rest) (pair_at bytes))
  where
    by : ((rest : List ℕ) → pairs_at (m + n) rest ≡ option_and_then (λ x. behind x.0 (pairs_at n x.1)) (pairs_at m rest)) → (found : Piece (Names × Node)) → option_and_then (λ x. behind (x.0 ∷ []) (pairs_at (m + n) x.1)) found ≡ option_and_then (λ x. behind x.0 (pairs_at n x.1)) (option_and_then (λ x. behind (x.0 ∷ []) (pairs_at m x.1)) found)
    by later None = refl
    by later (Some x) = split_step x.0 n (pairs_at (m + n) x.1) (pairs_at m x.1) (later x.1)

length_of : (n : ℕ) (bytes : List ℕ) (x : Listing × List ℕ) → pairs_at n bytes ≡ Some x → length x.0 ≡ n
length_of zero bytes x e = ap (λ (p : Listing × List ℕ). length p.0) (sym (same_Some ([], bytes) x e))
length_of (suc n) bytes x e =
    option_and_then_some (λ p. behind (p.0 ∷ []) (pairs_at n p.1)) (pair_at bytes) x e (λ p first later.
    option_map_some (λ xs. (p.0 ∷ xs.0, xs.1)) (pairs_at n p.1) x later (λ xs second same.
    ap (λ (q : Listing × List ℕ). length q.0) (sym same) ∙ ap suc (length_of n p.1 xs second)))

in_front : (front : Listing) (piece : Piece Listing) (whole : Listing) (rest : List ℕ) → behind front piece ≡ Some (whole, rest) → (back : Listing) × (whole ≡ front ++ back)
in_front front None whole rest e = absurd (none-some (whole, rest) e)
in_front front (Some x) whole rest e = (x.0, ap (λ (q : Listing × List ℕ). q.0) (sym (same_Some (front ++ x.0, x.1) (whole, rest) e)))

abbrev ArePaths : Listing → Type 0
ArePaths pairs = AllByRecursion IsPath (keys_of pairs)

first_path : (pair : Names × Node) (pairs : Listing) → (back : Listing) × (pairs ≡ pair ∷ back) → ArePaths pairs → IsPath pair.0
first_path pair pairs e paths = (subst ArePaths e.1 paths).0

module _ (front : Listing) (count i : ℕ) (bytes : List ℕ) (total : Piece Listing) (so_far : behind front (pairs_at (count - i) bytes) ≡ total) where
  pub pair_goes_on : (pair : Names × Node) (after : List ℕ) → i < count → pair_at bytes ≡ Some (pair, after) → behind (front ++ pair ∷ []) (pairs_at (count - (i + 1)) after) ≡ total
  pair_goes_on pair after lt e =
      let k : count - i ≡ suc (count - (i + 1)) = omega arith in
      let one : behind front (pairs_at (count - i) bytes) ≡ behind front (behind (pair ∷ []) (pairs_at (count - (i + 1)) after)) = rw (k, e) refl in
      sym (behind_behind front (pair ∷ []) (pairs_at (count - (i + 1)) after)) ∙ sym one ∙ so_far

  pub pair_breaks : (stop : Stop) → i < count → Refuses HasPath stop (pair_at bytes) → Refuses ArePaths stop total
  pair_breaks stop lt h =
      let k : count - i ≡ suc (count - (i + 1)) = omega arith in
      refuses_same ArePaths stop (behind front (pairs_at (count - i) bytes)) total so_far
      (refuses_made ArePaths ArePaths (λ pairs. front ++ pairs) (λ pairs paths. every_key-back IsPath front pairs paths) stop (pairs_at (count - i) bytes)
      (rw k (refuses_then HasPath ArePaths (λ pair rest. behind (pair ∷ []) (pairs_at (count - (i + 1)) rest)) (λ pair pairs from rest e paths. first_path pair pairs (in_front (pair ∷ []) (pairs_at (count - (i + 1)) from) pairs rest e) paths) stop (pair_at bytes) h)))

-- ---- chunks

readable_front : (front back : Listing) → AreReadable (front ++ back) → AreReadable front
readable_front front back r = record { paths = every_key-front IsPath front back r.paths; small = omega (arith, r.small, sum_by-append weight front back) }

readable_back : (front back : Listing) → AreReadable (front ++ back) → AreReadable back
readable_back front back r = record { paths = every_key-back IsPath front back r.paths; small = omega (arith, r.small, sum_by-append weight front back) }

abbrev pub cut_pairs : Piece Listing → Piece (List Listing)
cut_pairs piece = option_map (λ x. (chunks_of x.0, x.1)) piece

-- the chunks so far, with so many pairs left
pub record AreChunks (chunks : List Listing) (left : ℕ) : Type 0 where
  pub cut : chunks_of (pairs_of chunks) ≡ chunks
  pub full : 0 < left → length (pairs_of chunks) ≡ 256 * length chunks

module _ (chunks : List Listing) (left next : ℕ) (bytes : List ℕ) (total : Piece Listing) (so_far : behind (pairs_of chunks) (pairs_at left bytes) ≡ total) (le : next ≤ left) where
  parted : pairs_at left bytes ≡ option_and_then (λ x. behind x.0 (pairs_at (left - next) x.1)) (pairs_at next bytes)
  parted =
      let whole : left ≡ next + (left - next) = omega arith in
      ap (λ n. pairs_at n bytes) whole ∙ pairs_split next (left - next) bytes

  pub chunk_goes_on : (chunk : Listing) (after : List ℕ) → pairs_at next bytes ≡ Some (chunk, after) → behind (pairs_of (chunks ++ chunk ∷ [])) (pairs_at (left - next) after) ≡ total
  chunk_goes_on chunk after e =
      ap (λ (pairs : Listing). behind pairs (pairs_at (left - next) after)) (pairs_of-push chunks chunk)
      ∙ sym (behind_behind (pairs_of chunks) chunk (pairs_at (left - next) after))
      ∙ ap (behind (pairs_of chunks)) (ap (option_and_then (λ x. behind x.0 (pairs_at (left - next) x.1))) (sym e) ∙ sym parted)
      ∙ so_far

  pub chunk_breaks : (stop : Stop) → Refuses AreReadable stop (pairs_at next bytes) → Refuses (λ made. AreReadable (pairs_of made)) stop (cut_pairs total)
  chunk_breaks stop h =
      refuses_made AreReadable (λ made. AreReadable (pairs_of made)) chunks_of (λ pairs r. subst AreReadable (chunks_are_the_listing pairs) r) stop total
      (refuses_same AreReadable stop (behind (pairs_of chunks) (pairs_at left bytes)) total so_far
      (refuses_made AreReadable AreReadable (λ pairs. pairs_of chunks ++ pairs) (λ pairs r. readable_back (pairs_of chunks) pairs r) stop (pairs_at left bytes)
      (refuses_same AreReadable stop _ (pairs_at left bytes) (sym parted)
      (refuses_then AreReadable AreReadable (λ chunk rest. behind chunk (pairs_at (left - next) rest))
      (λ chunk pairs from rest e r.
      let front = in_front chunk (pairs_at (left - next) from) pairs rest e in
      readable_front chunk front.0 (subst AreReadable front.1 r)) stop (pairs_at next bytes) h))))

  pub chunks_more : (chunk : Listing) (after : List ℕ) → 0 < next → next ≤ 256 → (next < left → next ≡ 256) → pairs_at next bytes ≡ Some (chunk, after) → AreChunks chunks left → AreChunks (chunks ++ chunk ∷ []) (left - next)
  chunks_more chunk after some few whole e are =
      let long : length chunk ≡ next = length_of next bytes (chunk, after) e in
      let full : length (pairs_of chunks) ≡ 256 * length chunks = are.full (omega (arith, some, le)) in
      record {
        cut = cut_more chunks chunk are.cut full (omega (arith, long, some)) (omega (arith, long, few));
        full = λ more. full_more chunks chunk are.cut full (omega (arith, long, some)) (omega (arith, long, few)) (long ∙ whole (omega (arith, more)));
      }

-- pairs that make no chunk
pub refused_pairs : (count : ℕ) (bytes : List ℕ) (pairs : Listing) (rest : List ℕ) → count ≤ 256 → pairs_at count bytes ≡ Some (pairs, rest) → ¬ IsChunk pairs → IfSome (pairs_at count bytes) (λ y. AreReadable y.0 → ⊥)
refused_pairs count bytes pairs rest few e none =
    let long : length pairs ≡ count = length_of count bytes (pairs, rest) e in
    refuses_same AreReadable Broken (Some (pairs, rest)) (pairs_at count bytes) (sym e) (λ r. none (record { few = omega (arith, long, few); small = r.small }))
