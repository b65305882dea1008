-- Chunks that are cut from their pairs.
use Rattle.std.proofs.Common.{◌≡◌, ℕ, zero, suc, ◌+◌, ◌-◌, ◌*◌, ◌==◌, ◌<◌, ◌≤◌, true, List, [], ◌∷◌, ◌++◌, length, take, drop, take_all, get_or, All, refl, sym, ap, subst, ◌∙◌, arith, lit<}
use Rattle.std.specs.Prelude.{nat_lt}
use Rattle.std.specs.List.{list_all}
use Rattle.std.proofs.lemmas.Bool.{and_parts, ltb-true, eqb-true}
use Rattle.std.proofs.lemmas.Grind.{div_ceil_times}
use Rattle.std.proofs.lemmas.List.{length_push, length-append, length-take, length-drop, take-append-le, drop-append-le, drop_at}
use Rattle.std.proofs.lemmas.List.Elements.{All-nil, All-push}
use Rattle.std.proofs.lemmas.List.Sums.{AllPass-from_list_all}
use Rattle.std.proofs.Math.Seq.{take-suc}
use Rattle.osb_tree.specs.Chunks.{chunk_at, chunk_count, chunks_below, chunks_of, pairs_of, is_cut}
use Rattle.osb_tree.specs.Trees.{Listing}
use Rattle.osb_tree.proofs.ChunkWalks.{pairs_of-push}

chunk_at-front : (i : ℕ) (front back : Listing) → 256 * i + 256 ≤ length front → chunk_at (front ++ back) i ≡ chunk_at front i
chunk_at-front i front back le =
    ap (take 256) (drop-append-le (256 * i) front back (omega (arith, le)))
    ∙ take-append-le 256 (drop (256 * i) front) back (omega (arith, le, length-drop (256 * i) front))

chunks_below-front : (i : ℕ) (front back : Listing) → 256 * i ≤ length front → chunks_below i (front ++ back) ≡ chunks_below i front
chunks_below-front zero front back le = refl
chunks_below-front (suc i) front back le =
    rw (chunks_below-front i front back (omega (arith, le)), chunk_at-front i front back (omega (arith, le))) refl

count_is : (n : ℕ) (listing : Listing) → length listing ≡ 256 * n → chunk_count listing ≡ n
count_is n listing e = omega (arith, e, div_ceil_times (length listing) 256 (lit< tt))

more_count_is : (n : ℕ) (listing : Listing) → 256 * n < length listing → length listing ≤ 256 * n + 256 → chunk_count listing ≡ suc n
more_count_is n listing some few = omega (arith, some, few, div_ceil_times (length listing) 256 (lit< tt))

-- behind full chunks
module _ (chunks : List Listing) (chunk : Listing) (cut : chunks_of (pairs_of chunks) ≡ chunks) (full : length (pairs_of chunks) ≡ 256 * length chunks) (some : 0 < length chunk) (few : length chunk ≤ 256) where
  last_chunk : chunk_at (pairs_of chunks ++ chunk) (length chunks) ≡ chunk
  last_chunk = ap (take 256) (drop_at (pairs_of chunks) chunk (256 * length chunks) full) ∙ take_all 256 chunk few

  first_chunks : chunks_below (length chunks) (pairs_of chunks ++ chunk) ≡ chunks
  first_chunks =
      chunks_below-front (length chunks) (pairs_of chunks) chunk (omega (arith, full))
      ∙ ap (λ n. chunks_below n (pairs_of chunks)) (sym (count_is (length chunks) (pairs_of chunks) full)) ∙ cut

  pub cut_more : chunks_of (pairs_of (chunks ++ chunk ∷ [])) ≡ chunks ++ chunk ∷ []
  cut_more =
      let long = length-append (pairs_of chunks) chunk in
      ap chunks_of (pairs_of-push chunks chunk)
      ∙ ap (λ n. chunks_below n (pairs_of chunks ++ chunk)) (more_count_is (length chunks) (pairs_of chunks ++ chunk) (omega (arith, some, full, long)) (omega (arith, few, full, long)))
      ∙ ap (λ (done : List Listing). done ++ chunk_at (pairs_of chunks ++ chunk) (length chunks) ∷ []) first_chunks
      ∙ ap (λ (last : Listing). chunks ++ last ∷ []) last_chunk

  pub full_more : length chunk ≡ 256 → length (pairs_of (chunks ++ chunk ∷ [])) ≡ 256 * length (chunks ++ chunk ∷ [])
  full_more whole = omega (arith, whole, full, ap length (pairs_of-push chunks chunk), length-append (pairs_of chunks) chunk, length_push chunks chunk)

-- chunks that are all full, of which these are the first
record AreFull (chunks : List Listing) : Type 0 where
  pub cut : chunks_of (pairs_of chunks) ≡ chunks
  pub full : length (pairs_of chunks) ≡ 256 * length chunks

are_full : (i : ℕ) (chunks : List Listing) → list_all (λ chunk. length chunk == 256) chunks ≡ true → i ≤ length chunks → AreFull (take i chunks)
are_full zero chunks all le = record { cut = refl; full = refl }
are_full (suc i) chunks all le =
    let before = are_full i chunks all (omega (arith, le)) in
    let whole : length (get_or chunks i []) ≡ 256 = eqb-true (length (get_or chunks i [])) 256 (AllPass-from_list_all (λ chunk. length chunk == 256) chunks all i [] le) in
    let taken = take-suc chunks i [] le in
    subst AreFull (sym taken) (record {
      cut = cut_more (take i chunks) (get_or chunks i []) before.cut before.full (omega (arith, whole)) (omega (arith, whole));
      full = full_more (take i chunks) (get_or chunks i []) before.cut before.full (omega (arith, whole)) (omega (arith, whole)) whole;
    })

-- chunks that are cut so, of no more than 256 pairs each, are those of their pairs
pub chunks_of-pairs_of : (chunks : List Listing) → is_cut chunks ≡ true → All (λ chunk. length chunk ≤ 256) chunks → chunks_of (pairs_of chunks) ≡ chunks
chunks_of-pairs_of [] cut few = refl
chunks_of-pairs_of (first ∷ rest) cut few =
    let chunks : List Listing = first ∷ rest in
    let n = length rest in
    let parts = and_parts (nat_lt 0 (length (get_or chunks (length chunks - 1) []))) (list_all (λ chunk. length chunk == 256) (take (length chunks - 1) chunks)) cut in
    let at : length chunks - 1 ≡ n = omega arith in
    let some : 0 < length (get_or chunks n []) = ltb-true 0 (length (get_or chunks n [])) (rw at at parts.0) in
    let all : list_all (λ chunk. length chunk == 256) (take n chunks) ≡ true = rw at at parts.1 in
    let whole : take (suc n) chunks ≡ take n chunks ++ get_or chunks n [] ∷ [] = take-suc chunks n [] (omega arith) in
    let is : chunks ≡ take n chunks ++ get_or chunks n [] ∷ [] = sym (take_all (suc n) chunks (omega arith)) ∙ whole in
    let taken : take (length (take n chunks)) (take n chunks) ≡ take n chunks = take_all (length (take n chunks)) (take n chunks) (omega arith) in
    let full = subst AreFull taken (are_full (length (take n chunks)) (take n chunks) all (omega arith)) in
    subst (λ (c : List Listing). chunks_of (pairs_of c) ≡ c) (sym is) (cut_more (take n chunks) (get_or chunks n []) full.cut full.full some (few n [] (omega arith)))

pub chunks_of-few : (listing : Listing) → All (λ chunk. length chunk ≤ 256) (chunks_of listing)
chunks_of-few listing = below (chunk_count listing)
  where
    below : (i : ℕ) → All (λ (chunk : Listing). length chunk ≤ 256) (chunks_below i listing)
    below zero = All-nil (λ chunk. length chunk ≤ 256)
    below (suc i) = All-push (λ chunk. length chunk ≤ 256) (chunks_below i listing) (chunk_at listing i) (below i) (omega (arith, length-take 256 (drop (256 * i) listing)))
