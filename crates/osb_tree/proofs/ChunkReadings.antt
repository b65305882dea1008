-- Chunks that are read one after another.
use Rattle.std.proofs.Common.{◌≡◌, ℕ, ◌+◌, ◌-◌, ◌==◌, ◌<◌, ◌≤◌, Bool, true, false, ◌&&◌, List, [], ◌∷◌, ◌++◌, length, take, drop, take_all, get_or, Some, None, Option, option_copied, Bor, sym, refl, ap, subst, ◌∙◌, inl, inr, append_assoc, arith, true≢false}
use Rattle.std.specs.Prelude.{nat_lt}
use Rattle.std.specs.Option.{option_or}
use Rattle.std.specs.List.{list_all}
use Rattle.std.specs.List.Sorted.{IsStrictlySortedBy}
use Rattle.std.specs.Map.{keys_of}
use Rattle.std.proofs.lemmas.Bool.{and_parts, ltb-true, lt-ltb, eqb-false}
use Rattle.std.proofs.lemmas.List.{append-nil, length-append, length_push, take_more, take-append-drop, take-append-le}
use Rattle.std.proofs.lemmas.List.Concat.{flat_map-append, length-flat_map}
use Rattle.std.proofs.lemmas.List.Sums.{sum_by-append, get_or-le-sum_by}
use Rattle.std.proofs.Math.Seq.{get_or-append_seam, take-append_seam, take-append-add}
use Rattle.osb_tree.specs.Paths.{Names, path_cmp}
use Rattle.osb_tree.specs.Trees.{Listing, weight, tree_size}
use Rattle.osb_tree.specs.Chunks.{pairs_of, is_cut, AreOfATree, BeginsATree, IsMisfit}
use Rattle.osb_tree.specs.Readings.{last_of, IsRead}
use Rattle.osb_tree.specs.declared.nodes.Node.{Node}
use Rattle.osb_tree.proofs.ChunkWalks.{pairs_of-push}
use Rattle.osb_tree.proofs.Fronts.{sorted-front}
use Rattle.osb_tree.proofs.PairReadings.{ends, last_of-push, nothing_begins, begins-limits, begins-tree}

-- ---- the cut

pub is_cut-push : (full : List Listing) (last : Listing) → is_cut (full ++ last ∷ []) ≡ (nat_lt 0 (length last) && list_all (λ chunk. length chunk == 256) full)
is_cut-push full last =
    let at : length (full ++ last ∷ []) - 1 ≡ length full = omega (arith, length_push full last) in
    rw (at, get_or-append_seam full last [] [], take-append_seam full (last ∷ [])) refl

pub is_cut-from_parts : (chunks full : List Listing) (last : Listing) (all : Bool) → chunks ≡ full ++ last ∷ [] → (length last == 0) ≡ false → all ≡ list_all (λ chunk. length chunk == 256) full → all ≡ is_cut chunks
is_cut-from_parts chunks full last all e some a =
    let more : 0 < length last = omega (arith, eqb-false (length last) 0 some) in
    a ∙ sym (ap is_cut e ∙ is_cut-push full last ∙ ap (λ b. b && list_all (λ chunk. length chunk == 256) full) (lt-ltb 0 (length last) more))

is_cut-some : (chunks : List Listing) → is_cut chunks ≡ true → 0 < length (pairs_of chunks)
is_cut-some [] cut = absurd (true≢false (sym cut))
is_cut-some (chunk ∷ chunks) cut =
    let last = ltb-true 0 (length (get_or (chunk ∷ chunks) (length (chunk ∷ chunks) - 1) [])) (and_parts (nat_lt 0 (length (get_or (chunk ∷ chunks) (length (chunk ∷ chunks) - 1) []))) (list_all (λ chunk. length chunk == 256) (take (length (chunk ∷ chunks) - 1) (chunk ∷ chunks))) cut).0 in
    omega (arith, last, length-flat_map (λ c. c) (chunk ∷ chunks), get_or-le-sum_by (λ c. length c) (chunk ∷ chunks) (length (chunk ∷ chunks) - 1) [] (omega arith))

-- ---- a walk over chunks

pub nothing_read : IsRead [] None 0 0 × BeginsATree []
nothing_read = (record { last_is = refl; count_is = refl; size_is = refl }, nothing_begins)

last_of-append : (xs ys : Listing) → last_of (xs ++ ys) ≡ option_or (last_of ys) (last_of xs)
last_of-append xs [] = ap last_of (append-nil xs)
last_of-append xs (y ∷ ys) =
    let e = ends y ys in
    ap (λ more. last_of (xs ++ more)) e.is ∙ ap last_of (sym (append_assoc xs e.front (e.last ∷ []))) ∙ last_of-push (xs ++ e.front) e.last
    ∙ sym (ap (λ last. option_or last (last_of xs)) e.last_is)

pub option_copied-or : {X : Type 0} (a b : Option (Bor X)) → option_copied (option_or a b) ≡ option_or (option_copied a) (option_copied b)
option_copied-or None b = refl
option_copied-or (Some x) b = refl

place_in : (done chunk rest : Listing) (n : ℕ) → n ≤ length chunk → take (length done + n) ((done ++ chunk) ++ rest) ≡ done ++ take n chunk
place_in done chunk rest n le = take-append-le (length done + n) (done ++ chunk) rest (omega (arith, length-append done chunk, le)) ∙ take-append-add done chunk n

module _ (chunks : List Listing) (i : ℕ) (chunk : Listing) (within : i < length chunks) (is : chunk ≡ get_or chunks i chunk) where
  pub one_more : pairs_of (take (i + 1) chunks) ≡ pairs_of (take i chunks) ++ chunk
  one_more = ap pairs_of (take_more chunks i chunk within ∙ ap (λ next. take i chunks ++ next ∷ []) (sym is)) ∙ pairs_of-push (take i chunks) chunk

  pub parts : pairs_of chunks ≡ (pairs_of (take i chunks) ++ chunk) ++ pairs_of (drop (i + 1) chunks)
  parts = sym (ap pairs_of (take-append-drop (i + 1) chunks)) ∙ flat_map-append (λ c. c) (take (i + 1) chunks) (drop (i + 1) chunks) ∙ ap (λ done. done ++ pairs_of (drop (i + 1) chunks)) one_more

  module _ (last : Option (Names × Node)) (count size : ℕ) (r : IsRead (pairs_of (take i chunks)) last count size) (fitting : ℕ) (b : BeginsATree (pairs_of (take i chunks) ++ take fitting chunk)) where
    -- the first pair that doesn't fit is in this chunk
    pub misfit_in : fitting < length chunk → ¬ BeginsATree (pairs_of (take i chunks) ++ take (fitting + 1) chunk) → IsMisfit chunks (count + fitting)
    misfit_in l none =
        let at : count + fitting ≡ length (pairs_of (take i chunks)) + fitting = ap (λ n. n + fitting) r.count_is in
        let after : (count + fitting) + 1 ≡ length (pairs_of (take i chunks)) + (fitting + 1) = omega (arith, r.count_is) in
        let before = ap (λ n. take n (pairs_of chunks)) at ∙ ap (take (length (pairs_of (take i chunks)) + fitting)) parts ∙ place_in (pairs_of (take i chunks)) chunk (pairs_of (drop (i + 1) chunks)) fitting (omega (arith, l)) in
        let here = ap (λ n. take n (pairs_of chunks)) after ∙ ap (take (length (pairs_of (take i chunks)) + (fitting + 1))) parts ∙ place_in (pairs_of (take i chunks)) chunk (pairs_of (drop (i + 1) chunks)) (fitting + 1) (omega (arith, l)) in
        inl (record {
          within = omega (arith, l, r.count_is, ap length parts, length-append (pairs_of (take i chunks) ++ chunk) (pairs_of (drop (i + 1) chunks)), length-append (pairs_of (take i chunks)) chunk);
          before = subst BeginsATree (sym before) b;
          here = λ more. none (subst BeginsATree here more);
        })

    -- every pair of this chunk fits
    pub chunk_read : length chunk ≤ fitting → IsRead (pairs_of (take (i + 1) chunks)) (option_or (last_of chunk) last) (count + length chunk) (size + tree_size chunk) × BeginsATree (pairs_of (take (i + 1) chunks))
    chunk_read all =
        let told : IsRead (pairs_of (take i chunks) ++ chunk) (option_or (last_of chunk) last) (count + length chunk) (size + tree_size chunk) = record {
          last_is = ap (option_or (last_of chunk)) r.last_is ∙ sym (last_of-append (pairs_of (take i chunks)) chunk);
          count_is = omega (arith, r.count_is, length-append (pairs_of (take i chunks)) chunk);
          size_is = omega (arith, r.size_is, sum_by-append weight (pairs_of (take i chunks)) chunk);
        } in (
          subst (λ pairs. IsRead pairs (option_or (last_of chunk) last) (count + length chunk) (size + tree_size chunk)) (sym one_more) told,
          subst BeginsATree (ap (λ taken. pairs_of (take i chunks) ++ taken) (take_all fitting chunk all) ∙ sym one_more) b,
        )

-- what stands before a chunk, and the chunk, are in order and no larger than all
pub parts_small : (chunks : List Listing) (i : ℕ) → tree_size (pairs_of (take i chunks)) ≤ tree_size (pairs_of chunks)
parts_small chunks i =
    let whole = sym (ap pairs_of (take-append-drop i chunks)) ∙ flat_map-append (λ c. c) (take i chunks) (drop i chunks) in
    omega (arith, ap tree_size whole, sum_by-append weight (pairs_of (take i chunks)) (pairs_of (drop i chunks)))

pub parts_sorted : (chunks : List Listing) (i : ℕ) (chunk held : Listing) → i < length chunks → chunk ≡ get_or chunks i chunk → held ≡ pairs_of (take i chunks) → IsStrictlySortedBy path_cmp (keys_of (pairs_of chunks)) → IsStrictlySortedBy path_cmp (keys_of (held ++ chunk))
parts_sorted chunks i chunk held within is e s =
    subst (λ before. IsStrictlySortedBy path_cmp (keys_of (before ++ chunk))) (sym e)
    (sorted-front path_cmp (pairs_of (take i chunks) ++ chunk) (pairs_of (drop (i + 1) chunks)) (subst (λ pairs. IsStrictlySortedBy path_cmp (keys_of pairs)) (parts chunks i chunk within is) s))

-- ---- all chunks

module _ (chunks : List Listing) (i : ℕ) (last : Option (Names × Node)) (count size : ℕ) (all : length chunks ≤ i) (r : IsRead (pairs_of (take i chunks)) last count size) (b : BeginsATree (pairs_of (take i chunks))) where
  pub of_a_tree : is_cut chunks ≡ true → AreOfATree chunks
  of_a_tree cut =
      let begins = subst (λ c. BeginsATree (pairs_of c)) (take_all i chunks all) b in
      record { tree = begins-tree (pairs_of chunks) (is_cut-some chunks cut) begins; limits = begins-limits (pairs_of chunks) begins; cut = cut }

  pub miscut : is_cut chunks ≡ false → IsMisfit chunks count
  miscut cut = inr (record { end = r.count_is ∙ ap (λ c. length (pairs_of c)) (take_all i chunks all); pairs = subst (λ c. BeginsATree (pairs_of c)) (take_all i chunks all) b; cut = cut })
