-- Laws of the chunks of a listing, and of what is wrong with chunks.
use Rattle.std.proofs.Common.{◌≡◌, ℕ, zero, suc, ◌+◌, ◌*◌, ◌==◌, ◌<◌, ◌≤◌, true, List, [], ◌∷◌, ◌++◌, length, take, drop, take_all, take-take, get_or, Some, sum_by, sym, refl, ap, subst, ◌∙◌, ◌⊎◌, inl, inr, ⊎_elim, arith, lit<, true≢false}
use Rattle.std.specs.Prelude.{nat_lt}
use Rattle.std.specs.List.{list_all}
use Rattle.std.proofs.lemmas.Bool.{and_from, cases_Bool, eq-eqb, lt-ltb, ltb-true, ltb-false}
use Rattle.std.proofs.lemmas.Grind.{div_ceil_times}
use Rattle.std.proofs.lemmas.List.{length_push, length-take, length-drop, take-append-drop, get_or_append_left}
use Rattle.std.proofs.lemmas.List.Folds.{list_all-append}
use Rattle.std.proofs.lemmas.List.Sums.{sum_by-append, sum_by-cons}
use Rattle.std.proofs.lemmas.Option.{slice_get-get_or}
use Rattle.std.proofs.Math.Seq.{get_or-append_seam, take-add}
use Rattle.osb_tree.specs.Trees.{Listing, IsTree, IsWithinLimits, weight, tree_size}
use Rattle.osb_tree.specs.Chunks.{chunk_at, chunk_count, chunks_below, chunks_of, pairs_of, is_cut, AreOfATree, BeginsATree, IsMisfit, ChunksAreTheListing, ChunksAddUp, ChunksStandByNumber, ChunksGiveTheTree, MisfitIsOne}
use Rattle.osb_tree.proofs.ChunkReadings.{is_cut-push}
use Rattle.osb_tree.proofs.ChunkWalks.{pairs_of-push}
use Rattle.osb_tree.proofs.PairReadings.{front_begins, tree-begins}

-- ---- the chunks of a listing

pairs_of-chunks_below : (i : ℕ) (listing : Listing) → pairs_of (chunks_below i listing) ≡ take (256 * i) listing
pairs_of-chunks_below zero listing = refl
pairs_of-chunks_below (suc i) listing =
    let more : 256 * i + 256 ≡ 256 * suc i = omega arith in
    pairs_of-push (chunks_below i listing) (chunk_at listing i)
    ∙ ap (λ done. done ++ chunk_at listing i) (pairs_of-chunks_below i listing)
    ∙ sym (take-add (256 * i) 256 listing) ∙ ap (λ n. take n listing) more

pub chunks_are_the_listing : ChunksAreTheListing
chunks_are_the_listing listing =
    pairs_of-chunks_below (chunk_count listing) listing
    ∙ take_all (256 * chunk_count listing) listing (omega (arith, div_ceil_times (length listing) 256 (lit< tt)))

weight_of-pairs_of : (chunks : List Listing) → sum_by tree_size chunks ≡ tree_size (pairs_of chunks)
weight_of-pairs_of [] = refl
weight_of-pairs_of (chunk ∷ chunks) =
    omega (arith, sum_by-cons tree_size chunk chunks, sum_by-append weight chunk (pairs_of chunks), weight_of-pairs_of chunks)

pub chunks_add_up : ChunksAddUp
chunks_add_up listing = weight_of-pairs_of (chunks_of listing) ∙ ap tree_size (chunks_are_the_listing listing)

length-chunks_below : (i : ℕ) (listing : Listing) → length (chunks_below i listing) ≡ i
length-chunks_below zero listing = refl
length-chunks_below (suc i) listing = omega (arith, length_push (chunks_below i listing) (chunk_at listing i), length-chunks_below i listing)

lt_or_last : (i n : ℕ) → i < suc n → (i < n) ⊎ (i ≡ n)
lt_or_last i n l = ⊎_elim (λ y. inl (ltb-true i n y)) (λ f. inr (omega (arith, l, ltb-false i n f))) (cases_Bool (nat_lt i n))

get_or-chunks_below : (n : ℕ) (listing : Listing) (i : ℕ) → i < n → get_or (chunks_below n listing) i [] ≡ chunk_at listing i
get_or-chunks_below zero listing i l = absurd (omega (arith, l))
get_or-chunks_below (suc n) listing i l = ⊎_elim (earlier (get_or-chunks_below n listing i)) here (lt_or_last i n l)
  where
    earlier : (i < n → get_or (chunks_below n listing) i [] ≡ chunk_at listing i) → i < n → get_or (chunks_below (suc n) listing) i [] ≡ chunk_at listing i
    earlier there l = get_or_append_left (chunks_below n listing) (chunk_at listing n ∷ []) [] i (omega (arith, l, length-chunks_below n listing)) ∙ there l

    here : i ≡ n → get_or (chunks_below (suc n) listing) i [] ≡ chunk_at listing i
    here e =
        let at : i ≡ length (chunks_below n listing) = omega (arith, e, length-chunks_below n listing) in
        ap (λ k. get_or (chunks_below (suc n) listing) k []) at ∙ get_or-append_seam (chunks_below n listing) (chunk_at listing n) [] [] ∙ ap (chunk_at listing) (sym e)

pub chunks_stand_by_number : ChunksStandByNumber
chunks_stand_by_number listing = (
  length-chunks_below (chunk_count listing) listing,
  λ i l. slice_get-get_or (chunks_of listing) i [] (omega (arith, l, length-chunks_below (chunk_count listing) listing)) ∙ ap Some (get_or-chunks_below (chunk_count listing) listing i l),
)

full_below : (i : ℕ) (listing : Listing) → 256 * i ≤ length listing → list_all (λ chunk. length chunk == 256) (chunks_below i listing) ≡ true
full_below zero listing h = refl
full_below (suc i) listing h =
    let whole : length (chunk_at listing i) ≡ 256 = omega (arith, h, length-take 256 (drop (256 * i) listing), length-drop (256 * i) listing) in
    list_all-append (λ chunk. length chunk == 256) (chunks_below i listing) (chunk_at listing i ∷ [])
    ∙ and_from _ _ (full_below i listing (omega (arith, h))) (and_from _ _ (eq-eqb (length (chunk_at listing i)) 256 whole) refl)

pub is_cut-chunks_of : (listing : Listing) → 0 < length listing → is_cut (chunks_of listing) ≡ true
is_cut-chunks_of listing some = by (chunk_count listing) refl
  where
    by : (n : ℕ) → chunk_count listing ≡ n → is_cut (chunks_below n listing) ≡ true
    by zero e = absurd (omega (arith, some, e, div_ceil_times (length listing) 256 (lit< tt)))
    by (suc n) e =
        let within : 256 * n < length listing = omega (arith, e, div_ceil_times (length listing) 256 (lit< tt)) in
        is_cut-push (chunks_below n listing) (chunk_at listing n)
        ∙ and_from _ _ (lt-ltb 0 (length (chunk_at listing n)) (omega (arith, within, length-take 256 (drop (256 * n) listing), length-drop (256 * n) listing))) (full_below n listing (omega (arith, within)))

some_pairs : (listing : Listing) → IsTree listing → 0 < length listing
some_pairs [] t = absurd (true≢false (sym t.rooted))
some_pairs (pair ∷ pairs) t = omega arith

pub chunks_give_the_tree : ChunksGiveTheTree
chunks_give_the_tree listing t l = record {
  tree = subst IsTree (sym (chunks_are_the_listing listing)) t;
  limits = subst IsWithinLimits (sym (chunks_are_the_listing listing)) l;
  cut = is_cut-chunks_of listing (some_pairs listing t);
}

-- ---- the place of a misfit

begins-take : (pairs : Listing) (n : ℕ) → BeginsATree pairs → BeginsATree (take n pairs)
begins-take pairs n b = front_begins (take n pairs) (drop n pairs) (subst BeginsATree (sym (take-append-drop n pairs)) b)

begins-fewer : (pairs : Listing) (m n : ℕ) → m ≤ n → BeginsATree (take n pairs) → BeginsATree (take m pairs)
begins-fewer pairs m n le b = subst BeginsATree (take-take m n pairs le) (begins-take (take n pairs) m b)

no_misfit : (chunks : List Listing) (place : ℕ) → IsMisfit chunks place → ¬ AreOfATree chunks
no_misfit chunks place m a =
    ⊎_elim (λ first. first.here (begins-take (pairs_of chunks) (place + 1) (tree-begins (pairs_of chunks) a.tree a.limits))) (λ cut. true≢false (sym a.cut ∙ cut.cut)) m

one_place : (chunks : List Listing) (place other : ℕ) → IsMisfit chunks place → IsMisfit chunks other → place ≡ other
one_place chunks place other (inl a) (inl b) =
    let up : ¬ (place < other) = λ l. a.here (begins-fewer (pairs_of chunks) (place + 1) other (omega (arith, l)) b.before) in
    let down : ¬ (other < place) = λ l. b.here (begins-fewer (pairs_of chunks) (other + 1) place (omega (arith, l)) a.before) in
    omega (arith, up, down)
one_place chunks place other (inl a) (inr b) = absurd (a.here (begins-take (pairs_of chunks) (place + 1) b.pairs))
one_place chunks place other (inr a) (inl b) = absurd (b.here (begins-take (pairs_of chunks) (other + 1) a.pairs))
one_place chunks place other (inr a) (inr b) = a.end ∙ sym b.end

pub misfit_is_one : MisfitIsOne
misfit_is_one chunks place m = (no_misfit chunks place m, λ other n. one_place chunks place other m n)
