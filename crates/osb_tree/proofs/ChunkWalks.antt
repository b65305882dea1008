-- Walks over a listing, chunk by chunk, and maps that are filled in order.
use Rattle.std.proofs.Common.{◌≡◌, ℕ, ◌+◌, ◌*◌, ◌<◌, ◌≤◌, List, [], ◌∷◌, ◌++◌, length, take, drop, take_all, get_or, Option, Some, None, Result, Ok, Err, OnOk, Bor, sym, refl, ap, subst, ◌∙◌, ◌⊎◌, ⊎_elim, append_assoc, add-one, arith, rules}
use Rattle.std.specs.List.Sorted.{IsStrictlySortedBy}
use Rattle.std.specs.Map.{keys_of}
use Rattle.std.specs.Map.Iter.{TakesFirst, deref_pair}
use Rattle.std.specs.BTreeMap.{insert_entry}
use Rattle.std.proofs.lemmas.List.{append-nil, take_more, take-append-drop, drop-drop, drop_all}
use Rattle.std.proofs.lemmas.List.Concat.{flat_map-append}
use Rattle.std.proofs.lemmas.List.Sums.{sum_by-take-drop}
use Rattle.std.proofs.Math.Seq.{take-append_seam, drop-append_seam}
use Rattle.osb_tree.specs.Paths.{Names, path_cmp}
use Rattle.osb_tree.specs.Trees.{Listing, weight, tree_size}
use Rattle.osb_tree.specs.Chunks.{chunk_at, chunks_below, pairs_of}
use Rattle.osb_tree.specs.declared.nodes.Node.{Node}
use Rattle.osb_tree.proofs.Fronts.{sorted-front, below_last, insert_entry-above}
use Rattle.osb_tree.proofs.PathOrder.{path_cmp_total}

pub pairs_of-push : (chunks : List Listing) (chunk : Listing) → pairs_of (chunks ++ chunk ∷ []) ≡ pairs_of chunks ++ chunk
pairs_of-push chunks chunk = flat_map-append (λ c. c) chunks (chunk ∷ []) ∙ ap (λ rest. pairs_of chunks ++ rest) (append-nil chunk)

-- ---- a walk over a listing

-- what a walk has taken, where it stopped at 256 pairs or at the end
pub next_chunk : (pairs rest all : Listing) → pairs ++ rest ≡ all → length pairs ≤ 256 → (256 ≤ length pairs) ⊎ (rest ≡ []) → (pairs ≡ take 256 all) × (rest ≡ drop 256 all)
next_chunk pairs rest all e few stopped = ⊎_elim full ended stopped
  where
    full : 256 ≤ length pairs → (pairs ≡ take 256 all) × (rest ≡ drop 256 all)
    full many =
        let count : 256 ≡ length pairs = omega (arith, few, many) in (
          sym (ap (take 256) (sym e) ∙ ap (λ n. take n (pairs ++ rest)) count ∙ take-append_seam pairs rest),
          sym (ap (drop 256) (sym e) ∙ ap (λ n. drop n (pairs ++ rest)) count ∙ drop-append_seam pairs rest),
        )

    ended : rest ≡ [] → (pairs ≡ take 256 all) × (rest ≡ drop 256 all)
    ended none =
        let whole : all ≡ pairs = sym e ∙ ap (λ more. pairs ++ more) none ∙ append-nil pairs in
        (sym (ap (take 256) whole ∙ take_all 256 pairs few), none ∙ sym (ap (drop 256) whole ∙ drop_all 256 pairs few))

pub on_ok : {X E : Type 0} (result : Result X E) (P : Type 0) → P → OnOk result P
on_ok (Ok x) P p = search rules
on_ok (Err e) P p = search rules

pub one_dropped : (before after : Listing) (taken : Option (Bor Names × Bor Node)) → TakesFirst deref_pair before taken after → after ≡ drop 1 before
one_dropped before after None h = h.1 ∙ sym (ap (drop 1) h.0)
one_dropped before after (Some pair) h = sym (ap (drop 1) h)

pub rest_small : (listing rest : Listing) (n : ℕ) → rest ≡ drop n listing → tree_size listing ≤ 268435456 → tree_size rest ≤ 268435456
rest_small listing rest n e small = omega (arith, ap tree_size e, small, sum_by-take-drop weight listing n)

pub chunks_below-more : (i : ℕ) (listing : Listing) → chunks_below (i + 1) listing ≡ chunks_below i listing ++ chunk_at listing i ∷ []
chunks_below-more i listing = rw add-one refl

pub next_rest : (i : ℕ) (listing : Listing) → drop 256 (drop (256 * i) listing) ≡ drop (256 * (i + 1)) listing
next_rest i listing =
    let more : 256 * i + 256 ≡ 256 * (i + 1) = omega arith in
    drop-drop 256 (256 * i) listing ∙ ap (λ n. drop n listing) more

-- ---- a map that is filled in order

pub added_behind : (held pairs now after : Listing) (i : ℕ) (pair : Names × Node) → IsStrictlySortedBy path_cmp (keys_of (held ++ pairs)) → i < length pairs → pair ≡ get_or pairs i pair → now ≡ held ++ take i pairs → after ≡ insert_entry path_cmp now pair.0 pair.1 → after ≡ held ++ take (i + 1) pairs
added_behind held pairs now after i pair s within is e put =
    let taken = take_more pairs i pair within ∙ ap (λ next. take i pairs ++ next ∷ []) (sym is) in
    let more = ap (λ some. held ++ some) taken ∙ sym (append_assoc held (take i pairs) (pair ∷ [])) in
    let whole = ap (λ some. held ++ some) (sym (take-append-drop (i + 1) pairs)) ∙ sym (append_assoc held (take (i + 1) pairs) (drop (i + 1) pairs)) ∙ ap (λ some. some ++ drop (i + 1) pairs) more in
    let sorted = sorted-front path_cmp ((held ++ take i pairs) ++ pair ∷ []) (drop (i + 1) pairs) (subst (λ all. IsStrictlySortedBy path_cmp (keys_of all)) whole s) in
    put ∙ ap (λ all. insert_entry path_cmp all pair.0 pair.1) e
    ∙ insert_entry-above path_cmp_total (held ++ take i pairs) pair.0 pair.1 (below_last path_cmp (held ++ take i pairs) pair sorted) ∙ sym more
