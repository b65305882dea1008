-- The next path of a listing: that it is the least above, what a range over the map says of it, and how it tells what lies beneath.
use Rattle.std.proofs.Common.{◌≡◌, Bool, true, false, cond, ◌&&◌, ◌||◌, [], ◌∷◌, Some, None, Option, is_some, IsSome, MatchOption, option_copied, Bor, Ordering, Less, Equal, Greater, is_eq, is_lt, is_le, sym, refl, ap, ◌∙◌, ◌⊎◌, inl, inr, ⊎_elim, true≢false}
use Rattle.std.specs.Option.{option_map_or}
use Rattle.std.specs.List.{AllByRecursion}
use Rattle.std.specs.List.Sorted.{IsStrictlySortedBy}
use Rattle.std.specs.Map.{keys_of}
use Rattle.std.specs.BTreeMap.Range.{entries_between}
use Rattle.std.specs.declared.ops.Bound.TheVariants.{Excluded, Unbounded}
use Rattle.std.proofs.lemmas.Bool.{cond-true, or_cases, false_from_ne_true}
use Rattle.std.proofs.lemmas.Cmp.{tied_itself}
use Rattle.std.proofs.lemmas.Map.Keys.{sorted_head, sorted_tail}
use Rattle.osb_tree.specs.Paths.{Names, is_beneath, path_cmp}
use Rattle.osb_tree.specs.Trees.{Listing, IsTree, node_at, has_beneath, next_after}
use Rattle.osb_tree.specs.Laws.{IsLeastAbove, NoneIsAbove, NextIsLeastAbove}
use Rattle.osb_tree.specs.declared.nodes.Node.{Node}
use Rattle.osb_tree.proofs.Entries.{key_from_lookup}
use Rattle.osb_tree.proofs.PathLaws.{is_at-path_cmp}
use Rattle.osb_tree.proofs.PathOrder.{path_cmp_total, path_cmp_exact, path_cmp-from_is_beneath, is_beneath-between}

-- the path of the first entry
abbrev pub first_path : Listing → Option Names
first_path [] = None
first_path (entry ∷ entries) = Some entry.0

-- the entries above a path
abbrev pub above : Names → Listing → Listing
above after listing = entries_between path_cmp (Excluded after) Unbounded listing

pub next_after-first_path : (listing : Listing) (after : Names) → next_after listing after ≡ first_path (above after listing)
next_after-first_path [] after = refl
next_after-first_path (entry ∷ entries) after =
    elim (is_lt (path_cmp after entry.0)) as (λ b. cond b (Some entry.0) (next_after entries after) ≡ first_path (cond (b && true) (entry ∷ above after entries) (above after entries))) [
      | true ↦ refl
      | false ↦ next_after-first_path entries after
    ]

-- where the listing is what a map holds, and the rest is what its range gives
pub next_after-from_range : (listing held rest : Listing) (after : Names) → held ≡ listing → rest ≡ above after held → next_after listing after ≡ first_path rest
next_after-from_range listing held rest after e r = rw (← e, r) (next_after-first_path held after)

-- ---- the least above

-- what is found is the first entry's, or is found among the others
pub found-cons : (entry : Names × Node) (entries : Listing) (q : Names) → IsSome (node_at (entry ∷ entries) q) → (q ≡ entry.0) ⊎ IsSome (node_at entries q)
found-cons entry entries q found = by (path_cmp q entry.0) refl found
  where
    by : (r : Ordering) → path_cmp q entry.0 ≡ r → IsSome (cond (is_eq r) (Some entry.1) (node_at entries q)) → (q ≡ entry.0) ⊎ IsSome (node_at entries q)
    by Less p f = inr f
    by Equal p f = inl (path_cmp_exact q entry.0 p)
    by Greater p f = inr f

found-tail : (entry : Names × Node) (entries : Listing) (q : Names) → IsSome (node_at entries q) → IsSome (node_at (entry ∷ entries) q)
found-tail entry entries q found = by (is_eq (path_cmp q entry.0))
  where
    by : (b : Bool) → IsSome (cond b (Some entry.1) (node_at entries q))
    by true = refl
    by false = found

least-head : (entry : Names × Node) (entries : Listing) (after : Names) → AllByRecursion (λ q. path_cmp entry.0 q ≡ Less) (keys_of entries) → is_lt (path_cmp after entry.0) ≡ true → IsLeastAbove (entry ∷ entries) after entry.0
least-head entry entries after more l = record {
  there = ap is_some (cond-true _ _ _ (is_at-path_cmp entry.0));
  above = l;
  least = λ q found _. ⊎_elim
      (λ e. ap (λ k. is_le (path_cmp entry.0 k)) e ∙ ap is_le (tied_itself path_cmp_total entry.0))
      (λ f. ap is_le (key_from_lookup path_cmp_exact q (λ k. path_cmp entry.0 k ≡ Less) entries f more))
      (found-cons entry entries q found);
}

-- where the first path is not above, it changes nothing
least-tail : (entry : Names × Node) (entries : Listing) (after : Names) → is_lt (path_cmp after entry.0) ≡ false → (next : Option Names)
    → MatchOption next (NoneIsAbove entries after) (IsLeastAbove entries after) → MatchOption next (NoneIsAbove (entry ∷ entries) after) (IsLeastAbove (entry ∷ entries) after)
least-tail entry entries after n None h = λ q found. ⊎_elim (λ e. ap (λ k. is_lt (path_cmp after k)) e ∙ n) (λ f. h q f) (found-cons entry entries q found)
least-tail entry entries after n (Some next) h = record {
  there = found-tail entry entries next h.there;
  above = h.above;
  least = λ q found l. ⊎_elim
      (λ e. absurd (true≢false (sym l ∙ ap (λ k. is_lt (path_cmp after k)) e ∙ n)))
      (λ f. h.least q f l)
      (found-cons entry entries q found);
}

next_after-least : (listing : Listing) (after : Names) → IsStrictlySortedBy path_cmp (keys_of listing) → MatchOption (next_after listing after) (NoneIsAbove listing after) (IsLeastAbove listing after)
next_after-least [] after s = λ q found. absurd (true≢false (sym found))
next_after-least (entry ∷ entries) after s = by (is_lt (path_cmp after entry.0)) refl (next_after-least entries after (sorted_tail path_cmp entry.0 (keys_of entries) s))
  where
    by : (b : Bool) → is_lt (path_cmp after entry.0) ≡ b → MatchOption (next_after entries after) (NoneIsAbove entries after) (IsLeastAbove entries after)
        → MatchOption (cond b (Some entry.0) (next_after entries after)) (NoneIsAbove (entry ∷ entries) after) (IsLeastAbove (entry ∷ entries) after)
    by true l later = least-head entry entries after (sorted_head path_cmp entry.0 (keys_of entries) s) l
    by false n later = least-tail entry entries after n (next_after entries after) later

pub next_after-is_least_above : NextIsLeastAbove
next_after-is_least_above listing after t = next_after-least listing after t.ordered

-- ---- what lies beneath

pub less_is : (r : Ordering) → is_lt r ≡ true → r ≡ Less
less_is Less e = refl
less_is Equal e = absurd (true≢false (sym e))
less_is Greater e = absurd (true≢false (sym e))

or_absorbs : (a b : Bool) → (b ≡ true → a ≡ true) → (a || b) ≡ a
or_absorbs true b h = refl
or_absorbs false true h = sym (h refl)
or_absorbs false false h = refl

-- where an entry follows a path, and something after the entry lies beneath the path, so does the entry
beneath_from_later : (path next : Names) (entries : Listing) → path_cmp path next ≡ Less → AllByRecursion (λ q. path_cmp next q ≡ Less) (keys_of entries) → has_beneath entries path ≡ true → is_beneath path next ≡ true
beneath_from_later path next [] l more h = absurd (true≢false (sym h))
beneath_from_later path next (entry ∷ entries) l more h =
    ⊎_elim (λ y. is_beneath-between path next entry.0 l more.0 y) (λ later. beneath_from_later path next entries l more.1 later) (or_cases (is_beneath path entry.0) (has_beneath entries path) h)

-- something lies beneath a path where the next one does, since whatever lies beneath a path follows it directly
pub has_beneath-next_after : (listing : Listing) (path : Names) → IsStrictlySortedBy path_cmp (keys_of listing) → has_beneath listing path ≡ option_map_or (is_beneath path) (next_after listing path) false
has_beneath-next_after [] path s = refl
has_beneath-next_after (entry ∷ entries) path s = by (is_lt (path_cmp path entry.0)) refl (has_beneath-next_after entries path (sorted_tail path_cmp entry.0 (keys_of entries) s))
  where
    by : (b : Bool) → is_lt (path_cmp path entry.0) ≡ b → has_beneath entries path ≡ option_map_or (is_beneath path) (next_after entries path) false
        → has_beneath (entry ∷ entries) path ≡ option_map_or (is_beneath path) (cond b (Some entry.0) (next_after entries path)) false
    by true l later = or_absorbs (is_beneath path entry.0) (has_beneath entries path) (beneath_from_later path entry.0 entries (less_is _ l) (sorted_head path_cmp entry.0 (keys_of entries) s))
    by false n later = rw (false_from_ne_true (is_beneath path entry.0) (λ y. true≢false (sym (ap is_lt (path_cmp-from_is_beneath path entry.0 y)) ∙ n))) later

-- the next path is tested
pub has_beneath-tested : (listing : Listing) (path : Names) (next : Option (Bor Names)) (tested : Bool) → IsTree listing → option_copied next ≡ next_after listing path → MatchOption next (tested ≡ false) (λ n. tested ≡ is_beneath path n.now) → tested ≡ has_beneath listing path
has_beneath-tested listing path None tested t e h = h ∙ ap (λ o. option_map_or (is_beneath path) o false) e ∙ sym (has_beneath-next_after listing path t.ordered)
has_beneath-tested listing path (Some next) tested t e h = h ∙ ap (λ o. option_map_or (is_beneath path) o false) e ∙ sym (has_beneath-next_after listing path t.ordered)
