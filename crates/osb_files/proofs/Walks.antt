-- A walk over what lies beneath a path, in the order of a listing.
use Rattle.std.proofs.Common.{◌≡◌, ◌≤◌, ◌++◌, Bool, true, false, cond, ◌&&◌, List, [], ◌∷◌, length, drop, map, Option, Some, None, is_some, MatchOption, Ordering, Less, Equal, Greater, is_lt, is_le, sym, refl, ap, subst, ◌∙◌, ⊎_elim, true≢false, arith}
use Rattle.std.specs.Ordering.{ordering_reverse}
use Rattle.std.specs.List.{filter, AllByRecursion}
use Rattle.std.specs.List.Sorted.{IsStrictlySortedBy}
use Rattle.std.specs.Map.{keys_of, lookup, values_of}
use Rattle.std.proofs.lemmas.Bool.{and_right, cases_lt, cond-true, false_from_ne_true}
use Rattle.std.proofs.lemmas.Cmp.{tied_itself}
use Rattle.std.proofs.lemmas.Map.Keys.{sorted_head, sorted_tail}
use Rattle.osb_tree.specs.Paths.{Names, is_beneath, path_cmp}
use Rattle.osb_tree.specs.Nodes.{InRange}
use Rattle.osb_tree.specs.Trees.{Listing, IsTree, node_at, next_after}
use Rattle.osb_tree.specs.declared.nodes.Node.{Node}
use Rattle.osb_tree.proofs.Entries.{key_from_lookup}
use Rattle.osb_tree.proofs.PathLaws.{is_at-path_cmp}
use Rattle.osb_tree.proofs.PathOrder.{path_cmp_total, path_cmp_exact, path_cmp-from_is_beneath, is_beneath-between, is_beneath-no_longer}
use Rattle.osb_stages.specs.Rules.{Effect, and_then, in_order}
use Rattle.osb_files.specs.Copy.{copied, moved, moved_entry, left_beneath, IsStep}

less_is : (r : Ordering) → is_lt r ≡ true → r ≡ Less
less_is Less e = refl
less_is Equal e = absurd (true≢false (sym e))
less_is Greater e = absurd (true≢false (sym e))

-- ---- what is left, from the source on

lt-and_beneath : (source q : Names) → (is_lt (path_cmp source q) && is_beneath source q) ≡ is_beneath source q
lt-and_beneath source q = by (is_beneath source q) refl
  where
    by : (b : Bool) → is_beneath source q ≡ b → (is_lt (path_cmp source q) && b) ≡ b
    by true e = rw (path_cmp-from_is_beneath source q e) refl
    by false e = and_right (is_lt (path_cmp source q)) false refl

-- at the source all is left
pub left_beneath-source : (source : Names) (listing : Listing) → left_beneath source source listing ≡ filter (λ entry. is_beneath source entry.0) listing
left_beneath-source source [] = refl
left_beneath-source source (entry ∷ entries) =
    rw (lt-and_beneath source entry.0, left_beneath-source source entries) refl

-- ---- what is left after some entries

left_beneath-above : (source a b : Names) (entries : Listing) → path_cmp a b ≡ Less → AllByRecursion (λ q. path_cmp b q ≡ Less) (keys_of entries) → left_beneath source a entries ≡ left_beneath source b entries
left_beneath-above source a b [] l more = refl
left_beneath-above source a b (entry ∷ entries) l more =
    let there : path_cmp b entry.0 ≡ Less = more.0 in
    let here : path_cmp a entry.0 ≡ Less = path_cmp_total.trans a b entry.0 l there in
    rw (here, there, left_beneath-above source a b entries l more.1) refl

-- whatever lies beneath a path follows it directly
left_beneath-none : (source at next : Names) (entries : Listing) → path_cmp source next ≡ Less → is_beneath source next ≡ false → AllByRecursion (λ q. path_cmp next q ≡ Less) (keys_of entries) → left_beneath source at entries ≡ []
left_beneath-none source at next [] l n more = refl
left_beneath-none source at next (entry ∷ entries) l n more =
    let apart : is_beneath source entry.0 ≡ false = false_from_ne_true _ (λ y. true≢false (sym (is_beneath-between source next entry.0 l more.0 y) ∙ n)) in
    let none : (is_lt (path_cmp at entry.0) && is_beneath source entry.0) ≡ false = and_right _ _ apart in
    rw none (left_beneath-none source at next entries l n more.1)

-- ---- a step

less_after : (source at next : Names) → is_le (path_cmp source at) ≡ true → path_cmp at next ≡ Less → path_cmp source next ≡ Less
less_after source at next le l = by (path_cmp source at) refl le
  where
    by : (r : Ordering) → path_cmp source at ≡ r → is_le r ≡ true → path_cmp source next ≡ Less
    by Less p e = path_cmp_total.trans source at next p l
    by Equal p e = rw (path_cmp_exact source at p) l
    by Greater p e = absurd (true≢false (sym e))

record Next (source at : Names) (listing : Listing) (next : Names) : Type 0 where
  node : Node
  found : node_at listing next ≡ Some node
  left : left_beneath source at listing ≡ cond (is_beneath source next) ((next, node) ∷ left_beneath source next listing) []
  above : path_cmp at next ≡ Less

left_beneath-first : (source at : Names) (entry : Names × Node) (entries : Listing) → path_cmp source entry.0 ≡ Less → path_cmp at entry.0 ≡ Less → AllByRecursion (λ q. path_cmp entry.0 q ≡ Less) (keys_of entries)
    → left_beneath source at (entry ∷ entries) ≡ cond (is_beneath source entry.0) ((entry.0, entry.1) ∷ left_beneath source entry.0 (entry ∷ entries)) []
left_beneath-first source at entry entries k l more = by (is_beneath source entry.0) refl
  where
    by : (b : Bool) → is_beneath source entry.0 ≡ b → left_beneath source at (entry ∷ entries) ≡ cond b ((entry.0, entry.1) ∷ left_beneath source entry.0 (entry ∷ entries)) []
    by true y = rw (l, y, tied_itself path_cmp_total entry.0, left_beneath-above source at entry.0 entries l more) refl
    by false n = rw (l, n) (left_beneath-none source at entry.0 entries k n more)

next-tail : (source at : Names) (entry : Names × Node) (entries : Listing) → is_lt (path_cmp at entry.0) ≡ false → AllByRecursion (λ q. path_cmp entry.0 q ≡ Less) (keys_of entries) → (next : Option Names)
    → MatchOption next (left_beneath source at entries ≡ []) (Next source at entries) → MatchOption next (left_beneath source at (entry ∷ entries) ≡ []) (Next source at (entry ∷ entries))
next-tail source at entry entries n more None h = rw n h
next-tail source at entry entries n more (Some next) h =
    let later : path_cmp entry.0 next ≡ Less = key_from_lookup path_cmp_exact next (λ q. path_cmp entry.0 q ≡ Less) entries (ap is_some h.found) more in
    let before : path_cmp next entry.0 ≡ Greater = path_cmp_total.antisymm next entry.0 ∙ ap ordering_reverse later in
    record { node = h.node; found = rw before h.found; left = rw (n, before) h.left; above = h.above }

next_after-next : (source at : Names) → is_le (path_cmp source at) ≡ true → (listing : Listing) → IsStrictlySortedBy path_cmp (keys_of listing) → MatchOption (next_after listing at) (left_beneath source at listing ≡ []) (Next source at listing)
next_after-next source at le [] s = refl
next_after-next source at le (entry ∷ entries) s = by (is_lt (path_cmp at entry.0)) refl (next_after-next source at le entries (sorted_tail path_cmp entry.0 (keys_of entries) s))
  where
    by : (b : Bool) → is_lt (path_cmp at entry.0) ≡ b → MatchOption (next_after entries at) (left_beneath source at entries ≡ []) (Next source at entries)
        → MatchOption (cond b (Some entry.0) (next_after entries at)) (left_beneath source at (entry ∷ entries) ≡ []) (Next source at (entry ∷ entries))
    by true l later =
        let less = less_is _ l in
        record {
          node = entry.1;
          found = cond-true _ _ _ (is_at-path_cmp entry.0);
          left = left_beneath-first source at entry entries (less_after source at entry.0 le less) less (sorted_head path_cmp entry.0 (keys_of entries) s);
          above = less;
        }
    by false n later = next-tail source at entry entries n (sorted_head path_cmp entry.0 (keys_of entries) s) (next_after entries at) later

-- ---- what stands in a tree is in range

value_from_lookup : {K X : Type 0} (P : X → Type 0) (test : K → Bool) (es : List (K × X)) (x : X) → AllByRecursion P (values_of es) → lookup test es ≡ Some x → P x
value_from_lookup P test [] x all e = absurd (true≢false (sym (ap is_some e)))
value_from_lookup P test (e ∷ es) x all f = by (test e.0) f (value_from_lookup P test es x all.1)
  where
    by : (b : Bool) → cond b (Some e.1) (lookup test es) ≡ Some x → (lookup test es ≡ Some x → P x) → P x
    by true g later =
        let same : e.1 ≡ x = cc in
        subst P same all.0
    by false g later = later g

pub InRange-node_at : (listing : Listing) (path : Names) (node : Node) → IsTree listing → Some node ≡ node_at listing path → InRange node
InRange-node_at listing path node tree found = value_from_lookup InRange _ listing node tree.nodes (sym found)

-- ---- the next path beneath

next_of : (source at next : Names) (from : Listing) → IsTree from → is_le (path_cmp source at) ≡ true → Some next ≡ next_after from at → Next source at from next
next_of source at next from tree le e =
    subst (λ (o : Option Names). MatchOption o (left_beneath source at from ≡ []) (Next source at from)) (sym e) (next_after-next source at le from tree.ordered)

pub IsStep-next : (source at next : Names) (from : Listing) (node : Node) → IsTree from → is_le (path_cmp source at) ≡ true → Some next ≡ next_after from at → Some node ≡ node_at from next → is_beneath source next ≡ true → IsStep source at from next node
IsStep-next source at next from node tree le e found y =
    let n = next_of source at next from tree le e in
    let same : n.node ≡ node = cc (n.found, found) in
    record {
      first = rw (y, same) at n.left;
      beneath = y;
      in_range = InRange-node_at from next node tree found;
    }

pub left_beneath-end : (source at next : Names) (from : Listing) → IsTree from → is_le (path_cmp source at) ≡ true → Some next ≡ next_after from at → is_beneath source next ≡ false → left_beneath source at from ≡ []
left_beneath-end source at next from tree le e n =
    rw n at (next_of source at next from tree le e).left

-- something stands at the next path
pub node_at-next : {P : Type 0} (source at next : Names) (from : Listing) → IsTree from → is_le (path_cmp source at) ≡ true → Some next ≡ next_after from at → None ≡ node_at from next → P
node_at-next source at next from tree le e none =
    absurd (true≢false (sym (ap is_some (none ∙ (next_of source at next from tree le e).found))))

-- where no path follows, nothing is left
pub left_beneath-over : (source at : Names) (from : Listing) → None ≡ next_after from at → left_beneath source at from ≡ []
left_beneath-over source at [] e = refl
left_beneath-over source at (entry ∷ entries) e = by (is_lt (path_cmp at entry.0)) e (left_beneath-over source at entries)
  where
    by : (b : Bool) → None ≡ cond b (Some entry.0) (next_after entries at) → (None ≡ next_after entries at → left_beneath source at entries ≡ [])
        → cond (b && is_beneath source entry.0) (entry ∷ left_beneath source at entries) (left_beneath source at entries) ≡ []
    by true e later = absurd (true≢false (sym (ap is_some e)))
    by false e later = later e

-- a path, and what lies beneath it, is no less than the path
pub is_le-itself : (path : Names) → is_le (path_cmp path path) ≡ true
is_le-itself path = ap is_le (tied_itself path_cmp_total path)

pub is_le-from_is_beneath : (p q : Names) → is_beneath p q ≡ true → is_le (path_cmp p q) ≡ true
is_le-from_is_beneath p q y = ap is_le (path_cmp-from_is_beneath p q y)

pub length-from_is_beneath : (p q : Names) → is_beneath p q ≡ true → length p ≤ length q
length-from_is_beneath p q y =
    ⊎_elim (λ g. absurd (true≢false (sym y ∙ is_beneath-no_longer p q (omega arith)))) (λ l. l) (cases_lt (length q) (length p))

-- ---- the walk of a copy

abbrev pub copied_left : Names → Names → Names → Listing → Listing → Effect
copied_left source destination at from listing = in_order copied (map (moved_entry source destination) (left_beneath source at from)) listing

pub copied_left-source : (source destination : Names) (from listing : Listing) → copied_left source destination source from listing ≡ in_order copied (moved source destination from) listing
copied_left-source source destination from listing =
    ap (λ (entries : Listing). in_order copied (map (moved_entry source destination) entries) listing) (left_beneath-source source from)

pub copied_left-step : (source destination at next : Names) (node : Node) (from listing : Listing) (made : Effect) → IsStep source at from next node → copied (destination ++ drop (length source) next, node) listing ≡ made
    → copied_left source destination at from listing ≡ and_then (copied_left source destination next from) made
copied_left-step source destination at next node from listing made step e =
    ap (λ (entries : Listing). in_order copied (map (moved_entry source destination) entries) listing) step.first ∙ ap (and_then (copied_left source destination next from)) e
