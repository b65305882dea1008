-- Attributes given to what stands at some paths of a listing.
use Rattle.std.proofs.Common.{◌≡◌, ℕ, ◌+◌, ◌<◌, ◌≤◌, suc, List, [], ◌∷◌, length, Bool, true, false, ◌&&◌, ◌||◌, cond, Option, Some, None, is_some, IsSome, MatchOption, IfSome, option_copied, Bor, Ordering, Less, Equal, Greater, is_eq, is_lt, is_le, ◌⊎◌, ⊎_elim, refl, sym, ◌∙◌, ap, subst, le-ltb, true≢false, arith}
use Rattle.std.specs.Prelude.{⊤}
use Rattle.std.specs.Ordering.{match_ordering}
use Rattle.std.specs.List.{AllByRecursion}
use Rattle.std.specs.List.Sorted.{IsStrictlySortedBy}
use Rattle.std.specs.Map.{keys_of}
use Rattle.std.specs.BTreeMap.{is_at}
use Rattle.std.specs.Cmp.Lexicographic.{lists_ties, texts_ties}
use Rattle.std.proofs.lemmas.Bool.{cond-true, false_from_ne_true, and_parts, or_from}
use Rattle.std.proofs.lemmas.Map.{lookup-none}
use Rattle.std.proofs.lemmas.Map.Entries.{none_below_head}
use Rattle.std.proofs.lemmas.Map.Keys.{sorted_head, sorted_tail}
use Rattle.osb_tree.specs.Paths.{Names, IsPath, name_cmp, path_cmp, is_beneath}
use Rattle.osb_tree.specs.Nodes.{InRange, is_directory, content_length}
use Rattle.osb_tree.specs.Trees.{Listing, IsTree, IsWithinLimits, node_at, next_after, put_at, put_fault, takes_over, is_too_large, weight, tree_size}
use Rattle.osb_tree.specs.Laws.{is_same_path, share_at, IsLeastAbove, NoneIsAbove}
use Rattle.osb_tree.specs.declared.nodes.Node.{Node}
use Rattle.osb_tree.specs.declared.nodes.Node.TheVariants.{Dir, File, Link}
use Rattle.osb_tree.specs.declared.faults.PutFault.{PutFault}
use Rattle.osb_tree.proofs.Entries.{key_from_lookup}
use Rattle.osb_tree.proofs.PathLaws.{is_at-path_cmp}
use Rattle.osb_tree.proofs.PathOrder.{path_cmp_total, path_cmp_exact, path_cmp-from_is_beneath, is_beneath-between}
use Rattle.osb_tree.proofs.NextPaths.{next_after-is_least_above}
use Rattle.osb_tree.proofs.Puts.{IsTree-put_at, length-put_at, tree_size-put_at}
use Rattle.osb_stages.proofs.Ancestors.{parent_rule-standing}
use Rattle.osb_stages.proofs.Placing.{parent_fault-none}
use Rattle.osb_stages.proofs.Standing.{takes_over-no_directory}
use Rattle.osb_files.specs.Attributes.{with_attributes, is_covered, with_attributes_at}
use Rattle.osb_files.specs.declared.attributes.Attributes.{Attributes}

-- ---- what stands in a listing

found-head : (entry : Names × Node) (entries : Listing) → IsSome (node_at (entry ∷ entries) entry.0)
found-head entry entries = ap is_some (cond-true _ _ _ (is_at-path_cmp entry.0))

found-tail : (entry : Names × Node) (entries : Listing) (q : Names) → IsSome (node_at entries q) → IsSome (node_at (entry ∷ entries) q)
found-tail entry entries q found = by (is_eq (path_cmp q entry.0))
  where
    by : (b : Bool) → IsSome (cond b (Some entry.1) (node_at entries q))
    by true = refl
    by false = found

-- nothing stands where a look finds nothing
pub none-found : (found : Option (Bor Node)) (is : Option Node) → option_copied found ≡ is → false ≡ is_some found → is ≡ None
none-found None is e none = sym e
none-found (Some node) is e none = absurd (true≢false (sym none))

-- what holds of whatever stands there holds of each path
every-path : (P : Names → Type 0) (listing : Listing) → ((q : Names) → IsSome (node_at listing q) → P q) → AllByRecursion P (keys_of listing)
every-path P [] h = tt
every-path P (entry ∷ entries) h = (h entry.0 (found-head entry entries), every-path P entries (λ q found. h q (found-tail entry entries q found)))

every-key : (P Q : Names → Type 0) (paths : List Names) → ((q : Names) → P q → Q q) → AllByRecursion P paths → AllByRecursion Q paths
every-key P Q [] h all = tt
every-key P Q (path ∷ paths) h all = (h path all.0, every-key P Q paths h all.1)

-- ---- attributes given at paths

at-same : (t u : Names → Bool) (given : Attributes) (listing : Listing) → AllByRecursion (λ q. t q ≡ u q) (keys_of listing) → with_attributes_at t given listing ≡ with_attributes_at u given listing
at-same t u given [] h = refl
at-same t u given (entry ∷ entries) h =
    ap (λ (b : Bool). (entry.0, cond b (with_attributes given entry.1) entry.1) ∷ with_attributes_at t given entries) h.0
    ∙ ap (λ (later : Listing). (entry.0, cond (u entry.0) (with_attributes given entry.1) entry.1) ∷ later) (at-same t u given entries h.1)

at-none : (t : Names → Bool) (given : Attributes) (listing : Listing) → AllByRecursion (λ q. t q ≡ false) (keys_of listing) → with_attributes_at t given listing ≡ listing
at-none t given [] h = refl
at-none t given (entry ∷ entries) h =
    ap (λ (b : Bool). (entry.0, cond b (with_attributes given entry.1) entry.1) ∷ with_attributes_at t given entries) h.0
    ∙ ap (λ (later : Listing). entry ∷ later) (at-none t given entries h.1)

once : (a b : Bool) (given : Attributes) (node : Node) → (a ≡ true → b ≡ false) → cond b (with_attributes given (cond a (with_attributes given node) node)) (cond a (with_attributes given node) node) ≡ cond (a || b) (with_attributes given node) node
once true b given node h = rw (h refl) refl
once false b given node h = refl

-- at some paths, and then at others
at-twice : (t u : Names → Bool) (given : Attributes) (listing : Listing) → ((q : Names) → u q ≡ true → t q ≡ false) → with_attributes_at t given (with_attributes_at u given listing) ≡ with_attributes_at (λ q. u q || t q) given listing
at-twice t u given [] apart = refl
at-twice t u given (entry ∷ entries) apart =
    ap (λ (node : Node). (entry.0, node) ∷ with_attributes_at t given (with_attributes_at u given entries)) (once (u entry.0) (t entry.0) given entry.1 (apart entry.0))
    ∙ ap (λ (later : Listing). (entry.0, cond (u entry.0 || t entry.0) (with_attributes given entry.1) entry.1) ∷ later) (at-twice t u given entries apart)

-- ---- attributes given by a put

same-by_order : (path q : Names) (r : Ordering) → path_cmp path q ≡ r → is_same_path path q ≡ is_eq r
same-by_order path q r e = lists_ties name_cmp texts_ties path q ∙ ap is_eq e

pub at-put : (listing : Listing) (path : Names) (given : Attributes) (node : Node) → IsStrictlySortedBy path_cmp (keys_of listing) → node_at listing path ≡ Some node → put_at listing path (with_attributes given node) ≡ with_attributes_at (is_same_path path) given listing
at-put [] path given node s e = absurd (true≢false (ap is_some (sym e)))
at-put (entry ∷ entries) path given node s e = by (path_cmp path entry.0) refl e (at-put entries path given node (sorted_tail path_cmp entry.0 (keys_of entries) s))
  where
    head : (r : Ordering) → path_cmp path entry.0 ≡ r → (entry.0, cond (is_eq r) (with_attributes given entry.1) entry.1) ∷ with_attributes_at (is_same_path path) given entries ≡ with_attributes_at (is_same_path path) given (entry ∷ entries)
    head r p = ap (λ (b : Bool). (entry.0, cond b (with_attributes given entry.1) entry.1) ∷ with_attributes_at (is_same_path path) given entries) (sym (same-by_order path entry.0 r p))

    by : (r : Ordering) → path_cmp path entry.0 ≡ r → cond (is_eq r) (Some entry.1) (node_at entries path) ≡ Some node
        → (node_at entries path ≡ Some node → put_at entries path (with_attributes given node) ≡ with_attributes_at (is_same_path path) given entries)
        → match_ordering r ((path, with_attributes given node) ∷ entry ∷ entries) ((entry.0, with_attributes given node) ∷ entries) (entry ∷ put_at entries path (with_attributes given node)) ≡ with_attributes_at (is_same_path path) given (entry ∷ entries)
    by Less p f later = absurd (true≢false (ap is_some (sym f ∙ lookup-none (is_at (path_cmp path)) entries (none_below_head path_cmp_total path entry entries s p).1)))
    by Equal p f later =
        let same : entry.1 ≡ node = cc in
        let others = every-key (λ q. path_cmp entry.0 q ≡ Less) (λ q. is_same_path path q ≡ false) (keys_of entries) (λ q less. same-by_order path q Less (ap (λ k. path_cmp k q) (path_cmp_exact path entry.0 p) ∙ less)) (sorted_head path_cmp entry.0 (keys_of entries) s) in
        ap (λ (n : Node). (entry.0, with_attributes given n) ∷ entries) (sym same)
        ∙ ap (λ (later : Listing). (entry.0, with_attributes given entry.1) ∷ later) (sym (at-none (is_same_path path) given entries others))
        ∙ head Equal p
    by Greater p f later = ap (λ (rest : Listing). entry ∷ rest) (later f) ∙ head Greater p

-- ---- a walk over what is beneath a path

-- the paths beneath that a walk comes to after a path
abbrev pub is_to_come : Names → Names → Names → Bool
is_to_come path after q = is_beneath path q && is_lt (path_cmp after q)

-- how many paths there are after one
abbrev pub paths_after : Names → List Names → ℕ
paths_after after [] = 0
paths_after after (path ∷ paths) = cond (is_lt (path_cmp after path)) (suc (paths_after after paths)) (paths_after after paths)

less_is : (r : Ordering) → is_lt r ≡ true → r ≡ Less
less_is Less e = refl
less_is Equal e = absurd (true≢false (sym e))
less_is Greater e = absurd (true≢false (sym e))

and_absorbs : (a b : Bool) → (a ≡ true → b ≡ true) → (a && b) ≡ a
and_absorbs true b h = h refl
and_absorbs false b h = refl

and-false : (a b : Bool) → b ≡ false → (a && b) ≡ false
and-false true b e = e
and-false false b e = refl

-- at first all are to come
pub to_come-all : (path : Names) (given : Attributes) (listing : Listing) → with_attributes_at (is_to_come path path) given listing ≡ with_attributes_at (is_beneath path) given listing
to_come-all path given listing =
    at-same (is_to_come path path) (is_beneath path) given listing (every-path (λ q. is_to_come path path q ≡ is_beneath path q) listing (λ q found. and_absorbs (is_beneath path q) (is_lt (path_cmp path q)) (λ y. ap is_lt (path_cmp-from_is_beneath path q y))))

-- where a walk has come to from a path
abbrev pub IsFrom : Names → Names → Type 0
IsFrom path after = (after ≡ path) ⊎ (path_cmp path after ≡ Less)

pub from-next : (path after next : Names) → IsFrom path after → path_cmp after next ≡ Less → path_cmp path next ≡ Less
from-next path after next from less = ⊎_elim (λ same. ap (λ k. path_cmp k next) (sym same) ∙ less) (λ l. path_cmp_total.trans path after next l less) from

module _ (listing : Listing) (path after next : Names) (tree : IsTree listing) (is : next_after listing after ≡ Some next) where
  least : IsLeastAbove listing after next
  least = rw is at (next_after-is_least_above listing after tree)

  pub next-less : path_cmp after next ≡ Less
  next-less = less_is (path_cmp after next) least.above

  pub next-there : IsSome (node_at listing next)
  next-there = least.there

  -- the next path, and what comes after it
  next-tests : is_beneath path next ≡ true → (q : Names) → IsSome (node_at listing q) → (is_same_path next q || is_to_come path next q) ≡ is_to_come path after q
  next-tests beneath q found = by (path_cmp next q) refl
    where
      by : (r : Ordering) → path_cmp next q ≡ r → (is_same_path next q || is_to_come path next q) ≡ is_to_come path after q
      by Less p =
          let later : path_cmp after q ≡ Less = path_cmp_total.trans after next q next-less p in
          rw (same-by_order next q Less p, p, later) refl
      by Equal p =
          let same : next ≡ q = path_cmp_exact next q p in
          rw (same-by_order next q Equal p) (subst (λ k. true ≡ is_to_come path after k) same (rw (beneath, next-less) refl))
      by Greater p =
          let earlier : is_lt (path_cmp after q) ≡ false = false_from_ne_true (is_lt (path_cmp after q)) (λ y. true≢false (sym (least.least q found y) ∙ ap is_le p)) in
          rw (same-by_order next q Greater p, p) (and-false (is_beneath path q) false refl ∙ sym (and-false (is_beneath path q) (is_lt (path_cmp after q)) earlier))

  -- what is given at the next path needn't be given later
  pub to_come-next : (given : Attributes) (node : Node) → is_beneath path next ≡ true → node_at listing next ≡ Some node
      → with_attributes_at (is_to_come path next) given (put_at listing next (with_attributes given node)) ≡ with_attributes_at (is_to_come path after) given listing
  to_come-next given node beneath found =
      ap (with_attributes_at (is_to_come path next) given) (at-put listing next given node tree.ordered found)
      ∙ at-twice (is_to_come path next) (is_same_path next) given listing (λ q same. and-false (is_beneath path q) (is_lt (path_cmp next q)) (not-less q (path_cmp next q) refl same))
      ∙ at-same (λ q. is_same_path next q || is_to_come path next q) (is_to_come path after) given listing (every-path (λ q. (is_same_path next q || is_to_come path next q) ≡ is_to_come path after q) listing (next-tests beneath))
    where
      not-less : (q : Names) (r : Ordering) → path_cmp next q ≡ r → is_same_path next q ≡ true → is_lt (path_cmp next q) ≡ false
      not-less q Less p same = absurd (true≢false (sym same ∙ same-by_order next q Less p))
      not-less q Equal p same = ap is_lt p
      not-less q Greater p same = ap is_lt p

-- what is not less than a path that is not beneath is not beneath either
past : (listing : Listing) (path after next q : Names) → IsFrom path after → IsLeastAbove listing after next → is_beneath path next ≡ false → IsSome (node_at listing q) → is_to_come path after q ≡ true → ⊥
past listing path after next q from least last found y =
    let parts = and_parts (is_beneath path q) (is_lt (path_cmp after q)) y in
    by (path_cmp next q) refl parts.0 (least.least q found parts.1)
  where
    by : (r : Ordering) → path_cmp next q ≡ r → is_beneath path q ≡ true → is_le (path_cmp next q) ≡ true → ⊥
    by Less p beneath le = true≢false (sym (is_beneath-between path next q (from-next path after next from (less_is (path_cmp after next) least.above)) p beneath) ∙ last)
    by Equal p beneath le = true≢false (sym beneath ∙ ap (is_beneath path) (sym (path_cmp_exact next q p)) ∙ last)
    by Greater p beneath le = true≢false (sym le ∙ ap is_le p)

-- nothing is to come where the next path is none, or is not beneath
pub to_come-none : (listing : Listing) (path after : Names) (given : Attributes) → IsTree listing → IsFrom path after → MatchOption (next_after listing after) ⊤ (λ next. is_beneath path next ≡ false) → with_attributes_at (is_to_come path after) given listing ≡ listing
to_come-none listing path after given tree from last =
    at-none (is_to_come path after) given listing (every-path (λ q. is_to_come path after q ≡ false) listing (by (next_after listing after) refl last))
  where
    by : (next : Option Names) → next_after listing after ≡ next → MatchOption next ⊤ (λ next. is_beneath path next ≡ false) → (q : Names) → IsSome (node_at listing q) → is_to_come path after q ≡ false
    by None e last q found =
        let none : NoneIsAbove listing after = rw e at (next_after-is_least_above listing after tree) in
        and-false (is_beneath path q) (is_lt (path_cmp after q)) (none q found)
    by (Some next) e last q found =
        let least : IsLeastAbove listing after next = rw e at (next_after-is_least_above listing after tree) in
        false_from_ne_true (is_to_come path after q) (past listing path after next q from least last found)

-- ---- how many are to come

paths_after-mono : (after next : Names) (paths : List Names) → path_cmp after next ≡ Less → paths_after next paths ≤ paths_after after paths
paths_after-mono after next [] less = omega arith
paths_after-mono after next (path ∷ paths) less = by (is_lt (path_cmp next path)) refl (paths_after-mono after next paths less)
  where
    by : (b : Bool) → is_lt (path_cmp next path) ≡ b → paths_after next paths ≤ paths_after after paths
        → cond b (suc (paths_after next paths)) (paths_after next paths) ≤ cond (is_lt (path_cmp after path)) (suc (paths_after after paths)) (paths_after after paths)
    by true l later = rw (path_cmp_total.trans after next path less (less_is (path_cmp next path) l)) (omega (arith, later))
    by false l later = ge (is_lt (path_cmp after path)) later
      where
        ge : (b : Bool) → paths_after next paths ≤ paths_after after paths → paths_after next paths ≤ cond b (suc (paths_after after paths)) (paths_after after paths)
        ge true later = omega (arith, later)
        ge false later = later

paths_after-keys : (t : Names → Bool) (given : Attributes) (listing : Listing) → keys_of (with_attributes_at t given listing) ≡ keys_of listing
paths_after-keys t given [] = refl
paths_after-keys t given (entry ∷ entries) = ap (λ (rest : List Names). entry.0 ∷ rest) (paths_after-keys t given entries)

paths_after-falls : (after next : Names) (listing : Listing) → path_cmp after next ≡ Less → IsSome (node_at listing next) → paths_after next (keys_of listing) < paths_after after (keys_of listing)
paths_after-falls after next [] less found = absurd (true≢false (sym found))
paths_after-falls after next (entry ∷ entries) less found = by (path_cmp next entry.0) refl (paths_after-mono after next (keys_of entries) less) found (paths_after-falls after next entries less)
  where
    by : (r : Ordering) → path_cmp next entry.0 ≡ r → paths_after next (keys_of entries) ≤ paths_after after (keys_of entries) → IsSome (cond (is_eq r) (Some entry.1) (node_at entries next)) → (IsSome (node_at entries next) → paths_after next (keys_of entries) < paths_after after (keys_of entries))
        → paths_after next (keys_of (entry ∷ entries)) < paths_after after (keys_of (entry ∷ entries))
    by Less p more f later = rw (p, path_cmp_total.trans after next entry.0 less p) (omega (arith, later f))
    by Equal p more f later = rw (p, ap (path_cmp after) (sym (path_cmp_exact next entry.0 p)) ∙ less) (omega (arith, more))
    by Greater p more f later = rw p (ge (is_lt (path_cmp after entry.0)) (later f))
      where
        ge : (b : Bool) → paths_after next (keys_of entries) < paths_after after (keys_of entries) → paths_after next (keys_of entries) < cond b (suc (paths_after after (keys_of entries))) (paths_after after (keys_of entries))
        ge true later = omega (arith, later)
        ge false later = later

pub to_come-fewer : (listing : Listing) (path after next : Names) (given : Attributes) (node : Node) → IsTree listing → next_after listing after ≡ Some next → node_at listing next ≡ Some node
    → paths_after next (keys_of (put_at listing next (with_attributes given node))) < paths_after after (keys_of listing)
to_come-fewer listing path after next given node tree is found =
    rw (at-put listing next given node tree.ordered found, paths_after-keys (is_same_path next) given listing)
    (paths_after-falls after next listing (next-less listing path after next tree is) (ap is_some found))

-- ---- no put of attributes has a fault

same-kind : (given : Attributes) (node : Node) → is_directory (with_attributes given node) ≡ is_directory node
same-kind given (Dir mode uid gid) = refl
same-kind given (File mode uid gid bytes) = refl
same-kind given (Link uid gid target) = refl

same-length : (given : Attributes) (node : Node) → content_length (with_attributes given node) ≡ content_length node
same-length given (Dir mode uid gid) = refl
same-length given (File mode uid gid bytes) = refl
same-length given (Link uid gid target) = refl

-- it takes the place of nothing but what stands there
takes_over-same : (listing : Listing) (path : Names) (given : Attributes) (node : Node) → IsTree listing → node_at listing path ≡ Some node → takes_over listing path (with_attributes given node) ≡ false
takes_over-same listing path given node tree found = by (is_directory node) refl
  where
    by : (b : Bool) → is_directory node ≡ b → takes_over listing path (with_attributes given node) ≡ false
    by true d = rw (same-kind given node, d) refl
    by false d = rw (same-kind given node, d) (takes_over-no_directory listing path node tree found d)

too_large-same : (listing : Listing) (path : Names) (given : Attributes) (node : Node) → IsTree listing → IsWithinLimits listing → node_at listing path ≡ Some node → is_too_large (put_at listing path (with_attributes given node)) ≡ false
too_large-same listing path given node tree limits found =
    let after = put_at listing path (with_attributes given node) in
    let few = length-put_at listing path (with_attributes given node) tree in
    let size = tree_size-put_at listing path (with_attributes given node) tree in
    let share : share_at listing path ≡ weight (path, node) = rw found refl in
    let same = same-length given node in
    let count : length after ≡ length listing + 0 = rw found at few in
    or_from _ _ (le-ltb 262144 (length after) (omega (arith, count, limits.few))) (le-ltb 268435456 (tree_size after) (omega (arith, size, share, same, limits.small)))

pub put_fault-same : (listing : Listing) (path : Names) (given : Attributes) (node : Node) → IsTree listing → IsWithinLimits listing → Some node ≡ node_at listing path → put_fault listing path (with_attributes given node) ≡ None
put_fault-same listing path given node tree limits found =
    rw (parent_fault-none listing path (parent_rule-standing listing path node tree found), takes_over-same listing path given node tree (sym found), too_large-same listing path given node tree limits (sym found)) refl

pub IsTree-put_same : (listing : Listing) (path : Names) (given : Attributes) (node : Node) → IsTree listing → Some node ≡ node_at listing path → InRange (with_attributes given node) → put_fault listing path (with_attributes given node) ≡ None → IsTree (put_at listing path (with_attributes given node))
IsTree-put_same listing path given node tree found range none =
    let at = key_from_lookup path_cmp_exact path IsPath listing (ap is_some (sym found)) tree.paths in
    IsTree-put_at listing path (with_attributes given node) tree at range none

-- ---- attributes given at a path, and then beneath it

pub covered-alone : (listing : Listing) (path : Names) (given : Attributes) (node : Node) → IsTree listing → node_at listing path ≡ Some node → put_at listing path (with_attributes given node) ≡ with_attributes_at (is_covered path false) given listing
covered-alone listing path given node tree found =
    at-put listing path given node tree.ordered found
    ∙ at-same (is_same_path path) (is_covered path false) given listing (every-path (λ q. is_same_path path q ≡ is_covered path false q) listing (λ q _. by (is_same_path path q)))
  where
    by : (b : Bool) → b ≡ (b || false)
    by true = refl
    by false = refl

pub covered-both : (listing : Listing) (path : Names) (given : Attributes) (node : Node) → IsTree listing → node_at listing path ≡ Some node → with_attributes_at (is_beneath path) given (put_at listing path (with_attributes given node)) ≡ with_attributes_at (is_covered path true) given listing
covered-both listing path given node tree found =
    ap (with_attributes_at (is_beneath path) given) (at-put listing path given node tree.ordered found)
    ∙ at-twice (is_beneath path) (is_same_path path) given listing (λ q same. false_from_ne_true (is_beneath path q) (λ y. true≢false (sym same ∙ same-by_order path q Less (path_cmp-from_is_beneath path q y))))

-- ---- what was given at a path

pub record IsGiven (listing : Listing) (path : Names) (given : Attributes) (after : Listing) : Type 0 where
  pub node : Node
  pub found : node_at listing path ≡ Some node
  pub is : after ≡ put_at listing path (with_attributes given node)

pub IsGiven-found : (listing : Listing) (path : Names) (given : Attributes) (after : Listing) → IsSome (node_at listing path) → IfSome (node_at listing path) (λ node. after ≡ put_at listing path (with_attributes given node)) → IsGiven listing path given after
IsGiven-found listing path given after there ok = by (node_at listing path) refl there ok
  where
    by : (found : Option Node) → node_at listing path ≡ found → IsSome found → IfSome found (λ node. after ≡ put_at listing path (with_attributes given node)) → IsGiven listing path given after
    by None e there ok = absurd (true≢false (sym there))
    by (Some node) e there ok = record { node = node; found = e; is = ok }

-- where a path and a node are put that are the same as these
pub IsTree-given : (listing : Listing) (path : Names) (given : Attributes) (node : Node) (at : Names) (new : Node) (after : Listing) → IsTree listing → Some node ≡ node_at listing path → at ≡ path → new ≡ with_attributes given node → InRange new
    → (put_fault listing at new ≡ None) × (after ≡ put_at listing at new) → IsTree after
IsTree-given listing path given node at new after tree found same made range put =
    let in_range = rw made at range in
    let fault = rw (same, made) at put.0 in
    let is = rw (same, made) at put.1 in
    rw is (IsTree-put_same listing path given node tree found in_range fault)

pub no_fault-given : (listing : Listing) (path : Names) (given : Attributes) (node : Node) (at : Names) (new : Node) (fault : PutFault) → IsTree listing → IsWithinLimits listing → Some node ≡ node_at listing path → at ≡ path → new ≡ with_attributes given node
    → put_fault listing at new ≡ Some fault → ⊥
no_fault-given listing path given node at new fault tree limits found same made put =
    let some = rw (same, made) at put in
    true≢false (ap is_some (sym some ∙ put_fault-same listing path given node tree limits found))

pub last-some : (path : Names) (found : Option Names) (next : Names) → found ≡ Some next → is_beneath path next ≡ false → MatchOption found ⊤ (λ next. is_beneath path next ≡ false)
last-some path found next e last = rw e last

pub last-none : (path : Names) (found : Option Names) → found ≡ None → MatchOption found ⊤ (λ next. is_beneath path next ≡ false)
last-none path found e = rw e tt
