-- Scans of a listing, entry by entry, and what a put makes of the place where a scan ends.
use Rattle.std.proofs.Common.{◌≡◌, ℕ, ◌+◌, ◌<◌, ◌≤◌, Bool, true, false, cond, not, [], ◌∷◌, length, drop, get_or, set, Some, None, Ordering, Less, Equal, Greater, is_eq, is_lt, is_le, sym, refl, ap, ◌∙◌, unwrap_or, suc, arith, add-one, true≢false}
use Rattle.std.proofs.Math.Seq.{drop-cons}
use Rattle.std.proofs.Math.Dec.{ltb}
use Rattle.std.proofs.lemmas.Bool.{cond-true, cond-false, ltb-false}
use Rattle.std.proofs.lemmas.List.Sums.{prefix_len-le-length}
use Rattle.osb_tree.proofs.PathOrder.{path_cmp_exact}
use Rattle.std.specs.Ordering.{match_ordering}
use Rattle.std.specs.List.{position_or_len, insert}
use Rattle.std.specs.Cmp.Lexicographic.{lists_ties, texts_ties}
use Rattle.osb_tree.specs.Paths.{Names, name_cmp, path_cmp}
use Rattle.osb_tree.specs.Trees.{Listing, node_at, next_after, put_at}
use Rattle.osb_tree.specs.declared.nodes.Node.{Node}
use Rattle.osb_tree.specs.Laws.{is_same_path}

-- the entries from a place on begin with the entry there
entries_from : (listing : Listing) (i : ℕ) (entry : Names × Node) → i < length listing → entry ≡ get_or listing i entry → drop i listing ≡ entry ∷ drop (i + 1) listing
entries_from listing i entry within is = rw add-one (drop-cons listing i entry within ∙ ap (λ e. e ∷ drop (suc i) listing) (sym is))

pub node_at-drop : (listing : Listing) (path : Names) (i : ℕ) (entry : Names × Node) → i < length listing → entry ≡ get_or listing i entry → node_at (drop i listing) path ≡ cond (is_eq (path_cmp path entry.0)) (Some entry.1) (node_at (drop (i + 1) listing) path)
node_at-drop listing path i entry within is = ap (λ entries. node_at entries path) (entries_from listing i entry within is)

pub next_after-drop : (listing : Listing) (after : Names) (i : ℕ) (entry : Names × Node) → i < length listing → entry ≡ get_or listing i entry → next_after (drop i listing) after ≡ cond (is_lt (path_cmp after entry.0)) (Some entry.0) (next_after (drop (i + 1) listing) after)
next_after-drop listing after i entry within is = ap (λ entries. next_after entries after) (entries_from listing i entry within is)

-- whether an entry doesn't stand before a path
abbrev pub is_from : Names → Names × Node → Bool
is_from path entry = is_le (path_cmp path entry.0)

-- how many entries stand before a path
abbrev pub place : Listing → Names → ℕ
place listing path = position_or_len (is_from path) listing

pub place-le-length : (listing : Listing) (path : Names) → place listing path ≤ length listing
place-le-length listing path = prefix_len-le-length (λ entry. not (is_from path entry)) listing

pub place-found : (listing : Listing) (path : Names) → unwrap_or (cond (ltb (place listing path) (length listing)) (Some (place listing path)) None) (length listing) ≡ place listing path
place-found listing path = by (ltb (place listing path) (length listing)) refl
  where
    by : (b : Bool) → ltb (place listing path) (length listing) ≡ b → unwrap_or (cond b (Some (place listing path)) None) (length listing) ≡ place listing path
    by true e = refl
    by false e = omega (arith, place-le-length listing path, ltb-false (place listing path) (length listing) e)

-- where another path stands at the place, or none does, a put inserts there
pub put_at-insert : (listing : Listing) (path : Names) (node : Node) (d : Names × Node) → (place listing path < length listing → is_eq (path_cmp path (get_or listing (place listing path) d).0) ≡ false)
    → insert listing (place listing path) (path, node) ≡ put_at listing path node
put_at-insert [] path node d apart = refl
put_at-insert (entry ∷ entries) path node d apart = by (path_cmp path entry.0) refl apart (put_at-insert entries path node d)
  where
    by : (r : Ordering) → path_cmp path entry.0 ≡ r
        → (cond (not (is_le r)) (1 + place entries path) 0 < length (entry ∷ entries) → is_eq (path_cmp path (get_or (entry ∷ entries) (cond (not (is_le r)) (1 + place entries path) 0) d).0) ≡ false)
        → ((place entries path < length entries → is_eq (path_cmp path (get_or entries (place entries path) d).0) ≡ false) → insert entries (place entries path) (path, node) ≡ put_at entries path node)
        → insert (entry ∷ entries) (cond (not (is_le r)) (1 + place entries path) 0) (path, node) ≡ match_ordering r ((path, node) ∷ entry ∷ entries) ((entry.0, node) ∷ entries) (entry ∷ put_at entries path node)
    by Less p apart later = refl
    by Equal p apart later = absurd (true≢false (sym (ap is_eq p) ∙ apart (omega arith)))
    by Greater p apart later =
        let next : 1 + place entries path ≡ suc (place entries path) = omega arith in
        let others = rw next at apart in
        rw next (ap (λ es. entry ∷ es) (later (λ l. others (omega (arith, l)))))

-- where the path itself stands there, a put replaces
pub put_at-set : (listing : Listing) (path : Names) (node : Node) (d : Names × Node) → place listing path < length listing → is_eq (path_cmp path (get_or listing (place listing path) d).0) ≡ true
    → set listing (place listing path) (path, node) ≡ put_at listing path node
put_at-set [] path node d within same = absurd (omega arith)
put_at-set (entry ∷ entries) path node d within same = by (path_cmp path entry.0) refl within same (put_at-set entries path node d)
  where
    by : (r : Ordering) → path_cmp path entry.0 ≡ r
        → cond (not (is_le r)) (1 + place entries path) 0 < length (entry ∷ entries) → is_eq (path_cmp path (get_or (entry ∷ entries) (cond (not (is_le r)) (1 + place entries path) 0) d).0) ≡ true
        → (place entries path < length entries → is_eq (path_cmp path (get_or entries (place entries path) d).0) ≡ true → set entries (place entries path) (path, node) ≡ put_at entries path node)
        → set (entry ∷ entries) (cond (not (is_le r)) (1 + place entries path) 0) (path, node) ≡ match_ordering r ((path, node) ∷ entry ∷ entries) ((entry.0, node) ∷ entries) (entry ∷ put_at entries path node)
    by Less p within same later = absurd (true≢false (sym same ∙ ap is_eq p))
    by Equal p within same later = ap (λ q. (q, node) ∷ entries) (path_cmp_exact path entry.0 p)
    by Greater p within same later =
        let next : 1 + place entries path ≡ suc (place entries path) = omega arith in
        let others = rw next at same in
        rw next (ap (λ es. entry ∷ es) (later (omega arith) others))

-- two paths are the same where they are equal in the order of paths
pub is_same_path-is_eq : (path q : Names) → is_same_path path q ≡ is_eq (path_cmp path q)
is_same_path-is_eq path q = lists_ties name_cmp texts_ties path q

-- where a scan has passed other paths only, it finds what the listing has at the path
pub node_at-found : (held listing : Listing) (path : Names) (i : ℕ) (entry : Names × Node) → held ≡ listing → node_at (drop i held) path ≡ node_at held path → i < length held → entry ≡ get_or held i entry → is_same_path path entry.0 ≡ true → Some entry.1 ≡ node_at listing path
node_at-found held listing path i entry e passed within is same =
    sym (node_at-drop held path i entry within is ∙ cond-true _ _ _ (sym (is_same_path-is_eq path entry.0) ∙ same)) ∙ passed ∙ ap (λ es. node_at es path) e

pub node_at-passed : (held : Listing) (path : Names) (i : ℕ) (entry : Names × Node) → node_at (drop i held) path ≡ node_at held path → i < length held → entry ≡ get_or held i entry → is_same_path path entry.0 ≡ false → node_at (drop (i + 1) held) path ≡ node_at held path
node_at-passed held path i entry passed within is other =
    sym (node_at-drop held path i entry within is ∙ cond-false _ _ _ (sym (is_same_path-is_eq path entry.0) ∙ other)) ∙ passed

-- a put into a copy of the listing
pub put_at-set_copy : (held listing : Listing) (path : Names) (node : Node) (at : ℕ) (entry : Names × Node) → held ≡ listing → at ≡ place listing path → at < length held → entry ≡ get_or held at entry → is_same_path path entry.0 ≡ true → set held at (path, node) ≡ put_at listing path node
put_at-set_copy held listing path node at entry e p within is same =
    let eq : is_eq (path_cmp path (get_or held at entry).0) ≡ true = ap (λ x. is_eq (path_cmp path x.0)) (sym is) ∙ sym (is_same_path-is_eq path entry.0) ∙ same in
    let there = rw e at within in
    let equal = rw e at eq in
    rw e (rw p (put_at-set listing path node entry (rw p at there) (rw p at equal)))

pub put_at-insert_end : (held listing : Listing) (path : Names) (node : Node) (at : ℕ) → held ≡ listing → at ≡ place listing path → length held ≤ at → insert held at (path, node) ≡ put_at listing path node
put_at-insert_end held listing path node at e p past =
    let end = rw e at past in
    rw e (rw p (put_at-insert listing path node (path, node) (λ l. absurd (omega (arith, l, rw p at end)))))

pub put_at-insert_copy : (held listing : Listing) (path : Names) (node : Node) (at : ℕ) (entry : Names × Node) → held ≡ listing → at ≡ place listing path → entry ≡ get_or held at entry → is_same_path path entry.0 ≡ false → insert held at (path, node) ≡ put_at listing path node
put_at-insert_copy held listing path node at entry e p is other =
    let eq : is_eq (path_cmp path (get_or held at entry).0) ≡ false = ap (λ x. is_eq (path_cmp path x.0)) (sym is) ∙ sym (is_same_path-is_eq path entry.0) ∙ other in
    let unequal = rw e at eq in
    rw e (rw p (put_at-insert listing path node entry (λ _. rw p at unequal)))
