-- A node that comes to a path, and what stands where after a directory was copied.
use Rattle.std.proofs.Common.{◌≡◌, ℕ, ◌==◌, ◌++◌, Bool, true, false, cond, not, ◌&&◌, List, [], ◌∷◌, length, drop, map, Option, Some, None, is_some, is_ok, Ok, Err, Less, is_eq, sym, refl, ap, subst, ◌∙◌, arith, true≢false}
use Rattle.std.specs.Prelude.{IsFalse, nat_lt}
use Rattle.std.specs.Option.{option_or}
use Rattle.std.specs.List.{filter, AllByRecursion}
use Rattle.std.specs.List.Sorted.{IsStrictlySortedBy}
use Rattle.std.specs.Map.{keys_of}
use Rattle.std.specs.Cmp.Lexicographic.{pointwise, lists_ties, texts_ties, same_text, nat_list_cmp_total}
use Rattle.std.proofs.lemmas.Bool.{and_parts, and_from, false_from_ne_true}
use Rattle.std.proofs.lemmas.List.{append-nil}
use Rattle.std.proofs.lemmas.Cmp.{tied_itself, eq_by_cmp_equiv}
use Rattle.std.proofs.lemmas.Map.Keys.{sorted_head, sorted_tail}
use Rattle.osb_tree.specs.Paths.{Names, is_beneath, joined, name_cmp, path_cmp, path_text}
use Rattle.osb_tree.specs.Nodes.{is_directory}
use Rattle.osb_tree.specs.Trees.{Listing, IsTree, is_directory_at, node_at, put_at, is_too_large, takes_over}
use Rattle.osb_tree.specs.Laws.{is_same_path}
use Rattle.osb_tree.specs.declared.nodes.Node.{Node}
use Rattle.osb_tree.specs.declared.faults.PathFault.TheVariants.{TooLong}
use Rattle.osb_tree.specs.declared.faults.StageFault.{StageFault}
use Rattle.osb_tree.specs.declared.faults.StageFault.TheVariants.{Exists, NotADir, TreeTooLarge}
use Rattle.osb_tree.proofs.Entries.{key_from_lookup}
use Rattle.osb_tree.proofs.PathLaws.{same_path}
use Rattle.osb_tree.proofs.PathOrder.{path_cmp_total, path_cmp_exact, is_beneath-no_longer}
use Rattle.osb_tree.proofs.Puts.{node_at-put_at}
use Rattle.osb_stages.specs.Rules.{Effect, and_then, in_order, unless, parent_rule}
use Rattle.osb_stages.proofs.Beneath.{takes_over-no_directory}
use Rattle.osb_files.specs.Copy.{clash, received, copied, moved, moved_entry, node_beneath, CopiesWhatIsBeneath}

-- ---- what a node may take the place of

clash-there : (path : Names) (there node : Node) → clash path (Some there) node ≡ None → is_directory node ≡ false → is_directory there ≡ false
clash-there path there node none n = by (is_directory there) (rw n at none)
  where
    by : (b : Bool) → cond (b && true) (Some (Exists path)) (cond (not b && false) (Some (NotADir path)) None) ≡ None → b ≡ false
    by true e = absurd (true≢false (ap is_some e))
    by false e = refl

no_directory-from_clash : (listing : Listing) (path : Names) (node : Node) → clash path (node_at listing path) node ≡ None → is_directory node ≡ false → is_directory_at listing path ≡ false
no_directory-from_clash listing path node none n = by (node_at listing path) refl
  where
    by : (found : Option Node) → node_at listing path ≡ found → is_directory_at listing path ≡ false
    by None e = rw e refl
    by (Some there) e = rw e (clash-there path there node (rw e at none) n)

-- where nothing clashes, nothing is lost beneath the path
pub takes_over-from_clash : (listing : Listing) (path : Names) (node : Node) → IsTree listing → clash path (node_at listing path) node ≡ None → IsFalse (takes_over listing path node)
takes_over-from_clash listing path node tree none = by (is_directory node) refl
  where
    by : (b : Bool) → is_directory node ≡ b → IsFalse (takes_over listing path node)
    by true d = rw d refl
    by false n = takes_over-no_directory listing path node tree (no_directory-from_clash listing path node none n)

-- ---- what one node that comes leaves

put-from_made : (long large : Bool) (clashes above : Option StageFault) (put after : Listing) → cond long (Err TreeTooLarge) (unless clashes (unless above (cond large (Err TreeTooLarge) (Ok put)))) ≡ Ok after → put ≡ after
put-from_made true large clashes above put after e = cc
put-from_made false large (Some fault) above put after e = cc
put-from_made false large None (Some fault) put after e = cc
put-from_made false true None None put after e = cc
put-from_made false false None None put after e = cc

put_at-from_copied : (entry : Names × Node) (listing after : Listing) → copied entry listing ≡ Ok after → put_at listing entry.0 entry.1 ≡ after
put_at-from_copied entry listing after e =
    let put = put_at listing entry.0 entry.1 in
    put-from_made (nat_lt 4096 (length (path_text entry.0))) (is_too_large put) (clash entry.0 (node_at listing entry.0) entry.1) (parent_rule listing entry.0) put after e

-- ---- what several leave, where their paths rise

or-cond : (b : Bool) (found : Option Node) (node : Node) (before : Option Node) → (b ≡ true → found ≡ None) → option_or found (cond b (Some node) before) ≡ option_or (cond b (Some node) found) before
or-cond true None node before h = refl
or-cond true (Some there) node before h = absurd (true≢false (ap is_some (h refl)))
or-cond false found node before h = refl

-- a path is not found among those above it
node_at-below : (path q : Names) (entries : Listing) → AllByRecursion (λ p. path_cmp path p ≡ Less) (keys_of entries) → is_same_path path q ≡ true → node_at entries q ≡ None
node_at-below path q entries more same = by (node_at entries q) refl
  where
    by : (found : Option Node) → node_at entries q ≡ found → found ≡ None
    by None e = refl
    by (Some node) e =
        let less = key_from_lookup path_cmp_exact q (λ p. path_cmp path p ≡ Less) entries (ap is_some e) more in
        absurd (true≢false (sym same ∙ lists_ties name_cmp texts_ties path q ∙ ap is_eq less))

is_at-same : (path q : Names) → is_eq (path_cmp q path) ≡ is_same_path path q
is_at-same path q = (eq_by_cmp_equiv path_cmp_total).symm q path ∙ sym (lists_ties name_cmp texts_ties path q)

node_at-in_order : (moves listing after : Listing) (q : Names) → IsStrictlySortedBy path_cmp (keys_of moves) → in_order copied moves listing ≡ Ok after → node_at after q ≡ option_or (node_at moves q) (node_at listing q)
node_at-in_order [] listing after q s e =
    let same : listing ≡ after = cc in
    ap (λ (l : Listing). node_at l q) (sym same)
node_at-in_order (entry ∷ moves) listing after q s e = by (copied entry listing) refl (λ between. node_at-in_order moves between after q (sorted_tail path_cmp entry.0 (keys_of moves) s)) e
  where
    by : (made : Effect) → copied entry listing ≡ made → ((between : Listing) → in_order copied moves between ≡ Ok after → node_at after q ≡ option_or (node_at moves q) (node_at between q)) → and_then (in_order copied moves) made ≡ Ok after → node_at after q ≡ option_or (cond (is_eq (path_cmp q entry.0)) (Some entry.1) (node_at moves q)) (node_at listing q)
    by (Err fault) p rest later = absurd (true≢false (sym (ap is_ok later)))
    by (Ok between) p rest later =
        let here = ap (λ (l : Listing). node_at l q) (sym (put_at-from_copied entry listing between p)) ∙ node_at-put_at listing entry.0 entry.1 q in
        rest between later
        ∙ ap (option_or (node_at moves q)) here
        ∙ or-cond (is_same_path entry.0 q) (node_at moves q) entry.1 (node_at listing q) (node_at-below entry.0 q moves (sorted_head path_cmp entry.0 (keys_of moves) s))
        ∙ ap (λ (b : Bool). option_or (cond b (Some entry.1) (node_at moves q)) (node_at listing q)) (sym (is_at-same entry.0 q))

-- ---- moved paths rise

path_cmp-append : (p a b : Names) → path_cmp (p ++ a) (p ++ b) ≡ path_cmp a b
path_cmp-append [] a b = refl
path_cmp-append (name ∷ p) a b = rw (tied_itself nat_list_cmp_total name) (path_cmp-append p a b)

append-beneath : (source q : Names) → is_beneath source q ≡ true → source ++ drop (length source) q ≡ q
append-beneath [] q y = refl
append-beneath (name ∷ source) [] y = absurd (true≢false (sym y))
append-beneath (name ∷ source) (first ∷ q) y =
    let parts = and_parts (pointwise ◌==◌ name first) (is_beneath source q) y in
    let same = same_text name first (sym parts.0) in
    rw same (ap (λ (rest : Names). first ∷ rest) (append-beneath source q parts.1))

path_cmp-moved : (source destination p q : Names) → is_beneath source p ≡ true → is_beneath source q ≡ true → path_cmp (destination ++ drop (length source) p) (destination ++ drop (length source) q) ≡ path_cmp p q
path_cmp-moved source destination p q a b =
    let rest = λ (names : Names). drop (length source) names in
    path_cmp-append destination (rest p) (rest q)
    ∙ sym (path_cmp-append source (rest p) (rest q))
    ∙ ap (λ (names : Names). path_cmp names (source ++ rest q)) (append-beneath source p a)
    ∙ ap (path_cmp p) (append-beneath source q b)

abbrev beneath : Names → Listing → Listing
beneath source listing = filter (λ entry. is_beneath source entry.0) listing

-- some entries, once they are moved, stand above a path that is moved too
abbrev AboveMoved : Names → Names → Names → Listing → Type 0
AboveMoved source destination p entries = AllByRecursion (λ q. path_cmp (destination ++ drop (length source) p) q ≡ Less) (keys_of (map (moved_entry source destination) entries))

above-moved : (source destination p : Names) (entries : Listing) → is_beneath source p ≡ true → AllByRecursion (λ q. path_cmp p q ≡ Less) (keys_of entries) → AboveMoved source destination p (beneath source entries)
above-moved source destination p [] y more = tt
above-moved source destination p (entry ∷ entries) y more = by (is_beneath source entry.0) refl (above-moved source destination p entries y more.1)
  where
    by : (b : Bool) → is_beneath source entry.0 ≡ b → AboveMoved source destination p (beneath source entries) → AboveMoved source destination p (cond b (entry ∷ beneath source entries) (beneath source entries))
    by true e later = (path_cmp-moved source destination p entry.0 y e ∙ more.0, later)
    by false e later = later

sorted-moved : (source destination : Names) (listing : Listing) → IsStrictlySortedBy path_cmp (keys_of listing) → IsStrictlySortedBy path_cmp (keys_of (moved source destination listing))
unfolding IsStrictlySortedBy
sorted-moved source destination [] s = tt
sorted-moved source destination (entry ∷ entries) s = by (is_beneath source entry.0) refl (sorted-moved source destination entries s.1)
  where
    by : (b : Bool) → is_beneath source entry.0 ≡ b → IsStrictlySortedBy path_cmp (keys_of (map (moved_entry source destination) (beneath source entries)))
        → IsStrictlySortedBy path_cmp (keys_of (map (moved_entry source destination) (cond b (entry ∷ beneath source entries) (beneath source entries))))
    by true e later = (above-moved source destination entry.0 entries e s.0, later)
    by false e later = later

-- ---- what moved paths have

is_beneath-append : (path rest : Names) (name : List ℕ) → is_beneath path (path ++ name ∷ rest) ≡ true
is_beneath-append [] rest name = refl
is_beneath-append (first ∷ path) rest name =
    and_from (pointwise ◌==◌ first first) (is_beneath path (path ++ name ∷ rest)) (texts_ties first first ∙ ap is_eq (tied_itself nat_list_cmp_total first)) (is_beneath-append path rest name)

is_beneath-moved : (source destination q : Names) → is_beneath source q ≡ true → is_beneath destination (destination ++ drop (length source) q) ≡ true
is_beneath-moved source destination q y = by (drop (length source) q) refl
  where
    by : (rest : Names) → drop (length source) q ≡ rest → is_beneath destination (destination ++ rest) ≡ true
    by [] e =
        let same = sym (append-nil source) ∙ ap (λ (rest : Names). source ++ rest) (sym e) ∙ append-beneath source q y in
        absurd (true≢false (sym y ∙ is_beneath-no_longer source q (omega (arith, ap length same))))
    by (name ∷ rest) e = is_beneath-append destination rest name

tied : (source destination q path : Names) → is_beneath destination q ≡ true → is_beneath source path ≡ true → path_cmp q (destination ++ drop (length source) path) ≡ path_cmp (source ++ drop (length destination) q) path
tied source destination q path d s =
    let there = drop (length source) path in
    let here = drop (length destination) q in
    ap (λ (names : Names). path_cmp names (destination ++ there)) (sym (append-beneath destination q d))
    ∙ path_cmp-append destination here there
    ∙ sym (path_cmp-append source here there)
    ∙ ap (path_cmp (source ++ here)) (append-beneath source path s)

apart_beneath : (source destination q path : Names) → is_beneath destination q ≡ true → is_beneath source path ≡ false → is_eq (path_cmp (source ++ drop (length destination) q) path) ≡ false
apart_beneath source destination q path d n =
    false_from_ne_true _ (λ e. true≢false (sym (is_beneath-moved destination source q d) ∙ ap (is_beneath source) (same_path (source ++ drop (length destination) q) path e) ∙ n))

apart_moved : (source destination q path : Names) → is_beneath destination q ≡ false → is_beneath source path ≡ true → is_eq (path_cmp q (destination ++ drop (length source) path)) ≡ false
apart_moved source destination q path n s =
    false_from_ne_true _ (λ e. true≢false (sym (is_beneath-moved source destination path s) ∙ ap (is_beneath destination) (sym (same_path q (destination ++ drop (length source) path) e)) ∙ n))

cond-either : (b : Bool) (found : Option Node) → found ≡ cond b found found
cond-either true found = refl
cond-either false found = refl

node_at-moved : (source destination q : Names) (from : Listing) → node_at (moved source destination from) q ≡ node_beneath from source destination q
node_at-moved source destination q [] = cond-either (is_beneath destination q) None
node_at-moved source destination q (entry ∷ entries) = by (is_beneath source entry.0) refl (is_beneath destination q) refl (node_at-moved source destination q entries)
  where
    by : (s : Bool) → is_beneath source entry.0 ≡ s → (d : Bool) → is_beneath destination q ≡ d
        → node_at (map (moved_entry source destination) (beneath source entries)) q ≡ cond d (node_at entries (source ++ drop (length destination) q)) None
        → node_at (map (moved_entry source destination) (cond s (entry ∷ beneath source entries) (beneath source entries))) q ≡ cond d (node_at (entry ∷ entries) (source ++ drop (length destination) q)) None
    by true s true d later = rw (tied source destination q entry.0 d s, later) refl
    by true s false n later = rw (apart_moved source destination q entry.0 n s) later
    by false n true d later = rw (apart_beneath source destination q entry.0 d n) later
    by false n false m later = later

pub node_at-copied : CopiesWhatIsBeneath
node_at-copied from listing after source destination q tree e =
    node_at-in_order (moved source destination from) listing after q (sorted-moved source destination from tree.ordered) e
    ∙ ap (λ (found : Option Node). option_or found (node_at listing q)) (node_at-moved source destination q from)

-- ---- a node that comes to a path that is formed

pub copied-joined : (to rest path : Names) (node : Node) (listing : Listing) (made : Effect) → Ok path ≡ joined to rest → received path node listing ≡ made → copied (to ++ rest, node) listing ≡ made
copied-joined to rest path node listing made e received_is = by (nat_lt 4096 (length (path_text (to ++ rest)))) e
  where
    by : (long : Bool) → Ok path ≡ cond long (Err TooLong) (Ok (to ++ rest)) → cond long (Err TreeTooLarge) (received (to ++ rest) node listing) ≡ made
    by true p = absurd (true≢false (ap is_ok p))
    by false p =
        let same : path ≡ to ++ rest = cc in
        subst (λ (names : Names). received names node listing ≡ made) same received_is
