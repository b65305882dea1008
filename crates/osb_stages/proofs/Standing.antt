-- What stands beneath a path: nothing, where nothing stands at the path.
use Rattle.std.proofs.Common.{◌≡◌, ℕ, ◌==◌, ◌++◌, List, [], ◌∷◌, length, Bool, true, false, not, cond, ◌&&◌, ◌||◌, Option, Some, None, is_some, refl, sym, ◌∙◌, ap, subst, append_assoc, true≢false, arith}
use Rattle.std.specs.Prelude.{IsSome, IsTrue, IsFalse}
use Rattle.std.specs.Option.{option_map_or}
use Rattle.std.specs.Cmp.Lexicographic.{pointwise, same_text}
use Rattle.std.proofs.lemmas.Bool.{and_parts, false_from_ne_true}
use Rattle.std.proofs.lemmas.List.{append-nil}
use Rattle.osb_tree.specs.Paths.{Names, is_beneath}
use Rattle.osb_tree.specs.Nodes.{is_directory}
use Rattle.osb_tree.specs.Trees.{Listing, IsTree, node_at, is_directory_at, has_beneath, next_after, takes_over}
use Rattle.osb_tree.specs.declared.nodes.Node.{Node}
use Rattle.osb_tree.proofs.PathOrder.{is_beneath-no_longer}
use Rattle.osb_tree.proofs.NextPaths.{next_after-is_least_above, has_beneath-next_after}
use Rattle.osb_tree.specs.declared.faults.StageFault.TheVariants.{NotAFile}
use Rattle.osb_stages.specs.Rules.{leaf_fault}
use Rattle.osb_stages.proofs.Ancestors.{directory-there}

-- what lies beneath a path begins with it
beneath-front : (path other : Names) → is_beneath path other ≡ true → (more : Names) × (other ≡ path ++ more)
beneath-front [] other h = (other, refl)
beneath-front (x ∷ path) [] h = absurd (true≢false (sym h))
beneath-front (x ∷ path) (y ∷ other) h =
    let parts = and_parts (pointwise ◌==◌ x y) (is_beneath path other) h in
    let rest = beneath-front path other parts.1 in
    let first : x ≡ y = same_text x y (sym parts.0) in
    (rest.0, ap (λ (z : List ℕ). z ∷ other) (sym first) ∙ ap (λ (zs : Names). x ∷ zs) rest.1)

front-stands : (listing : Listing) (path more : Names) → IsTree listing → IsSome (node_at listing (path ++ more)) → IsSome (node_at listing path)
front-stands listing path [] tree there = subst (λ q. IsSome (node_at listing q)) (append-nil path) there
front-stands listing path (name ∷ more) tree there =
    let child = front-stands listing (path ++ name ∷ []) more tree (subst (λ q. IsSome (node_at listing q)) (sym (append_assoc path (name ∷ []) more)) there) in
    (directory-there listing path (tree.parents path name child)).1

-- whatever stands in a tree stands beneath directories
directory-above : (listing : Listing) (path other : Names) → IsTree listing → is_beneath path other ≡ true → IsSome (node_at listing other) → IsTrue (is_directory_at listing path)
directory-above listing path other tree beneath there =
    let front = beneath-front path other beneath in
    by front.0 (subst (λ q. is_beneath path q ≡ true) front.1 beneath) (subst (λ q. IsSome (node_at listing q)) front.1 there)
  where
    by : (more : Names) → is_beneath path (path ++ more) ≡ true → IsSome (node_at listing (path ++ more)) → IsTrue (is_directory_at listing path)
    by [] beneath there = absurd (true≢false (sym (subst (λ q. is_beneath path q ≡ true) (append-nil path) beneath) ∙ is_beneath-no_longer path path (omega arith)))
    by (name ∷ more) beneath there = tree.parents path name (front-stands listing (path ++ name ∷ []) more tree (subst (λ q. IsSome (node_at listing q)) (sym (append_assoc path (name ∷ []) more)) there))

stands-above : (listing : Listing) (path other : Names) → IsTree listing → is_beneath path other ≡ true → IsSome (node_at listing other) → IsSome (node_at listing path)
stands-above listing path other tree beneath there =
    (directory-there listing path (directory-above listing path other tree beneath there)).1

has_beneath-nothing : (listing : Listing) (path : Names) → IsTree listing → node_at listing path ≡ None → has_beneath listing path ≡ false
has_beneath-nothing listing path tree none = has_beneath-next_after listing path tree.ordered ∙ by (next_after listing path) refl
  where
    by : (next : Option Names) → next_after listing path ≡ next → option_map_or (is_beneath path) next false ≡ false
    by None e = refl
    by (Some next) e =
        let is = rw e at (next_after-is_least_above listing path tree) in
        false_from_ne_true (is_beneath path next) (λ y. true≢false (sym (stands-above listing path next tree y is.there) ∙ ap is_some none))

-- so whatever is put there takes the place of nothing
pub takes_over-nothing : (listing : Listing) (path : Names) (node : Node) → IsTree listing → node_at listing path ≡ None → IsFalse (takes_over listing path node)
takes_over-nothing listing [] node tree none = absurd (true≢false (sym (directory-there listing [] tree.rooted).1 ∙ ap is_some none))
takes_over-nothing listing (name ∷ path) node tree none = by (is_directory node)
  where
    by : (b : Bool) → (not b && (length (name ∷ path) == 0 || has_beneath listing (name ∷ path))) ≡ false
    by true = refl
    by false = rw (has_beneath-nothing listing (name ∷ path) tree none) (grind arith)

directory_at-found : (listing : Listing) (path : Names) (node : Node) → node_at listing path ≡ Some node → is_directory_at listing path ≡ is_directory node
directory_at-found listing path node found = rw found refl

has_beneath-no_directory : (listing : Listing) (path : Names) → IsTree listing → is_directory_at listing path ≡ false → has_beneath listing path ≡ false
has_beneath-no_directory listing path tree none = has_beneath-next_after listing path tree.ordered ∙ by (next_after listing path) refl
  where
    by : (next : Option Names) → next_after listing path ≡ next → option_map_or (is_beneath path) next false ≡ false
    by None e = refl
    by (Some next) e =
        let is = rw e at (next_after-is_least_above listing path tree) in
        false_from_ne_true (is_beneath path next) (λ y. true≢false (sym (directory-above listing path next tree y is.there) ∙ none))

-- what is no directory takes the place of nothing else where what is none stands
pub takes_over-no_directory : (listing : Listing) (path : Names) (node : Node) → IsTree listing → node_at listing path ≡ Some node → is_directory node ≡ false → (length path == 0 || has_beneath listing path) ≡ false
takes_over-no_directory listing [] node tree found none = absurd (true≢false (sym tree.rooted ∙ directory_at-found listing [] node found ∙ none))
takes_over-no_directory listing (name ∷ path) node tree found none =
    rw (has_beneath-no_directory listing (name ∷ path) tree (directory_at-found listing (name ∷ path) node found ∙ none)) (grind arith)

-- a leaf takes the place of nothing else
pub takes_over-leaf : (listing : Listing) (path : Names) (node : Node) → IsTree listing → leaf_fault path (node_at listing path) ≡ None → IsFalse (takes_over listing path node)
takes_over-leaf listing path node tree none = by (node_at listing path) refl none
  where
    no_directory : (there : Node) → leaf_fault path (Some there) ≡ None → is_directory there ≡ false
    no_directory there e = from (is_directory there) e
      where
        from : (b : Bool) → cond b (Some (NotAFile path)) None ≡ None → b ≡ false
        from true e = absurd (true≢false (ap is_some e))
        from false e = refl

    and_false : (b c : Bool) → c ≡ false → (b && c) ≡ false
    and_false true c e = e
    and_false false c e = refl

    by : (found : Option Node) → node_at listing path ≡ found → leaf_fault path found ≡ None → IsFalse (takes_over listing path node)
    by None is e = takes_over-nothing listing path node tree is
    by (Some there) is e = and_false (not (is_directory node)) (length path == 0 || has_beneath listing path) (takes_over-no_directory listing path there tree is (no_directory there e))
