-- Trees stay trees: by a put under the rules of stages, and by directories made above a path.
use Rattle.std.proofs.Common.{◌≡◌, ℕ, ◌≤◌, ◌==◌, List, [], ◌∷◌, ◌++◌, length, length-append, take, Bool, true, false, not, Option, Some, None, Ok, Err, zero, suc, refl, sym, ◌∙◌, subst, arith, ltb-false, lit≤}
use Rattle.std.specs.Prelude.{IfOk, IfSome, IsFalse, nat_lt, slice_index}
use Rattle.std.specs.List.{list_all, list_any, flat_map}
use Rattle.std.proofs.lemmas.Bool.{and_parts, and_from, or_parts}
use Rattle.std.proofs.lemmas.List.{length-take-le}
use Rattle.std.proofs.lemmas.List.Folds.{list_all-append}
use Rattle.osb_tree.specs.Paths.{Names, IsPath, is_name, is_dots, has_byte, names_of, path_text, path_of, joined}
use Rattle.osb_tree.specs.Nodes.{InRange, IsMode, is_directory}
use Rattle.osb_tree.specs.Trees.{Listing, IsTree, node_at, put_at, takes_over, is_too_large}
use Rattle.osb_tree.specs.declared.nodes.Node.{Node}
use Rattle.osb_tree.specs.declared.faults.PathFault.TheVariants.{Empty, NotAbsolute, DotName, NulByte, TooLong}
use Rattle.osb_tree.specs.declared.faults.StageFault.TheVariants.{TreeTooLarge, NotADir}
use Rattle.osb_tree.proofs.PathLaws.{list_all-names_of}
use Rattle.osb_tree.proofs.Puts.{IsTree-from_PutFits}
use Rattle.osb_stages.specs.Rules.{Effect, and_then, placed, parent_rule, leaf_fault, with_leaf, directory, with_ancestors}
use Rattle.osb_stages.proofs.Ancestors.{with_ancestors-in_tree, parent_rule-with_ancestors, node_at-with_ancestors, with_ancestors-made, with_ancestors-above}
use Rattle.osb_stages.proofs.Placing.{parent_fault-none}
use Rattle.osb_stages.proofs.Standing.{takes_over-nothing, takes_over-leaf}
use Rattle.osb_stages.proofs.Found.{InRange-found}
use Rattle.osb_meanings.specs.Laws.{IsWithin}
use Rattle.osb_meanings.proofs.Gives.{GivesATree, one_of, gives-unless, gives-and_then}

-- ---- paths

list_all-take : {A : Type 0} (test : A → Bool) (count : ℕ) (items : List A) → list_all test items ≡ true → list_all test (take count items) ≡ true
list_all-take test zero items all = refl
list_all-take test (suc count) [] all = refl
list_all-take test (suc count) (item ∷ items) all =
    let parts = and_parts (test item) (list_all test items) all in
    and_from (test item) (list_all test (take count items)) parts.0 (list_all-take test count items parts.1)

length-text-take : (count : ℕ) (names : Names) → length (flat_map (λ n. 47 ∷ n) (take count names)) ≤ length (flat_map (λ n. 47 ∷ n) names)
length-text-take zero names = omega arith
length-text-take (suc count) [] = omega arith
length-text-take (suc count) (name ∷ names) =
    let more = length-text-take count names in
    omega (arith, length-append (47 ∷ name) (flat_map (λ n. 47 ∷ n) (take count names)), length-append (47 ∷ name) (flat_map (λ n. 47 ∷ n) names))

length-path_text-take : (count : ℕ) (names : Names) → length (path_text names) ≤ 4096 → length (path_text (take count names)) ≤ 4096
length-path_text-take zero names short = lit≤ tt
length-path_text-take (suc count) [] short = lit≤ tt
length-path_text-take (suc count) (name ∷ names) short =
    let more = length-text-take (suc count) (name ∷ names) in
    omega (arith, short)

-- the first names of a path are one
IsPath-take : (count : ℕ) (names : Names) → IsPath names → IsPath (take count names)
IsPath-take count names is = record { named = list_all-take is_name count names is.named; short = length-path_text-take count names is.short }

-- a text gives a path
pub path_of-gives : (text : List ℕ) → IfOk (path_of text) IsPath
path_of-gives text =
    one_of IsPath (length text == 0) (Err Empty) _ (λ _. tt) (λ _.
    one_of IsPath (not (slice_index text 0 == 47)) (Err NotAbsolute) _ (λ _. tt) (λ _.
    one_of IsPath (list_any is_dots (names_of text)) (Err DotName) _ (λ _. tt) (λ dots.
    one_of IsPath (has_byte 0 text) (Err NulByte) _ (λ _. tt) (λ nul.
    one_of IsPath (nat_lt 4096 (length (path_text (names_of text)))) (Err TooLong) (Ok (names_of text)) (λ _. tt) (λ short.
    record { named = list_all-names_of text dots nul; short = ltb-false _ _ short })))))

pub named-append : (names rest : Names) → list_all is_name names ≡ true → list_all is_name rest ≡ true → list_all is_name (names ++ rest) ≡ true
named-append names rest first second = list_all-append is_name names rest ∙ and_from (list_all is_name names) (list_all is_name rest) first second

-- and so does a path with more names
pub joined-gives : (names rest : Names) → list_all is_name names ≡ true → list_all is_name rest ≡ true → IfOk (joined names rest) IsPath
joined-gives names rest first second =
    one_of IsPath (nat_lt 4096 (length (path_text (names ++ rest)))) (Err TooLong) (Ok (names ++ rest)) (λ _. tt) (λ short.
    record { named = named-append names rest first second; short = ltb-false _ _ short })

-- ---- puts

-- what stands in a tree may stand there
pub InRange-at : (listing : Listing) (path : Names) → IsTree listing → IfSome (node_at listing path) InRange
InRange-at listing path tree = by (node_at listing path) refl
  where
    by : (found : Option Node) → node_at listing path ≡ found → IfSome found InRange
    by None e = tt
    by (Some node) e = InRange-found listing path node tree (sym e)

pub gives-placed : (path : Names) (node : Node) (listing : Listing) → IsWithin listing → IsPath path → InRange node → parent_rule listing path ≡ None → IsFalse (takes_over listing path node) → GivesATree (placed path node listing)
gives-placed path node listing is at range above fits = one_of IsWithin (is_too_large put) (Err TreeTooLarge) (Ok put) (λ _. tt) within
  where
    put : Listing
    put = put_at listing path node

    within : is_too_large put ≡ false → IsWithin put
    within small =
        let parts = or_parts _ _ small in
        record {
          tree = IsTree-from_PutFits listing path node is.tree at range (record { parent = parent_fault-none listing path above; place = fits; small = small });
          limits = record { few = ltb-false _ _ parts.0; small = ltb-false _ _ parts.1 };
        }

pub gives-with_leaf : (path : Names) (node : Node) (listing : Listing) → IsWithin listing → IsPath path → InRange node → GivesATree (with_leaf path node listing)
gives-with_leaf path node listing is at range =
    gives-unless (parent_rule listing path) _ (λ above.
    gives-unless (leaf_fault path (node_at listing path)) _ (λ leaf.
    gives-placed path node listing is at range above (takes_over-leaf listing path node is.tree leaf)))

-- ---- directories above a path

in_range-directory : (mode : ℕ) → IsMode mode → InRange (directory mode)
in_range-directory mode small = (small, omega arith, omega arith)

ancestors-by_length : (count : ℕ) (path : Names) (listing : Listing) → length path ≡ count → IsPath path → IsWithin listing → GivesATree (with_ancestors path listing)
ancestors-by_length count [] listing long at is = is
ancestors-by_length zero (name ∷ names) listing long at is = absurd (omega (arith, long))
ancestors-by_length (suc count) (name ∷ names) listing long at is =
    let front = take (length names) (name ∷ names) in
    let shorter = length-take-le (length names) (name ∷ names) (omega arith) in
    by (ancestors-by_length count front listing (omega (arith, shorter, long)) (IsPath-take (length names) (name ∷ names) at) is) (node_at listing parent) refl
  where
    path : Names
    path = name ∷ names

    parent : Names
    parent = take (length names) path

    at_parent : IsPath parent
    at_parent = IsPath-take (length names) path at

    made : node_at listing parent ≡ None → (above : Effect) → with_ancestors parent listing ≡ above → GivesATree above → GivesATree (with_ancestors path listing)
    made none (Err fault) e gives = rw (with_ancestors-above listing path parent fault refl e) tt
    made none (Ok between) e gives =
        let missing : node_at between parent ≡ None = node_at-with_ancestors listing between parent e ∙ none in
        let whole = with_ancestors-made listing between path parent (placed parent (directory 493) between) refl (sym none) e refl in
        let gives_placed = gives-placed parent (directory 493) between gives at_parent (in_range-directory 493 (omega arith)) (parent_rule-with_ancestors listing between parent e) (takes_over-nothing between parent (directory 493) gives.tree missing) in
        subst GivesATree (sym whole) gives_placed

    by : GivesATree (with_ancestors parent listing) → (found : Option Node) → node_at listing parent ≡ found → GivesATree (with_ancestors path listing)
    by above None e = made e (with_ancestors parent listing) refl above
    by above (Some node) e =
        let whole = with_ancestors-in_tree listing path parent node is.tree refl (sym e) in
        subst GivesATree (sym whole) (one_of IsWithin (is_directory node) (Ok listing) (Err (NotADir parent)) (λ _. is) (λ _. tt))

gives-with_ancestors : (path : Names) (listing : Listing) → IsPath path → IsWithin listing → GivesATree (with_ancestors path listing)
gives-with_ancestors path listing at is = ancestors-by_length (length path) path listing refl at is

-- a node put where nothing stands, after the directories above it
pub gives-new : (path : Names) (node : Node) (listing : Listing) → IsWithin listing → IsPath path → InRange node → node_at listing path ≡ None → GivesATree (and_then (placed path node) (with_ancestors path listing))
gives-new path node listing is at range none =
    gives-and_then (with_ancestors path listing) (placed path node) (gives-with_ancestors path listing at is) (λ after e made.
    gives-placed path node after made at range (parent_rule-with_ancestors listing after path e) (takes_over-nothing after path node made.tree (node_at-with_ancestors listing after path e ∙ none)))
