-- Stages that put files, links and directories make a tree of a tree.
use Rattle.std.proofs.Common.{◌≡◌, ℕ, ◌-◌, ◌==◌, ◌++◌, zero, suc, List, [], ◌∷◌, length, drop, map, Bool, true, false, ◌&&◌, ◌||◌, cond, Option, Some, None, is_some, Ok, Err, refl, arith, ltb-false}
use Rattle.std.specs.Prelude.{IfSome, nat_lt}
use Rattle.std.specs.List.{AllByRecursion, list_all, filter}
use Rattle.std.specs.Map.{keys_of, values_of, lookup}
use Rattle.std.specs.Cmp.Lexicographic.{pointwise}
use Rattle.std.proofs.lemmas.Bool.{and_parts}
use Rattle.osb_tree.specs.Paths.{Names, IsPath, is_name, is_beneath, path_text}
use Rattle.osb_tree.specs.Nodes.{InRange, is_directory}
use Rattle.osb_tree.specs.Trees.{Listing, IsTree, node_at, is_directory_at}
use Rattle.osb_tree.specs.declared.nodes.Node.{Node}
use Rattle.osb_tree.specs.declared.faults.Inputs.{Inputs}
use Rattle.osb_tree.specs.declared.faults.StageFault.TheVariants.{Asked, Exists, Missing, TreeTooLarge}
use Rattle.osb_stages.specs.Rules.{Effect, in_order, placed, parent_rule, directory, link}
use Rattle.osb_stages.proofs.Standing.{takes_over-nothing}
use Rattle.osb_files.specs.Error.{error}
use Rattle.osb_files.specs.Mkdir.{with_new_directory, with_directory, mkdir}
use Rattle.osb_files.specs.Symlink.{with_link, symlink}
use Rattle.osb_files.specs.Copy.{clash, received, copied, moved_entry, moved, with_top, copy_directory, last_name, destination_of, copy_node, copy_item, copy}
use Rattle.osb_files.specs.declared.error.Options.{Options as ErrorOptions}
use Rattle.osb_files.specs.declared.mkdir.Item.{Item as MkdirItem}
use Rattle.osb_files.specs.declared.mkdir.Options.{Options as MkdirOptions}
use Rattle.osb_files.specs.declared.symlink.Item.{Item as SymlinkItem}
use Rattle.osb_files.specs.declared.symlink.Options.{Options as SymlinkOptions}
use Rattle.osb_files.specs.declared.copy.Item.{Item as CopyItem}
use Rattle.osb_files.specs.declared.copy.Options.{Options as CopyOptions}
use Rattle.osb_files.proofs.Copies.{takes_over-from_clash}
use Rattle.osb_meanings.specs.Laws.{IsWithin}
use Rattle.osb_meanings.proofs.Gives.{GivesATree, one_of, gives-unless, gives-and_then, gives-in_order}
use Rattle.osb_meanings.proofs.Trees.{named-append, InRange-at, gives-placed, gives-new}
use Rattle.osb_meanings.proofs.Ranges.{IsMadeDirectory, IsMadeLink, IsCopy}

-- inputs by name are trees
abbrev pub AreTrees : List (List ℕ × Listing) → Type 0
AreTrees trees = AllByRecursion (λ input. IsWithin input.1) trees

pub error-gives : (options : ErrorOptions) (base : Listing) → IsWithin base → GivesATree (error options base)
error-gives options base is = one_of IsWithin (options.returncode == 0) (Ok base) (Err (Asked options.returncode)) (λ _. is) (λ _. tt)

-- ---- directories

gives-directory : (item : MkdirItem) (listing : Listing) → IsMadeDirectory item → IsWithin listing → GivesATree (with_directory item listing)
gives-directory item listing range is = by (node_at listing item.path) refl
  where
    node : Node
    node = directory item.mode

    owned : InRange node
    owned = (range.1, omega arith, omega arith)

    new : node_at listing item.path ≡ None → GivesATree (with_new_directory item listing)
    new none = one_of IsWithin item.parents _ _
        (λ _. gives-new item.path node listing is range.0 owned none)
        (λ _. gives-unless (parent_rule listing item.path) _ (λ above. gives-placed item.path node listing is range.0 owned above (takes_over-nothing listing item.path node is.tree none)))

    by : (found : Option Node) → node_at listing item.path ≡ found → GivesATree (with_directory item listing)
    by None e = rw e (new e)
    by (Some there) e = rw e (one_of IsWithin (item.exist_ok && is_directory there) (Ok listing) (Err (Exists item.path)) (λ _. is) (λ _. tt))

pub mkdir-gives : (options : MkdirOptions) (base : Listing) → AllByRecursion IsMadeDirectory options.paths → IsWithin base → GivesATree (mkdir options base)
mkdir-gives options base range is = gives-in_order IsMadeDirectory with_directory gives-directory options.paths base range is

-- ---- links

gives-link : (item : SymlinkItem) (listing : Listing) → IsMadeLink item → IsWithin listing → GivesATree (with_link item listing)
gives-link item listing range is = gives-unless (parent_rule listing item.link) _ (λ above. by above (node_at listing item.link) refl)
  where
    node : Node
    node = link item.target

    by : parent_rule listing item.link ≡ None → (found : Option Node) → node_at listing item.link ≡ found → GivesATree (cond (is_some found) (Err (Exists item.link)) (placed item.link node listing))
    by above None e = gives-placed item.link node listing is range.0 (omega arith, omega arith, range.1) above (takes_over-nothing listing item.link node is.tree e)
    by above (Some there) e = tt

pub symlink-gives : (options : SymlinkOptions) (base : Listing) → AllByRecursion IsMadeLink options.paths → IsWithin base → GivesATree (symlink options base)
symlink-gives options base range is = gives-in_order IsMadeLink with_link gives-link options.paths base range is

-- ---- copies

gives-received : (path : Names) (node : Node) (listing : Listing) → IsWithin listing → IsPath path → InRange node → GivesATree (received path node listing)
gives-received path node listing is at range =
    gives-unless (clash path (node_at listing path) node) _ (λ fits.
    gives-unless (parent_rule listing path) _ (λ above.
    gives-placed path node listing is at range above (takes_over-from_clash listing path node is.tree fits)))

-- a node that may come to its path, where that is not too long
abbrev MayCome : Names × Node → Type 0
MayCome entry = (list_all is_name entry.0 ≡ true) × InRange entry.1

gives-copied : (entry : Names × Node) (listing : Listing) → MayCome entry → IsWithin listing → GivesATree (copied entry listing)
gives-copied entry listing may is =
    one_of IsWithin (nat_lt 4096 (length (path_text entry.0))) (Err TreeTooLarge) (received entry.0 entry.1 listing) (λ _. tt) (λ short.
    gives-received entry.0 entry.1 listing is (record { named = may.0; short = ltb-false _ _ short }) may.1)

list_all-drop : {A : Type 0} (test : A → Bool) (count : ℕ) (items : List A) → list_all test items ≡ true → list_all test (drop count items) ≡ true
list_all-drop test zero items all = all
list_all-drop test (suc count) [] all = refl
list_all-drop test (suc count) (item ∷ items) all = list_all-drop test count items (and_parts (test item) (list_all test items) all).1

moved-may_come : (source destination : Names) (listing : Listing) → list_all is_name destination ≡ true → AllByRecursion IsPath (keys_of listing) → AllByRecursion InRange (values_of listing) → AllByRecursion MayCome (moved source destination listing)
moved-may_come source destination [] named paths nodes = tt
moved-may_come source destination (entry ∷ entries) named paths nodes = by (is_beneath source entry.0) (moved-may_come source destination entries named paths.1 nodes.1)
  where
    beneath : Listing
    beneath = filter (λ entry. is_beneath source entry.0) entries

    by : (b : Bool) → AllByRecursion MayCome (map (moved_entry source destination) beneath) → AllByRecursion MayCome (map (moved_entry source destination) (cond b (entry ∷ beneath) beneath))
    by true later = ((named-append destination (drop (length source) entry.0) named (list_all-drop is_name (length source) entry.0 paths.0.named), nodes.0), later)
    by false later = later

gives-copy_directory : (from : Listing) (source destination : Names) (node : Node) (listing : Listing) → IsTree from → IsPath destination → InRange node → IsWithin listing → GivesATree (copy_directory from source destination node listing)
gives-copy_directory from source destination node listing tree at range is =
    gives-and_then (with_top destination node listing) (in_order copied (moved source destination from))
    (one_of IsWithin (is_directory_at listing destination) (Ok listing) (received destination node listing) (λ _. is) (λ _. gives-received destination node listing is at range))
    (λ now _ made. gives-in_order MayCome copied gives-copied (moved source destination from) now (moved-may_come source destination from at.named tree.paths tree.nodes) made)

destination-named : (item : CopyItem) (listing : Listing) → IsCopy item → list_all is_name (destination_of item listing) ≡ true
destination-named item listing range = by (item.into || is_directory_at listing item.to)
  where
    by : (b : Bool) → list_all is_name (cond b (item.to ++ last_name item.source) item.to) ≡ true
    by true = named-append item.to (last_name item.source) range.1.named (list_all-drop is_name (length item.source - 1) item.source range.0.named)
    by false = range.1.named

-- what is looked up by a name is a tree
tree-looked_up : (test : List ℕ → Bool) (trees : List (List ℕ × Listing)) → AreTrees trees → IfSome (lookup test trees) IsWithin
tree-looked_up test [] are = tt
tree-looked_up test (input ∷ trees) are = by (test input.0) (tree-looked_up test trees are.1)
  where
    by : (b : Bool) → IfSome (lookup test trees) IsWithin → IfSome (cond b (Some input.1) (lookup test trees)) IsWithin
    by true later = are.0
    by false later = later

gives-copy_item : (inputs : Inputs) (item : CopyItem) (listing : Listing) → AreTrees inputs.trees → IsCopy item → IsWithin listing → GivesATree (copy_item inputs item listing)
gives-copy_item inputs item listing are range is = by (lookup is_called inputs.trees) refl (tree-looked_up is_called inputs.trees are)
  where
    is_called : List ℕ → Bool
    is_called name = pointwise ◌==◌ name item.input

    copy_found : Listing → Option Node → Effect
    copy_found from None = Err (Missing item.source)
    copy_found from (Some node) = cond (is_directory node) (copy_directory from item.source item.to node listing) (copy_node item node listing)

    found-gives : (from : Listing) → IsTree from → (found : Option Node) → IfSome found InRange → GivesATree (copy_found from found)
    found-gives from tree None none = tt
    found-gives from tree (Some node) in_range = one_of IsWithin (is_directory node) _ _
        (λ _. gives-copy_directory from item.source item.to node listing tree range.1 in_range is)
        (λ _. gives-copied (destination_of item listing, node) listing (destination-named item listing range, in_range) is)

    by : (found : Option Listing) → lookup is_called inputs.trees ≡ found → IfSome found IsWithin → GivesATree (copy_item inputs item listing)
    by None e none = rw e tt
    by (Some from) e within = rw e (found-gives from within.tree (node_at from item.source) (InRange-at from item.source within.tree))

pub copy-gives : (options : CopyOptions) (inputs : Inputs) (base : Listing) → AllByRecursion IsCopy options.paths → AreTrees inputs.trees → IsWithin base → GivesATree (copy options inputs base)
copy-gives options inputs base range are is = gives-in_order IsCopy (copy_item inputs) (λ item listing copy now. gives-copy_item inputs item listing are copy now) options.paths base range is
