-- What stands where in a tree, written down as its listing: an entry for each path, sorted by path.
use Rattle.std.specs.Prelude.{ℕ, ◌+◌, ◌≤◌, ◌==◌, Bool, false, not, ◌&&◌, ◌||◌, List, [], ◌∷◌, ◌++◌, length, nat_lt, Option, Some, None, option_and_then, IsTrue, IsSome, if◌then◌else◌}
use Rattle.std.specs.Option.{option_or}
use Rattle.std.specs.Ordering.{is_lt}
use Rattle.std.specs.List.{sum_by, list_any, AllByRecursion}
use Rattle.std.specs.List.Sorted.{IsStrictlySortedBy}
use Rattle.std.specs.Map.{keys_of, values_of, lookup}
use Rattle.std.specs.BTreeMap.{is_at, insert_entry}
use Rattle.osb_tree.specs.Paths.{Names, root, IsPath, parent_of, is_beneath, path_text, path_cmp}
use Rattle.osb_tree.specs.Nodes.{is_directory, content_length, InRange}
use Rattle.osb_tree.specs.declared.nodes.Node.{Node}
use Rattle.osb_tree.specs.declared.nodes.Node.TheVariants.{Dir}
use Rattle.osb_tree.specs.declared.faults.PutFault.{PutFault}
use Rattle.osb_tree.specs.declared.faults.PutFault.TheVariants.{ParentMissing, ParentNotDir, NotEmpty, TooLarge}

abbrev pub Listing : Type 0
Listing = List (Names × Node)

-- what the listing has at a path
abbrev pub node_at : Listing → Names → Option Node
node_at listing path = lookup (is_at (path_cmp path)) listing

abbrev pub is_directory_at : Listing → Names → Bool
is_directory_at listing path = test (node_at listing path)
  where
    test : Option Node → Bool
    test None = false
    test (Some node) = is_directory node

-- what one path adds to the size: 64, and one for each byte of its text and of what it holds
abbrev pub weight : Names × Node → ℕ
weight entry = 64 + length (path_text entry.0) + content_length entry.1

abbrev pub tree_size : Listing → ℕ
tree_size listing = sum_by weight listing

-- when a listing is that of a tree: sorted, of true paths and nodes, and whatever stands in it stands in a directory of
-- it, but for the root, which is one
pub record IsTree (listing : Listing) : Type 0 where
  pub ordered : IsStrictlySortedBy path_cmp (keys_of listing)
  pub paths : AllByRecursion IsPath (keys_of listing)
  pub nodes : AllByRecursion InRange (values_of listing)
  pub rooted : IsTrue (is_directory_at listing root)
  pub parents : (path : Names) (name : List ℕ) → IsSome (node_at listing (path ++ name ∷ [])) → IsTrue (is_directory_at listing path)

-- how large a tree may be
pub record IsWithinLimits (listing : Listing) : Type 0 where
  pub few : length listing ≤ 262144
  pub small : tree_size listing ≤ 268435456

-- the empty tree has the root alone
abbrev pub empty_tree : Listing
empty_tree = (root, Dir 493 0 0) ∷ []

-- the listing with a node put at a path
abbrev pub put_at : Listing → Names → Node → Listing
put_at listing path node = insert_entry path_cmp listing path node

-- where a walk goes on after a path, which need not be in the listing: at the first one behind it
abbrev pub next_after : Listing → Names → Option Names
next_after [] after = None
next_after (entry ∷ entries) after = if is_lt (path_cmp after entry.0) then Some entry.0 else next_after entries after

-- whether something lies beneath a path
abbrev pub has_beneath : Listing → Names → Bool
has_beneath listing path = list_any (λ entry. is_beneath path entry.0) listing

-- what is wrong with what stands where a directory has to stand
abbrev pub directory_fault : Option Node → Option PutFault
directory_fault None = Some ParentMissing
directory_fault (Some node) = if is_directory node then None else Some ParentNotDir

-- what is wrong with the directory that a path would stand in: the root stands in none
abbrev pub parent_fault : Listing → Names → Option PutFault
parent_fault listing path = option_and_then (λ parent. directory_fault (node_at listing parent)) (parent_of path)

-- a file or link takes the place of no directory that has something beneath it, and not that of the root
abbrev pub takes_over : Listing → Names → Node → Bool
takes_over listing path node = not (is_directory node) && (length path == 0 || has_beneath listing path)

abbrev pub is_too_large : Listing → Bool
is_too_large listing = nat_lt 262144 (length listing) || nat_lt 268435456 (tree_size listing)

-- why a node can't be put at a path: the first cause that applies
abbrev pub put_fault : Listing → Names → Node → Option PutFault
put_fault listing path node =
    option_or (parent_fault listing path)
    (if takes_over listing path node then Some NotEmpty
    else if is_too_large (put_at listing path node) then Some TooLarge
    else None)
