-- How pairs are read one after another: what is kept of those before, and which pair may come next.
use Rattle.std.specs.Prelude.{◌≡◌, ℕ, ◌+◌, ◌-◌, ◌<◌, ◌≤◌, ◌==◌, Bool, false, ◌&&◌, ◌||◌, length, nat_lt, Option, Some, None, IsTrue}
use Rattle.std.specs.Option.{option_map_or}
use Rattle.std.specs.Ordering.{is_lt}
use Rattle.std.specs.List.{slice_get, starts_with}
use Rattle.std.specs.Cmp.Lexicographic.{pointwise}
use Rattle.osb_tree.specs.Paths.{Names, parent_of, path_cmp}
use Rattle.osb_tree.specs.Nodes.{is_directory, InRange}
use Rattle.osb_tree.specs.Trees.{Listing, weight, tree_size}
use Rattle.osb_tree.specs.declared.nodes.Node.{Node}

abbrev pub last_of : Listing → Option (Names × Node)
last_of pairs = slice_get pairs (length pairs - 1)

-- what is kept of the pairs so far: the last one, how many they are, and what they add up to
pub record IsRead (pairs : Listing) (last : Option (Names × Node)) (count size : ℕ) : Type 0 where
  pub last_is : last ≡ last_of pairs
  pub count_is : count ≡ length pairs
  pub size_is : size ≡ tree_size pairs

-- whether a pair is right behind its directory or what is beneath that: the last pair is the directory, or lies beneath it
abbrev pub is_open : Names × Node → Names → Bool
is_open last parent = starts_with (pointwise ◌==◌) last.0 parent && (nat_lt (length parent) (length last.0) || is_directory last.1)

-- whether a listing goes on with a pair behind its last one; it begins with a directory as its root
abbrev pub goes_on : Option (Names × Node) → Names × Node → Bool
goes_on None pair = length pair.0 == 0 && is_directory pair.1
goes_on (Some last) pair = is_lt (path_cmp last.0 pair.0) && option_map_or (is_open last) (parent_of pair.0) false

-- whether a tree's listing can have a pair behind those that were read
pub record Fits (last : Option (Names × Node)) (count size : ℕ) (pair : Names × Node) : Type 0 where
  pub node : InRange pair.1
  pub place : IsTrue (goes_on last pair)
  pub few : count < 262144
  pub small : size + weight pair ≤ 268435456
