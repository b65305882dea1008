-- For private clauses: how an entry is read, and what is asked of it beside that none before it has its key.
use Rattle.std.specs.Prelude.{◌≡◌, ℕ, ◌+◌, ◌^◌, ◌≤◌, ◌==◌, Bool, true, not, ◌&&◌, List, [], ◌∷◌, ◌++◌, length, nat_lt, Option, Some, None, option_map, IfSome, Result, Ok, Err, sum_by}
use Rattle.std.specs.List.{list_all, list_any, AllByRecursion}
use Rattle.std.specs.BTreeSet.{BTreeSet, contains}
use Rattle.std.specs.Map.{keys_of}
use Rattle.std.specs.Ordering.{nat_cmp}
use Rattle.osb_tree.specs.Chunks.{pairs_of, chunks_of, is_cut}
use Rattle.osb_tree.specs.Paths.{Names, IsPath, is_name, has_byte, path_text}
use Rattle.osb_tree.specs.Readings.{goes_on}
use Rattle.osb_tree.specs.Trees.{Listing, weight, tree_size}
use Rattle.osb_tree.specs.declared.nodes.Node.{Node}
use Rattle.osb_tree.specs.declared.nodes.Node.TheVariants.{Dir, File, Link}
use Rattle.osb_cache.specs.declared.answers.Stored.{Stored}
use Rattle.osb_store.specs.Reading.{At, number_at, node_at, both_at, made_at, times_at, list_at, key_of}
use Rattle.osb_store.specs.Rules.{entry_size}
use Rattle.osb_store.specs.declared.steps.Stop.{Stop}
use Rattle.osb_store.specs.declared.steps.Stop.TheVariants.{Broken, Memory}

-- ---- reading

unfoldable pub pair_at : At (Names × Node)
pair_at = node_at

abbrev pub pairs_at : ℕ → At Listing
pairs_at = times_at pair_at

abbrev pub stored : ℕ × Listing → Stored Listing
stored parts = record { key = key_of parts.0; chunks = chunks_of parts.1 }

unfoldable pub entry_at : At (Stored Listing)
entry_at = made_at stored (both_at number_at (list_at pair_at))

-- what is read behind what was read before
abbrev pub behind : {X : Type 0} → List X → Option (List X × List ℕ) → Option (List X × List ℕ)
behind front piece = option_map (λ x. (front ++ x.0, x.1)) piece

-- as `Gives`, but what the bytes begin with may also be refused where it is not such a thing
abbrev pub Refuses : {Y : Type 0} → (Y → Type 0) → Stop → Option (Y × List ℕ) → Type 0
Refuses Such Broken piece = IfSome piece (λ y. Such y.0 → ⊥)
Refuses Such Memory piece = Unit {0}

abbrev pub GivesSuch : {X Y : Type 0} → (Y → Type 0) → (X → Y × List ℕ) → Result X Stop → Option (Y × List ℕ) → Type 0
GivesSuch Such seen (Ok x) piece = piece ≡ Some (seen x)
GivesSuch Such seen (Err stop) piece = Refuses Such stop piece

abbrev pub HasPath : Names × Node → Type 0
HasPath pair = IsPath pair.0

-- paths, and no more than the size of a tree
pub record AreReadable (pairs : Listing) : Type 0 where
  pub paths : AllByRecursion IsPath (keys_of pairs)
  pub small : tree_size pairs ≤ 268435456

-- ---- tests

abbrev pub is_path : Names → Bool
is_path names = list_all is_name names && not (nat_lt 4096 (length (path_text names)))

abbrev pub are_owners : ℕ → ℕ → Bool
are_owners uid gid = not (nat_lt 4294967294 uid) && not (nat_lt 4294967294 gid)

abbrev pub is_target : List ℕ → Bool
is_target target = nat_lt 0 (length target) && (not (nat_lt 4095 (length target)) && not (has_byte 0 target))

abbrev pub is_in_range : Node → Bool
is_in_range (Dir mode uid gid) = not (nat_lt 4095 mode) && are_owners uid gid
is_in_range (File mode uid gid bytes) = not (nat_lt 4095 mode) && are_owners uid gid
is_in_range (Link uid gid target) = are_owners uid gid && is_target target

-- whether a pair may stand behind those of which the last, the count and the size are told
abbrev pub may_follow : Option (Names × Node) → ℕ → ℕ → Names × Node → Bool
may_follow last count size pair =
    (is_path pair.0 && is_in_range pair.1) && (goes_on last pair && (nat_lt count 262144 && not (nat_lt 268435456 (size + weight pair))))

abbrev pub reads_on : Option (Names × Node) → ℕ → ℕ → Listing → Bool
reads_on last count size [] = true
reads_on last count size (pair ∷ pairs) = may_follow last count size pair && reads_on (Some pair) (count + 1) (size + weight pair) pairs

unfoldable pub is_of_a_tree : List Listing → Bool
is_of_a_tree chunks = is_cut chunks && reads_on None 0 0 (pairs_of chunks)

abbrev pub is_well_entry : ℕ → ℕ → Stored Listing → Bool
is_well_entry keys sum entry = nat_lt entry.key.0 keys && (is_of_a_tree entry.chunks && not (nat_lt (2 ^ 62) (sum + entry_size entry)))

abbrev pub is_entry : ℕ → List (Stored Listing) → Stored Listing → Bool
is_entry keys before entry = is_well_entry keys (sum_by entry_size before) entry && not (list_any (λ held. held.key.0 == entry.key.0) before)

-- ---- behind others

-- a set of the keys of these entries
abbrev pub AreKeysOf : BTreeSet ℕ → List (Stored Listing) → Type 0
AreKeysOf seen before = (key : ℕ) → contains nat_cmp seen key ≡ list_any (λ held. held.key.0 == key) before
