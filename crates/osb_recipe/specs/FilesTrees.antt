-- The tree of a files input: a file for each of its items, under the item's digest.
use Rattle.std.specs.Prelude.{ℕ, List, [], ◌∷◌, slice_get, Result, Ok, Err, if◌then◌else◌}
use Rattle.std.specs.List.{filter_map}
use Rattle.sha2.specs.Sha256.{sha256}
use Rattle.osb_base.specs.Digests.{digest_text}
use Rattle.osb_tree.specs.Paths.{Names}
use Rattle.osb_tree.specs.Trees.{Listing, empty_tree, put_at, is_too_large}
use Rattle.osb_tree.specs.declared.nodes.Node.{Node}
use Rattle.osb_tree.specs.declared.nodes.Node.TheVariants.{File}
use Rattle.osb_tree.specs.declared.faults.PutFault.{PutFault}
use Rattle.osb_tree.specs.declared.faults.PutFault.TheVariants.{TooLarge}

-- the path of an item: `sha256:` and 64 hex digits
abbrev pub item_path : List ℕ → Names
item_path bytes = digest_text (sha256 bytes) ∷ []

-- mode 0644, owners 0
abbrev pub item_node : List ℕ → Node
item_node bytes = File 420 0 0 bytes

abbrev pub with_item : List ℕ → Listing → Listing
with_item bytes listing = put_at listing (item_path bytes) (item_node bytes)

-- a tree with items added, one after another, unless it grows too large
abbrev pub with_items : List (List ℕ) → Listing → Result Listing PutFault
with_items [] listing = Ok listing
with_items (bytes ∷ items) listing = if is_too_large (with_item bytes listing) then Err TooLarge else with_items items (with_item bytes listing)

-- nothing else but a root is in it
unfoldable pub files_tree : List (List ℕ) → Result Listing PutFault
files_tree items = with_items items empty_tree

-- the blobs with some numbers, which count from 0
abbrev pub blobs_at : List (List ℕ) → List ℕ → List (List ℕ)
blobs_at blobs numbers = filter_map (λ number. slice_get blobs number) numbers
